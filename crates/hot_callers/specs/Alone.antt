-- A flow into which one emitter alone emitted: who knows that, and what a subscription has seen of it.
use Rattle.std.specs.Prelude.{◌≡◌, ◌⊎◌, ℕ, List, [], ◌∷◌, ◌++◌, map, Option, None}
use Rattle.std.specs.List.{AllByRecursion}
use Rattle.round_lock.specs.declared.log.TakenOwner.{TakenOwner}
use Rattle.flow_terms.specs.Lists.{IsPrefix}
use Rattle.round_lock.specs.History.{HasAll, own_of}
use Rattle.shared_core.specs.declared.config.Config.{Config}
use Rattle.shared_core.specs.Headline.{EndsWith}
use Rattle.shared_lane.specs.Caches.{word_of}
use Rattle.shared_lane.specs.Sequencers.{seen}
use Rattle.shared_lane.specs.declared.reader.Met.{Met}
use Rattle.shared_rounds.specs.declared.round.Round.{Round}
use Rattle.shared_rounds.specs.Entering.{Made}
use Rattle.shared_rounds.specs.Names.{FlowName, IsMadeWith}
use Rattle.shared_rounds.specs.Reach.{Party}
use Rattle.shared_flow.specs.Emitted.{AreItsPart, GrewBy, accepted_words, emitted}
use Rattle.shared_flow.specs.Owners.{Meets}
use Rattle.shared_flow.specs.Parties.{Emitting, IsSamePrelude, Subscribed, received, since_start}
use Rattle.shared_flow.specs.Queue.{taken_up}
use Rattle.hot_callers.specs.Exchanges.{IsSameParty}
use Rattle.hot_callers.specs.Receiving.{AreSettled, ReceivesItsOwn}

-- by none of these rounds was anything emitted, by whatever id
abbrev pub NothingEmitted : List Round → Type 0
NothingEmitted rounds = (id : ℕ) → AllByRecursion (λ (r : Round). taken_up id r ≡ []) rounds

-- An owner met the subscription `s`, which is `t` since then, after all rounds of the emitter. Later it made a round with the whole lock, which
-- it had with those that it had taken in; and of all these the emitter alone emitted.
pub record EmitsAlone {T : Type 0} (e : Emitting) (s t : Subscribed T) : Type 0 where
  pub before : Party
  pub after : Party
  pub counts : Met
  pub meets : Meets before after s t counts
  pub all_rounds : e.party.rounds ≡ own_of e.party.pass meets.made.before
  pub holder : Party
  pub left : Party
  pub last_round : Round
  pub made : Made last_round holder left
  pub later : IsPrefix meets.made.before made.before
  pub has_all : HasAll holder.halved holder.taken
  pub quiet : NothingEmitted holder.rounds
  pub others : AllByRecursion (λ (p : TakenOwner Round). (p.pass ≡ e.party.pass) ⊎ NothingEmitted p.own) holder.taken

-- What the flow had accepted up to the meeting are the words that the emitter emitted and that were accepted, in order; and the last of these
-- are what the subscription has seen since its start.
pub record HasSeenItsLast {T : Type 0} (e : Emitting) (s t : Subscribed T) (alone : EmitsAlone e s t) : Type 0 where
  pub accepted_are_its : map word_of (seen alone.meets.made.left.sequencer) ≡ accepted_words (emitted e)
  pub ends_with_what_was_seen : EndsWith (since_start t.reader) (accepted_words (emitted e))

abbrev pub EmitterAloneLaw : Type 0 → Type 0
EmitterAloneLaw T = (e : Emitting) (s t : Subscribed T) → AreItsPart e → AreSettled (emitted e) → (alone : EmitsAlone e s t) → HasSeenItsLast e s t alone

-- the same party, but for its rounds and for the list of rounds that it has seen, which emitted nothing meanwhile
abbrev pub OnlyReceives : Party → Party → Type 0
OnlyReceives p q = IsSameParty p q × (NothingEmitted p.rounds → NothingEmitted q.rounds)

-- a subscription has the same prelude as before, of which it may have been given more, and only received
abbrev pub OnlyTakes : {T : Type 0} → Subscribed T → Subscribed T → Type 0
OnlyTakes s t = IsSamePrelude s t × OnlyReceives s.party t.party

-- how a party stands with the one that takes it in
abbrev pub part_of : Party → TakenOwner Round
part_of p = record { pass = p.pass; halved = p.halved; own = p.rounds }

-- An owner, an emitter and a subscription have the whole lock of one flow between them; they took in nobody, and neither the owner nor the
-- subscription emitted anything.
pub record HaveWholeLock (owner emitter subscription : Party) : Type 0 where
  pub lock : (emitter.lock ≡ owner.lock) × (subscription.lock ≡ owner.lock)
  pub flow : subscription.flow ≡ owner.flow
  pub nobody_taken : (owner.taken ≡ []) × (emitter.taken ≡ []) × (subscription.taken ≡ [])
  pub has_all : HasAll owner.halved (part_of emitter ∷ part_of subscription ∷ [])
  pub quiet : NothingEmitted owner.rounds × NothingEmitted subscription.rounds

-- An owner took in an emitter and a subscription for good, with their rounds, of which the subscription's emitted nothing, and their shares of
-- the lock. It is else the owner that it was, but for its own rounds, and for the list of rounds that it has seen.
pub record TakesBoth (owner after emitter subscription : Party) : Type 0 where
  pub left : Party
  pub only_received : OnlyReceives subscription left
  pub taken : after.taken ≡ part_of emitter ∷ part_of left ∷ []
  pub same : after ≡ record owner { taken = after.taken; rounds = after.rounds; seen = after.seen }

-- They are of a new flow of this config: the emitter has emitted nothing, and the subscription, which has this prelude, received nothing.
pub record AreNew (config : Config) (prelude : List ℕ) (owner : Party) (e : Emitting) (s : Subscribed ℕ) : Type 0 where
  pub whole : HaveWholeLock owner e.party s.party
  pub config_is : IsMadeWith config owner.flow
  pub idle : e.ticket ≡ None
  pub nothing_emitted : emitted e ≡ []
  pub nothing_received : received (λ word. word) s ≡ []
  pub prelude_is : s.given ++ s.rest ≡ prelude

-- Where a flow is of this config, and all that the emitter emitted were these words, to their end, the subscription has received of its
-- prelude and then of the last of these words that were accepted, in order and once, less those that the policy dropped.
abbrev pub ReceivesOnlyIts : Option FlowName → Emitting → Subscribed ℕ → Type 0
ReceivesOnlyIts flow e s = (config : Config) (words : List ℕ) (n : ℕ) → IsMadeWith config flow → GrewBy [] words n (emitted e)
    → ReceivesItsOwn config.policy (s.given ++ s.rest) words (received (λ word. word) s)
