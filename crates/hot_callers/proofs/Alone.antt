-- What a subscription has seen of a flow into which one emitter alone emitted.
use Rattle.std.proofs.Common.{◌≡◌, ◌⊎◌, ⊎_elim, inl, inr, ◌-◌, ℕ, List, [], ◌∷◌, map, take, drop, refl, sym, ap, ◌∙◌, subst}
use Rattle.std.proofs.lemmas.List.{take-append-drop}
use Rattle.std.specs.List.{AllByRecursion}
use Rattle.shared_lane.specs.Law.{Entry}
use Rattle.round_lock.specs.declared.log.TakenOwner.{TakenOwner}
use Rattle.round_lock.specs.History.After.{more as one_more}
use Rattle.shared_core.specs.Headline.{EndsWith}
use Rattle.shared_lane.specs.Caches.{word_of}
use Rattle.shared_lane.specs.Sequencers.{seen}
use Rattle.shared_rounds.specs.declared.round.Round.{Round}
use Rattle.shared_rounds.specs.declared.round.Round.TheVariants as round
use Rattle.shared_flow.specs.Emitted.{AreItsPart, Emissions, accepted, accepted_in_block, accepted_words, dropped, emitted, full, in_flight, refused, taken_up_words, withdrawn}
use Rattle.shared_flow.specs.Parties.{Emitting, Subscribed}
use Rattle.hot_callers.specs.Alone.{EmitsAlone, HasSeenItsLast, NothingEmitted}
use Rattle.hot_callers.specs.Receiving.{AreSettled}
use Rattle.hot_callers.proofs.Own.{accepted_are_own}
use Rattle.hot_callers.proofs.Speaking.{AreBy, IsBy, IsPartBy, are_by, each_before}

-- what was taken up was accepted, where all is settled
pub all_accepted : (xs : Emissions) → AreSettled xs → taken_up_words xs ≡ accepted_words xs
all_accepted [] settled = refl
all_accepted ((word, accepted n) ∷ xs) settled = ap (λ (l : List ℕ). word ∷ l) (all_accepted xs settled.1)
all_accepted ((word, accepted_in_block) ∷ xs) settled = ap (λ (l : List ℕ). word ∷ l) (all_accepted xs settled.1)
all_accepted ((word, dropped) ∷ xs) settled = all_accepted xs settled.1
all_accepted ((word, full) ∷ xs) settled = all_accepted xs settled.1
all_accepted ((word, refused refusal) ∷ xs) settled = all_accepted xs settled.1
all_accepted ((word, in_flight) ∷ xs) settled = absurd settled.0
all_accepted ((word, withdrawn) ∷ xs) settled = absurd settled.0

parts_by : (id pass : ℕ) (parts : List (TakenOwner Round)) → AllByRecursion (λ (p : TakenOwner Round). (p.pass ≡ pass) ⊎ NothingEmitted p.own) parts → AllByRecursion (IsPartBy id pass) parts
parts_by id pass [] each = tt
parts_by id pass (p ∷ parts) each =
    (⊎_elim (λ (same : p.pass ≡ pass). inl same) (λ (nothing : NothingEmitted p.own). inr (nothing id)) each.0, parts_by id pass parts each.1)

-- who made each round up to the meeting
pub alone_are : {T : Type 0} (e : Emitting) (s t : Subscribed T) (alone : EmitsAlone e s t) → (id : ℕ) → AreBy id e.party.pass alone.meets.made.before
alone_are e s t alone id =
    let pass = e.party.pass in
    let holder = alone.holder in
    let saw = alone.made.saw in
    let all = are_by id pass holder.pass holder.rounds holder.taken alone.made.before saw.rounds_are saw.taken_in.parts_are (saw.taken_in.all alone.has_all) (alone.quiet id)
    (parts_by id pass holder.taken alone.others) in
    each_before (IsBy id pass) alone.meets.made.before alone.later.0 (subst (AreBy id pass) alone.later.1 all)

-- the words of these entries, from an index on, end the whole
ends : (k : ℕ) (entries : List Entry) (words : List ℕ) → map word_of entries ≡ words → EndsWith (drop k (map word_of entries)) words
ends k entries words same = (take k (map word_of entries), sym same ∙ sym (take-append-drop k (map word_of entries)))

pub alone_law : {T : Type 0} (e : Emitting) (s t : Subscribed T) → AreItsPart e → AreSettled (emitted e) → (alone : EmitsAlone e s t) → HasSeenItsLast e s t alone
alone_law e s t own settled alone =
    let meets = alone.meets in
    let made = meets.made in
    let left = made.left in
    let left_by = one_more made.saw.made made.before made.found alone.before.pass (round.Hold meets.count) left made.saw.after made.does in
    let all = accepted_are_own e made.saw.made left made.before alone.before.pass meets.count own alone.all_rounds left_by (alone_are e s t alone) (all_accepted (emitted e) settled) in
    let has_seen : t.reader.seen ≡ seen left.sequencer = meets.has_met.has_seen_all ∙ sym meets.only.2 in record {
      accepted_are_its = all;
      ends_with_what_was_seen = ends (t.reader.start - t.reader.shape.first) t.reader.seen (accepted_words (emitted e)) (ap (map word_of) has_seen ∙ all);
    }
