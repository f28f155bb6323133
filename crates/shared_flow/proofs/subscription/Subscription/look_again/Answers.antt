use Rattle.std.proofs.Common.{rules, [], ◌∷◌, ◌++◌, map, ◌≡◌, ◌≤◌, inl, inr, sym, ap, subst, ◌∙◌}
use Rattle.shared_lane.specs.declared.reader.Taken.{Taken}
use Rattle.shared_lane.specs.Readers.{at}
use Rattle.shared_lane.specs.Sequencers.{next}
use Rattle.shared_lane.specs.Views.{SequencerSeen}
use Rattle.shared_rounds.specs.declared.round.Round.TheVariants as round
use Rattle.shared_rounds.specs.Meeting.{Looked}
use Rattle.shared_rounds.specs.Names.{SharedSeen}
use Rattle.shared_rounds.specs.Reach.{Reach}
use Rattle.shared_rounds.specs.Rounds.{Comes, FreesAfter, HasFreed, look_round}
use Rattle.shared_rounds.specs.Waking.{SleepOn}
use Rattle.shared_rounds.proofs.Doing.{is_called, fell_asleep, none_asleep}
use Rattle.shared_flow.specs.Looks.{Missed}
use Rattle.shared_flow.specs.Parties.{words_received, taken_of, Subscribed}
use Rattle.shared_flow.proofs.Making.{made, missed_all, was_made_within}
use Rattle.shared_flow.proofs.Received.{took_next, received_more}
use Rattle.shared_flow.proofs.subscription.Subscription.look_again.Goals as goal

pub leave-requires : goal.leave-requires
leave-requires g c =
    let found : SharedSeen = c.enter-inside.result.shared.value in
    let number = c.self.inside.number in
    let came = subst (λ (x : Taken _). Comes c.deref_mut.result.now (look_round number x) c.look.new.self) c.in-Value.is c.look.ensures.does in
    record {
      round = is_called c.enter-inside.new.self found c.deref_mut.result.now c.look.new.self c.enter-inside.result.before (round.Next number) (ap (λ (r : Reach). r.held) c.enter-inside.ensures.taken)
          c.enter-inside.ensures.before c.deref_mut.ensures.value came c.look.ensures.asleep;
    }

pub leave-requires-in-Overtaken : goal.leave-requires-in-Overtaken
leave-requires-in-Overtaken g c =
    let found : SharedSeen = c.enter-inside.result.shared.value in
    let number = c.self.inside.number in
    let came = subst (λ (x : Taken _). Comes c.deref_mut.result.now (look_round number x) c.look.new.self) c.in-Overtaken.is c.look.ensures.does in
    record {
      round = is_called c.enter-inside.new.self found c.deref_mut.result.now c.look.new.self c.enter-inside.result.before (round.Pending number) (ap (λ (r : Reach). r.held) c.enter-inside.ensures.taken)
          c.enter-inside.ensures.before c.deref_mut.ensures.value came (none_asleep c.deref_mut.result.now c.look.new.self number c.look.ensures.asleep);
    }

-- the task goes to sleep after the look
pub leave-requires-in-Nothing : goal.leave-requires-in-Nothing
leave-requires-in-Nothing g c =
    let found : SharedSeen = c.enter-inside.result.shared.value in
    let before : SharedSeen = c.deref_mut.result.now in
    let looked : SharedSeen = c.deref_mut-in-Nothing.result.now in
    let last : SharedSeen = c.sleep_subscription.new.self in
    let number = c.self.inside.number in
    let is = sym c.deref_mut-in-Nothing.ensures.value in
    let came = subst (λ (x : Taken _). Comes before (look_round number x) c.look.new.self) c.in-Nothing.is c.look.ensures.does in
    let lain = fell_asleep before looked last number (subst (Comes before (round.Pending number)) is came) (subst (SleepOn before) is c.look.ensures.asleep)
    c.sleep_subscription.ensures.same c.sleep_subscription.ensures.asleep in
    record {
      round = is_called c.enter-inside.new.self found before last c.enter-inside.result.before (round.Pending number) (ap (λ (r : Reach). r.held) c.enter-inside.ensures.taken)
          c.enter-inside.ensures.before c.deref_mut.ensures.value lain.0 lain.1;
    }

pub returns-in-Value-clause-within : goal.returns-in-Value-clause-within
returns-in-Value-clause-within g c =
    let found : SharedSeen = c.enter-inside.result.shared.value in
    let before : SharedSeen = c.deref_mut.result.now in
    let freed = subst (λ (x : Taken _). FreesAfter x before c.look.new.self) c.in-Value.is c.look.ensures.freed in
    rw (← c.self.view_is) (was_made_within c.self.inside.number c.self.inside.access c.enter-inside.new.self c.leave.new.self found c.look.new.self c.enter-inside.ensures.taken c.enter-inside.ensures.found c.leave.ensures.left
    (subst (λ (s : SharedSeen). HasFreed s c.look.new.self) c.deref_mut.ensures.value freed))

pub returns-in-Nothing-clause-round : goal.returns-in-Nothing-clause-round
returns-in-Nothing-clause-round g c = rw (← c.self.view_is) (made (round.Pending c.self.inside.number) c.self.inside.access c.enter-inside.new.self c.leave-in-Nothing.new.self c.enter-inside.result.shared.value c.enter-inside.ensures.taken c.enter-inside.ensures.found c.leave-in-Nothing.ensures.left)

pub returns-in-Overtaken-clause-round : goal.returns-in-Overtaken-clause-round
returns-in-Overtaken-clause-round g c = rw (← c.self.view_is) (made (round.Pending c.self.inside.number) c.self.inside.access c.enter-inside.new.self c.leave-in-Overtaken.new.self c.enter-inside.result.shared.value c.enter-inside.ensures.taken c.enter-inside.ensures.found c.leave-in-Overtaken.ensures.left)

pub returns-in-Nothing-clause-pending : goal.returns-in-Nothing-clause-pending
returns-in-Nothing-clause-pending g c =
    let looked = subst (λ (x : Taken _). Looked c.self.inside.reader x c.look.new.reader) c.in-Nothing.is c.look.ensures.looked in
    subst (λ (s : Subscribed _). Missed s.reader c.look.new.reader) c.self.view_is (inl looked)

pub returns-in-Nothing-clause-nothing : goal.returns-in-Nothing-clause-nothing
returns-in-Nothing-clause-nothing g c =
    let found : SharedSeen = c.enter-inside.result.shared.value in
    let last : SharedSeen = c.sleep_subscription.new.self in
    let looked = subst (λ (x : Taken _). Looked c.self.inside.reader x c.look.new.reader) c.in-Nothing.is c.look.ensures.looked in
    let same : last.sequencer ≡ c.look.new.self.sequencer = ap (λ (s : SharedSeen). s.sequencer) c.sleep_subscription.ensures.same ∙ ap (λ (s : SharedSeen). s.sequencer) c.deref_mut-in-Nothing.ensures.value in
    let all = subst (λ (q : SequencerSeen). next q ≤ at c.look.new.reader) (sym same) (c.look.ensures.nothing c.in-Nothing.is) in
    rw (← c.self.view_is) (missed_all c.self.inside.number c.self.inside.access c.enter-inside.new.self c.leave-in-Nothing.new.self found last c.self.inside.reader c.look.new.reader
    c.enter-inside.ensures.taken c.enter-inside.ensures.found c.leave-in-Nothing.ensures.left looked all)

pub returns-in-Overtaken-clause-nothing : goal.returns-in-Overtaken-clause-nothing
returns-in-Overtaken-clause-nothing g c =
    let looked = subst (λ (x : Taken _). Looked c.self.inside.reader x c.look.new.reader) c.in-Overtaken.is c.look.ensures.looked in
    rw (← c.self.view_is) (record {
      made = made (round.Pending c.self.inside.number) c.self.inside.access c.enter-inside.new.self c.leave-in-Overtaken.new.self c.enter-inside.result.shared.value c.enter-inside.ensures.taken c.enter-inside.ensures.found c.leave-in-Overtaken.ensures.left;
      missed = inr looked;
    })

pub invariant_of-self : goal.invariant_of-self
invariant_of-self g c =
    let inside = c.self.inside in
    let t = c.look.new.reader in (
      search rules,
      search rules,
      search rules,
      search rules,
      (took_next inside.reader t c.look.result c.self.invariant.4 c.look.ensures.looked).0,
      inl (ap (λ (s : Subscribed _). s.rest) c.self.view_is ∙ c.requires.past),
    )

pub invariant_of-self-in-Nothing : goal.invariant_of-self-in-Nothing
invariant_of-self-in-Nothing g c =
    let inside = c.self.inside in
    let t = c.look.new.reader in (
      search rules,
      search rules,
      search rules,
      search rules,
      (took_next inside.reader t c.look.result c.self.invariant.4 c.look.ensures.looked).0,
      inl (ap (λ (s : Subscribed _). s.rest) c.self.view_is ∙ c.requires.past),
    )

pub invariant_of-self-in-Overtaken : goal.invariant_of-self-in-Overtaken
invariant_of-self-in-Overtaken g c =
    let inside = c.self.inside in
    let t = c.look.new.reader in (
      search rules,
      search rules,
      search rules,
      search rules,
      (took_next inside.reader t c.look.result c.self.invariant.4 c.look.ensures.looked).0,
      inl (ap (λ (s : Subscribed _). s.rest) c.self.view_is ∙ c.requires.past),
    )

pub returns-in-Value-clause-has : goal.returns-in-Value-clause-has
returns-in-Value-clause-has g c =
    let inside = c.self.inside in
    let read = g.T.Word.read_as in
    let t = c.look.new.reader in
    let took = took_next inside.reader t c.look.result c.self.invariant.4 c.look.ensures.looked in
    let more = took.1 ∙ ap (λ x. words_received inside.reader ++ taken_of x) c.in-Value.is in
    rw (← c.self.view_is) (received_more read inside.rest.given inside.reader t (c.in-Value.word ∷ []) more
    ∙ ap (λ v. (inside.rest.given ++ map read (words_received inside.reader)) ++ v ∷ []) (sym c.from_word.ensures))

pub returns-in-Nothing-clause-has : goal.returns-in-Nothing-clause-has
returns-in-Nothing-clause-has g c =
    let inside = c.self.inside in
    let read = g.T.Word.read_as in
    let t = c.look.new.reader in
    let took = took_next inside.reader t c.look.result c.self.invariant.4 c.look.ensures.looked in
    let more = took.1 ∙ ap (λ x. words_received inside.reader ++ taken_of x) c.in-Nothing.is in
    rw (← c.self.view_is) (received_more read inside.rest.given inside.reader t ([]) more)

pub returns-in-Overtaken-clause-has : goal.returns-in-Overtaken-clause-has
returns-in-Overtaken-clause-has g c =
    let inside = c.self.inside in
    let read = g.T.Word.read_as in
    let t = c.look.new.reader in
    let took = took_next inside.reader t c.look.result c.self.invariant.4 c.look.ensures.looked in
    let more = took.1 ∙ ap (λ x. words_received inside.reader ++ taken_of x) c.in-Overtaken.is in
    rw (← c.self.view_is) (received_more read inside.rest.given inside.reader t ([]) more)
