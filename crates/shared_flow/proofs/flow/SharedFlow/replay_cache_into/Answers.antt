use Rattle.flow_terms.specs.declared.refusal.Refusal.TheVariants.{NoMemory}
use Rattle.shared_rounds.specs.Entering.{IsCalled}
use Rattle.shared_rounds.specs.Reach.{Reach}
use Rattle.shared_rounds.specs.Names.{SharedSeen}
use Rattle.std.proofs.Common.{rules, Ok, Err, sym, ap, subst}
use Rattle.shared_rounds.specs.declared.round.Round.TheVariants as round
use Rattle.shared_rounds.proofs.Doing.{is_called}
use Rattle.shared_flow.proofs.Making.{made}
use Rattle.shared_flow.proofs.flow.SharedFlow.replay_cache_into.Goals as goal

pub leave_cache-requires : goal.leave_cache-requires
leave_cache-requires g c =
    let found : SharedSeen = c.enter-inside.result.shared.value in
    let after : SharedSeen = c.replay_cache_into.new.self in
    record {
      round = is_called c.enter-inside.new.self found c.deref_mut.result.now after c.enter-inside.result.before (round.Cache (Ok after.sequencer.cache)) (ap (λ (r : Reach). r.held) c.enter-inside.ensures.taken)
          c.enter-inside.ensures.before c.deref_mut.ensures.value c.in-Ok.ensures.read c.replay_cache_into.ensures.asleep;
    }

pub leave-requires : goal.leave-requires
leave-requires g c =
    let found : SharedSeen = c.enter-inside.result.shared.value in
    let after : SharedSeen = c.replay_cache_into.new.self in
    let called = is_called c.enter-inside.new.self found c.deref_mut.result.now after c.enter-inside.result.before (round.Cache (Err NoMemory)) (ap (λ (r : Reach). r.held) c.enter-inside.ensures.taken)
    c.enter-inside.ensures.before c.deref_mut.ensures.value c.in-Err.ensures.unread c.replay_cache_into.ensures.asleep in
    record { round = subst (λ e. IsCalled c.enter-inside.new.self c.enter-inside.result.before (round.Cache (Err e)) after) (sym c.in-Err.ensures.memory) called }

pub returns-in-Ok-clause-ok : goal.returns-in-Ok-clause-ok
returns-in-Ok-clause-ok g c =
    let words = c.replay_cache_into.new.self.sequencer.cache in (
      words,
      c.in-Ok.ensures.ok,
      search rules,
      rw (← c.self.view_is) (made (round.Cache (Ok words)) c.self.inside.access c.enter-inside.new.self c.leave_cache.new.self c.enter-inside.result.shared.value c.enter-inside.ensures.taken c.enter-inside.ensures.found c.leave_cache.ensures.left),
    )

pub returns-in-Err-clause-unmade : goal.returns-in-Err-clause-unmade
returns-in-Err-clause-unmade g c =
    rw (← c.self.view_is, ← c.in-Err.ensures.memory) (made (round.Cache (Err c.in-Err.refusal)) c.self.inside.access c.enter-inside.new.self c.leave.new.self c.enter-inside.result.shared.value c.enter-inside.ensures.taken c.enter-inside.ensures.found c.leave.ensures.left)
