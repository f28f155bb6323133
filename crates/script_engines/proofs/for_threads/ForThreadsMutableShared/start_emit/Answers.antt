use Rattle.std.proofs.Common.{◌≡◌, ◌∙◌, inr, rules, sym, subst}
use Rattle.std.proofs.lemmas.Option.{same_Some}
use Rattle.shared_flow.specs.Parties.{Emitting}
use Rattle.script_engines.specs.Parties.{Spares, with_spare}
use Rattle.script_engines.specs.Seen.{parties_of}
use Rattle.script_engines.proofs.Parties.{with_equal}
use Rattle.script_engines.proofs.for_threads.ForThreadsMutableShared.start_emit.Goals as goal

pub returns-in-Ok-Accepted : goal.returns-in-Ok-Accepted
returns-in-Ok-Accepted g c =
    let ready = c.in_ok-prepare.ensures.ready in
    inr (
      c.start_emit.result,
      c.start_emit.new.self,
      c.start_emit.ensures.round,
      search rules,
      rw (c.in-Ok-Accepted.is, c.in-Ok-Accepted.field-0-is) (
        ready.0,
        ready.3,
        with_equal (record (with_spare (parties_of c.args.self.now) c.prepare.new.flow ready.0) { emitter = c.start_emit.new.self }) c.prepare.new.spare c.reserve.new.self.items ready.1 c.in_ok-reserve.ensures.items,
      ),
    )

pub returns-in-Ok-Dropped : goal.returns-in-Ok-Dropped
returns-in-Ok-Dropped g c =
    let ready = c.in_ok-prepare.ensures.ready in
    inr (
      c.start_emit.result,
      c.start_emit.new.self,
      c.start_emit.ensures.round,
      search rules,
      rw (c.in-Ok-Dropped.is, c.in-Ok-Dropped.field-0-is) (
        ready.0,
        ready.3,
        with_equal (record (with_spare (parties_of c.args.self.now) c.prepare.new.flow ready.0) { emitter = c.start_emit.new.self }) c.prepare.new.spare c.reserve.new.self.items ready.1 c.in_ok-reserve.ensures.items,
      ),
    )

pub returns-in-Some : goal.returns-in-Some
returns-in-Some g c =
    let ready = c.in_ok-prepare.ensures.ready in
    let same : c.in-Some.spare ≡ ready.0 = same_Some _ _ (sym c.in-Some.is ∙ (c.take.ensures.value ∙ ready.1)) in
    inr (
      c.start_emit.result,
      c.start_emit.new.self,
      c.start_emit.ensures.round,
      search rules,
      rw (c.in-Ok-Waiting.is, c.in-Ok-Waiting.field-0-is) (
        c.in-Some.spare,
        subst (λ (e : Emitting). Spares c.args.self.now.spare c.args.self.now.subscriptions.flow e c.prepare.new.flow) (sym same) ready.3,
        search rules,
      ),
    )

pub returns-in-Err : goal.returns-in-Err
returns-in-Err g c =
    let ready = c.in_ok-prepare.ensures.ready in
    inr (
      c.start_emit.result,
      c.start_emit.new.self,
      c.start_emit.ensures.round,
      search rules,
      rw (c.in-Err.is) (
        ready.0,
        ready.3,
        with_equal (record (with_spare (parties_of c.args.self.now) c.prepare.new.flow ready.0) { emitter = c.start_emit.new.self }) c.prepare.new.spare c.reserve.new.self.items ready.1 c.in_ok-reserve.ensures.items,
      ),
    )
