use Rattle.std.proofs.Common.{◌≡◌, ◌+◌, ◌<◌, [], ◌∷◌, ◌++◌, length, take, sym, ap, ◌∙◌, arith}
use Rattle.std.proofs.lemmas.List.{take_more, take_all}
use Rattle.shared_core.proofs.Running.{runs_push}
use Rattle.shared_core.proofs.state.SharedState.run.Goals as goal

pub loop-call-preserved : goal.loop-call-preserved
loop-call-preserved g c =
    let calls = c.args.calls.now in
    let i = c.loop-call.call-index in
    let within : i < length calls = omega arith in
    let more : take (i + 1) calls ≡ take i calls ++ c.call-item.result ∷ [] =
    take_more calls i c.call-item.result within ∙ ap (λ x. take i calls ++ x ∷ []) (sym c.call-item.is) in
    let ran = runs_push (take i calls) c.call-item.result c.args.self.now c.loop-call.self c.make.new.self c.args.out.now.items c.loop-call.out.items c.make.result
    c.loop-call.invariant.ran c.make.ensures in
    record {
      ran = rw (more, c.push_reserved.ensures.items) ran;
      room = omega (arith, c.loop-call.invariant.room, c.push_reserved.ensures.capacity, c.push_reserved.ensures.len);
    }

pub returns-clause-ok : goal.returns-clause-ok
returns-clause-ok g c =
    let calls = c.args.calls.now in
    let done : take c.loop-call.call-index calls ≡ calls = take_all c.loop-call.call-index calls (omega arith) in
    rw done at c.loop-call.invariant.ran
