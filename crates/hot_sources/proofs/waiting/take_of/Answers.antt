use Rattle.std.proofs.Common.{[], sym, rules}
use Rattle.std.proofs.lemmas.List.{append-nil}
use Rattle.std.proofs.lemmas.Result.{err_from_is_err_and}
use Rattle.cold_flow.specs.Polled.Gave.{nothing}
use Rattle.hot_sources.specs.WaitingLaws.{took_none, took_some}
use Rattle.hot_sources.proofs.Turning.{pended_on, took_whole, took_few}
use Rattle.hot_sources.proofs.waiting.take_of.Goals as goal

pub turns-init : goal.turns-init
turns-init g c = (0, took_none _ _ _ _, search rules)

pub turns-preserved : goal.turns-preserved
turns-preserved g c =
    let took = rw c.in_default-polled.is at c.take_ready-polled.ensures.took in
    pended_on g.S.Run.polled g.S.Run.may _ _ _ _ _ _ _ _ _ _ c.turns.invariant.1 c.turns.invariant.2 took

pub returns-then-count-eq0-clause-took : goal.returns-then-count-eq0-clause-took
returns-then-count-eq0-clause-took g c = ([], sym (append-nil _), sym c.if-count-eq0.true, nothing)

pub returns-in_err-begin-clause-refused : goal.returns-in_err-begin-clause-refused
returns-in_err-begin-clause-refused g c =
    let p = err_from_is_err_and c.from_residual.result c.from_residual.ensures.1 in
    rw (p.1, p.2) (c.in_err-begin.ensures, took_some _ _ _ _ _ _ _ (took_none _ g.S.Run.may _ _))

pub returns-in-Ready-clause-took : goal.returns-in-Ready-clause-took
returns-in-Ready-clause-took g c =
    let took = rw c.in-Ready.is at c.take_ready-polled.ensures.took in
    took_whole g.S.Run.polled g.S.Run.may _ _ _ _ _ _ _ _ _ _ c.in-Ready.taken c.turns.invariant.1 c.turns.invariant.2 took

pub returns-in-Ready-clause-refused : goal.returns-in-Ready-clause-refused
returns-in-Ready-clause-refused g c =
    let took = rw c.in-Ready.is at c.take_ready-polled.ensures.took in
    took_few g.S.Run.polled g.S.Run.may _ _ _ _ _ _ _ _ _ c.in-Ready.taken c.turns.invariant.1 took
