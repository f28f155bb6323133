use Rattle.std.proofs.Common.{◌^◌, arith}
use Rattle.log_callers.proofs.Counting.{counts_nothing, counts_next, counts_all, fits, of_refusal, stops_at}
use Rattle.log_callers.proofs.counter.count_accepted.Goals as goal

pub loop-value-init : goal.loop-value-init
loop-value-init g c = record { idle = c.requires.idle; counted = counts_nothing c.args.emitter.now }

pub overflow_add-total : goal.overflow_add-total
overflow_add-total g c =
    let small = fits c.args.emitter.now c.loop-value.emitter c.try_one.new.emitter c.args.values.now c.loop-value.value-index c.loop-value.total c.in_ok-taken.taken (2 ^ 64)
    c.loop-value-test.true c.requires.small c.loop-value.invariant.counted c.in_ok-taken.ensures.counted in
    omega (arith, small)

pub loop-value-preserved : goal.loop-value-preserved
loop-value-preserved g c = record {
  idle = c.try_one.ensures.idle;
  counted = counts_next c.args.emitter.now c.loop-value.emitter c.try_one.new.emitter c.args.values.now c.loop-value.value-index c.loop-value.total c.in_ok-taken.taken
      c.loop-value-test.true c.loop-value.invariant.counted c.in_ok-taken.ensures.counted;
}

pub returns-in_err-taken-clause-stops : goal.returns-in_err-taken-clause-stops
returns-in_err-taken-clause-stops g c =
    of_refusal c.from_residual.result
    (stops_at c.args.emitter.now c.loop-value.emitter c.try_one.new.emitter c.args.values.now c.loop-value.value-index c.loop-value.total c.loop-value-test.true
    c.loop-value.invariant.counted c.in_err-taken.ensures.stops)

pub returns-clause-counted : goal.returns-clause-counted
returns-clause-counted g c =
    counts_all c.args.emitter.now c.loop-value.emitter c.args.values.now c.loop-value.value-index c.loop-value.total c.loop-value-test.false c.loop-value.invariant.counted
