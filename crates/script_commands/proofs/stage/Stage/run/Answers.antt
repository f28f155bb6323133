use Rattle.flow_merge.specs.Combine.{combine_trace}
use Rattle.flow_merge.specs.Zip.{zip_trace}
use Rattle.script_commands.specs.Piping.{made_by, sum, trace_of}
use Rattle.script_commands.specs.Sources.{origin_in}
use Rattle.script_commands.specs.Stages.{add, even, twice, take_first, drop_first, distinct, catch, done}
use Rattle.script_commands.proofs.Gathering.{ended_after, gathered_ends, taken, second_goes_on}
use Rattle.script_commands.proofs.stage.Stage.run.Goals as goal

pub of-requires : goal.of-requires
of-requires c =
    let before = trace_of c.args.before.now in
    (made_by (add c.in-Add.amount) before, c.map.ensures.exact before c.as_flow-flow.ensures, ended_after (add c.in-Add.amount) before (gathered_ends c.args.before.now))

pub of-requires-in-Even : goal.of-requires-in-Even
of-requires-in-Even c =
    let before = trace_of c.args.before.now in
    (made_by even before, c.filter.ensures.exact before c.as_flow-flow.ensures, ended_after even before (gathered_ends c.args.before.now))

pub of-requires-in-Twice : goal.of-requires-in-Twice
of-requires-in-Twice c =
    let before = trace_of c.args.before.now in
    (made_by twice before, c.transform.ensures.exact before c.as_flow-flow.ensures, ended_after twice before (gathered_ends c.args.before.now))

pub of-requires-in-Take : goal.of-requires-in-Take
of-requires-in-Take c =
    let before = trace_of c.args.before.now in
    (made_by (take_first c.in-Take.count) before, c.in_ok-take-in-Take.ensures.exact before c.as_flow-flow.ensures, ended_after (take_first c.in-Take.count) before (gathered_ends c.args.before.now))

pub of-requires-in-Drop : goal.of-requires-in-Drop
of-requires-in-Drop c =
    let before = trace_of c.args.before.now in
    (made_by (drop_first c.in-Drop.count) before, c.drop_first.ensures.exact before c.as_flow-flow.ensures, ended_after (drop_first c.in-Drop.count) before (gathered_ends c.args.before.now))

pub of-requires-in-Distinct : goal.of-requires-in-Distinct
of-requires-in-Distinct c =
    let before = trace_of c.args.before.now in
    (made_by distinct before, c.distinct.ensures.exact before c.as_flow-flow.ensures, ended_after distinct before (gathered_ends c.args.before.now))

pub of-requires-in-Catch : goal.of-requires-in-Catch
of-requires-in-Catch c =
    let before = trace_of c.args.before.now in
    (made_by (catch c.in-Catch.caught) before, c.catch_with.ensures.exact before c.as_flow-flow.ensures, ended_after (catch c.in-Catch.caught) before (gathered_ends c.args.before.now))

pub of-requires-in-Done : goal.of-requires-in-Done
of-requires-in-Done c =
    let before = trace_of c.args.before.now in
    (made_by (done c.in-Done.value) before, c.on_completion.ensures.exact before c.as_flow-flow.ensures, ended_after (done c.in-Done.value) before (gathered_ends c.args.before.now))

pub returns-in-Add : goal.returns-in-Add
returns-in-Add c =
    let before = trace_of c.args.before.now in
    rw c.in-Add.is (c.of.ensures (made_by (add c.in-Add.amount) before) (c.map.ensures.exact before c.as_flow-flow.ensures))

pub returns-in-Even : goal.returns-in-Even
returns-in-Even c =
    let before = trace_of c.args.before.now in
    rw c.in-Even.is (c.of-in-Even.ensures (made_by even before) (c.filter.ensures.exact before c.as_flow-flow.ensures))

pub returns-in-Twice : goal.returns-in-Twice
returns-in-Twice c =
    let before = trace_of c.args.before.now in
    rw c.in-Twice.is (c.of-in-Twice.ensures (made_by twice before) (c.transform.ensures.exact before c.as_flow-flow.ensures))

pub returns-in_ok-take-in-Take : goal.returns-in_ok-take-in-Take
returns-in_ok-take-in-Take c =
    let before = trace_of c.args.before.now in
    rw c.in-Take.is (taken c.in-Take.count before _ c.in_ok-take-in-Take.ensures.refused (c.of-in-Take.ensures (made_by (take_first c.in-Take.count) before) (c.in_ok-take-in-Take.ensures.exact before c.as_flow-flow.ensures)))

pub returns-in-Drop : goal.returns-in-Drop
returns-in-Drop c =
    let before = trace_of c.args.before.now in
    rw c.in-Drop.is (c.of-in-Drop.ensures (made_by (drop_first c.in-Drop.count) before) (c.drop_first.ensures.exact before c.as_flow-flow.ensures))

pub returns-in-Distinct : goal.returns-in-Distinct
returns-in-Distinct c =
    let before = trace_of c.args.before.now in
    rw c.in-Distinct.is (c.of-in-Distinct.ensures (made_by distinct before) (c.distinct.ensures.exact before c.as_flow-flow.ensures))

pub returns-in-Catch : goal.returns-in-Catch
returns-in-Catch c =
    let before = trace_of c.args.before.now in
    rw c.in-Catch.is (c.of-in-Catch.ensures (made_by (catch c.in-Catch.caught) before) (c.catch_with.ensures.exact before c.as_flow-flow.ensures))

pub returns-in-Done : goal.returns-in-Done
returns-in-Done c =
    let before = trace_of c.args.before.now in
    rw c.in-Done.is (c.of-in-Done.ensures (made_by (done c.in-Done.value) before) (c.on_completion.ensures.exact before c.as_flow-flow.ensures))

pub returns-in-Concat : goal.returns-in-Concat
returns-in-Concat c = rw c.in-Concat.is (c.concatenated.ensures (trace_of c.args.before.now) c.as_flow-flow.ensures)

pub zipped-requires-clause-left : goal.zipped-requires-clause-left
zipped-requires-clause-left c = (trace_of c.args.before.now, c.as_flow-flow.ensures, gathered_ends c.args.before.now)

pub zipped-requires-clause-right : goal.zipped-requires-clause-right
zipped-requires-clause-right c =
    let second = c.in_ok-second-in-Zip.second in
    (trace_of second, c.as_flow.ensures, gathered_ends second)

pub combined-requires-clause-left : goal.combined-requires-clause-left
combined-requires-clause-left c = (trace_of c.args.before.now, c.as_flow-flow.ensures, gathered_ends c.args.before.now)

pub combined-requires-clause-right : goal.combined-requires-clause-right
combined-requires-clause-right c =
    let second = c.in_ok-second-in-Combine.second in
    (trace_of second, c.as_flow-in-Combine.ensures, gathered_ends second)

pub concatenated-requires : goal.concatenated-requires
concatenated-requires c = (trace_of c.args.before.now, c.as_flow-flow.ensures, gathered_ends c.args.before.now)

pub returns-in_ok-second-in-Zip : goal.returns-in_ok-second-in-Zip
returns-in_ok-second-in-Zip c =
    let before = trace_of c.args.before.now in
    let second = trace_of c.in_ok-second-in-Zip.second in
    rw c.in-Zip.is (second_goes_on (zip_trace sum before) (origin_in c.in-Zip.source) second c.zipped.result c.in_ok-second-in-Zip.ensures
    (c.zipped.ensures before second c.as_flow-flow.ensures c.as_flow.ensures))

pub returns-in_ok-second-in-Combine : goal.returns-in_ok-second-in-Combine
returns-in_ok-second-in-Combine c =
    let before = trace_of c.args.before.now in
    let second = trace_of c.in_ok-second-in-Combine.second in
    rw c.in-Combine.is (second_goes_on (combine_trace sum before) (origin_in c.in-Combine.source) second c.combined.result c.in_ok-second-in-Combine.ensures
    (c.combined.ensures before second c.as_flow-flow.ensures c.as_flow-in-Combine.ensures))
