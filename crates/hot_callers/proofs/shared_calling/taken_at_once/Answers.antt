use Rattle.std.proofs.Common.{◌-◌, length, vec_capacity}
use Rattle.hot_callers.proofs.shared_calling.taken_at_once.Goals as goal

pub returns : goal.returns
returns c =
    let took = c.try_next_all.ensures.taken in
    let out = c.args.values.now in
    (took.0, took.1, c.taking_all_is_taking_each.ensures c.args.subscription.now c.try_next_all.new.self (vec_capacity out - length out.items) c.try_next_all.result took.0 took.2)
