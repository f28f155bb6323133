use Rattle.std.proofs.Common.{◌<◌, ◌∙◌, length, arith}
use Rattle.more_merges.specs.RowLaws.{whole_more, whole_lacks}
use Rattle.more_merges.proofs.flows.row.list_all.Goals as goal

pub returns-in-None-clause-lacks : goal.returns-in-None-clause-lacks
returns-in-None-clause-lacks g c =
    let inside : c.loop-value.value-index < length c.args.latest.now = omega arith in
    λ h. whole_lacks c.args.latest.now c.loop-value.value-index inside (rw c.in-None.is at c.value-item.is)

pub loop-value-preserved : goal.loop-value-preserved
loop-value-preserved g c =
    let inside : c.loop-value.value-index < length c.args.latest.now = omega arith in
    record {
      whole = whole_more c.args.latest.now c.loop-value.value-index _ _ _ inside (rw c.in-Some.is at c.value-item.is) c.loop-value.invariant.whole
          c.push_reserved.ensures.items;
      many = omega (arith, c.push_reserved.ensures.len, c.loop-value.invariant.many);
      capacity = c.push_reserved.ensures.capacity ∙ c.loop-value.invariant.capacity;
    }
