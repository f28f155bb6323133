use Rattle.std.proofs.Common.{◌≡◌, ℕ, suc, ◌+◌, ◌-◌, ◌<◌, [], length, subst, ◌∙◌, arith}
use Rattle.std.proofs.lemmas.List.{length-set}
use Rattle.flow_terms.specs.declared.answers.Next.TheVariants.{Value, Nothing, Closed}
use Rattle.shared_core.proofs.BlockReceipts.{Takes, nothing_first, closed_first, nothing_later, closed_later}
use Rattle.hillgauze_c.proofs.Received.{one_more, ends}
use Rattle.hillgauze_c.proofs.receiving.receive_into.Goals as goal

pub loop-count-preserved : goal.loop-count-preserved
loop-count-preserved c =
    let before = c.args.values.now in
    let within : c.loop-count.count < length before = omega (arith, c.loop-count-test.true, c.loop-count.invariant.size) in
    let one_less : length before - c.loop-count.count ≡ suc (length before - (c.loop-count.count + 1)) = omega (arith, within) in
    let fronts = rw one_less at c.loop-count.invariant.fronts in
    let follows = rw c.in-Value.is at c.next.ensures in
    record {
      asked = c.loop-count.invariant.asked;
      size = length-set c.loop-count.values c.loop-count.count c.in-Value.value ∙ c.loop-count.invariant.size;
      within = omega (arith, within);
      fronts =
          one_more c.args.id.0 before c.loop-count.values c.args.shared.now c.loop-count.shared c.next.new.self c.loop-count.count
          (length before - (c.loop-count.count + 1)) c.in-Value.value within fronts follows;
    }

pub returns-in-Nothing : goal.returns-in-Nothing
returns-in-Nothing c =
    let before = c.args.values.now in
    let left = length before - c.loop-count.count - 1 in
    let one_less : length before - c.loop-count.count ≡ suc left = omega (arith, c.loop-count-test.true, c.loop-count.invariant.size) in
    let fronts = rw one_less at c.loop-count.invariant.fronts in
    let follows = rw c.in-Nothing.is at c.next.ensures in
    let vs = fronts.0 in
    ends c.args.id.0 before c.loop-count.values c.args.shared.now c.next.new.self c.loop-count.count Nothing vs fronts.1 fronts.2
    (nothing_first c.args.id.0 (length before) left c.args.shared.now c.loop-count.shared c.next.new.self [] vs (subst (λ k. Takes c.args.id.0 (length before) c.args.shared.now [] k vs (suc left) c.loop-count.shared) c.if-count-eq0.true fronts.3) follows)

pub returns-in-Closed : goal.returns-in-Closed
returns-in-Closed c =
    let before = c.args.values.now in
    let left = length before - c.loop-count.count - 1 in
    let one_less : length before - c.loop-count.count ≡ suc left = omega (arith, c.loop-count-test.true, c.loop-count.invariant.size) in
    let fronts = rw one_less at c.loop-count.invariant.fronts in
    let follows = rw c.in-Closed.is at c.next.ensures in
    let vs = fronts.0 in
    ends c.args.id.0 before c.loop-count.values c.args.shared.now c.next.new.self c.loop-count.count Closed vs fronts.1 fronts.2
    (closed_first c.args.id.0 (length before) left c.args.shared.now c.loop-count.shared c.next.new.self [] vs (subst (λ k. Takes c.args.id.0 (length before) c.args.shared.now [] k vs (suc left) c.loop-count.shared) c.if-count-eq0-2.true fronts.3) follows)

pub returns-in_default : goal.returns-in_default
returns-in_default c =
    let before = c.args.values.now in
    let left = length before - c.loop-count.count - 1 in
    let one_less : length before - c.loop-count.count ≡ suc left = omega (arith, c.loop-count-test.true, c.loop-count.invariant.size) in
    let fronts = rw one_less at c.loop-count.invariant.fronts in
    let some : c.loop-count.count ≡ suc (c.loop-count.count - 1) = omega (arith, c.if-count-eq0.false) in
    let follows = rw c.in-Nothing.is at c.next.ensures in
    let vs = fronts.0 in
    ends c.args.id.0 before c.loop-count.values c.args.shared.now c.next.new.self c.loop-count.count (Value c.loop-count.count) vs fronts.1 fronts.2
    (nothing_later c.args.id.0 (length before) c.loop-count.count (c.loop-count.count - 1) left c.args.shared.now c.loop-count.shared c.next.new.self [] vs some fronts.3 follows)

pub returns-in_default-2 : goal.returns-in_default-2
returns-in_default-2 c =
    let before = c.args.values.now in
    let left = length before - c.loop-count.count - 1 in
    let one_less : length before - c.loop-count.count ≡ suc left = omega (arith, c.loop-count-test.true, c.loop-count.invariant.size) in
    let fronts = rw one_less at c.loop-count.invariant.fronts in
    let some : c.loop-count.count ≡ suc (c.loop-count.count - 1) = omega (arith, c.if-count-eq0-2.false) in
    let follows = rw c.in-Closed.is at c.next.ensures in
    let vs = fronts.0 in
    ends c.args.id.0 before c.loop-count.values c.args.shared.now c.next.new.self c.loop-count.count (Value c.loop-count.count) vs fronts.1 fronts.2
    (closed_later c.args.id.0 (length before) c.loop-count.count (c.loop-count.count - 1) left c.args.shared.now c.loop-count.shared c.next.new.self [] vs some fronts.3 follows)
