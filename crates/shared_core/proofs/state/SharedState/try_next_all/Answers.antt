use Rattle.std.proofs.Common.{◌≡◌, ℕ, suc, ◌+◌, ◌-◌, ◌<◌, ◌≤◌, refl, arith, vec_capacity, vec_len}
use Rattle.shared_core.proofs.BlockReceipts.{begins, goes_on, nothing_first, closed_first, nothing_later, closed_later, whole}
use Rattle.shared_core.proofs.state.SharedState.try_next_all.Goals as goal

pub loop-id-init : goal.loop-id-init
loop-id-init g c =
    record {
      asked = refl;
      capacity = refl;
      counted = omega arith;
      takes = begins c.args.id.0 (vec_capacity c.args.out.now - vec_len c.args.out.now) c.args.self.now c.args.out.now.items;
    }

pub loop-id-smaller : goal.loop-id-smaller
loop-id-smaller g c =
    omega (arith, c.loop-id-test.true, c.len.ensures, c.capacity.ensures, c.push_reserved.ensures.len, c.push_reserved.ensures.capacity)

pub loop-id-preserved : goal.loop-id-preserved
loop-id-preserved g c =
    let room = vec_capacity c.args.out.now - vec_len c.args.out.now in
    let left = vec_capacity c.push_reserved.new.self - vec_len c.push_reserved.new.self in
    let one_less : vec_capacity c.loop-id.out - vec_len c.loop-id.out ≡ suc left =
    omega (arith, c.loop-id-test.true, c.len.ensures, c.capacity.ensures, c.push_reserved.ensures.len, c.push_reserved.ensures.capacity) in
    let takes = rw one_less at c.loop-id.invariant.takes in
    let follows = rw c.in-Value.is at c.next.ensures in
    let on =
    goes_on c.args.id.0 room c.loop-id.taken left c.args.self.now c.loop-id.self c.next.new.self c.args.out.now.items c.loop-id.out.items c.in-Value.value
    takes follows in
    record {
      asked = refl;
      capacity = omega (arith, c.loop-id.invariant.capacity, c.push_reserved.ensures.capacity);
      counted = omega (arith, c.loop-id.invariant.counted, c.push_reserved.ensures.len);
      takes = rw c.push_reserved.ensures.items on;
    }

pub returns-in-Nothing : goal.returns-in-Nothing
returns-in-Nothing g c =
    let room = vec_capacity c.args.out.now - vec_len c.args.out.now in
    let left = vec_capacity c.loop-id.out - vec_len c.loop-id.out - 1 in
    let one_less : vec_capacity c.loop-id.out - vec_len c.loop-id.out ≡ suc left =
    omega (arith, c.loop-id-test.true, c.len.ensures, c.capacity.ensures) in
    let takes = rw one_less at c.loop-id.invariant.takes in
    let none = rw c.if-taken-eq0.true at takes in
    let follows = rw c.in-Nothing.is at c.next.ensures in
    nothing_first c.args.id.0 room left c.args.self.now c.loop-id.self c.next.new.self c.args.out.now.items c.loop-id.out.items none follows

pub returns-in-Closed : goal.returns-in-Closed
returns-in-Closed g c =
    let room = vec_capacity c.args.out.now - vec_len c.args.out.now in
    let left = vec_capacity c.loop-id.out - vec_len c.loop-id.out - 1 in
    let one_less : vec_capacity c.loop-id.out - vec_len c.loop-id.out ≡ suc left =
    omega (arith, c.loop-id-test.true, c.len.ensures, c.capacity.ensures) in
    let takes = rw one_less at c.loop-id.invariant.takes in
    let none = rw c.if-taken-eq0-2.true at takes in
    let follows = rw c.in-Closed.is at c.next.ensures in
    closed_first c.args.id.0 room left c.args.self.now c.loop-id.self c.next.new.self c.args.out.now.items c.loop-id.out.items none follows

pub returns-in_default : goal.returns-in_default
returns-in_default g c =
    let room = vec_capacity c.args.out.now - vec_len c.args.out.now in
    let left = vec_capacity c.loop-id.out - vec_len c.loop-id.out - 1 in
    let one_less : vec_capacity c.loop-id.out - vec_len c.loop-id.out ≡ suc left =
    omega (arith, c.loop-id-test.true, c.len.ensures, c.capacity.ensures) in
    let takes = rw one_less at c.loop-id.invariant.takes in
    let some : c.loop-id.taken ≡ suc (c.loop-id.taken - 1) = omega (arith, c.if-taken-eq0.false) in
    let follows = rw c.in-Nothing.is at c.next.ensures in
    nothing_later c.args.id.0 room c.loop-id.taken (c.loop-id.taken - 1) left c.args.self.now c.loop-id.self c.next.new.self c.args.out.now.items c.loop-id.out.items some takes follows

pub returns-in_default-2 : goal.returns-in_default-2
returns-in_default-2 g c =
    let room = vec_capacity c.args.out.now - vec_len c.args.out.now in
    let left = vec_capacity c.loop-id.out - vec_len c.loop-id.out - 1 in
    let one_less : vec_capacity c.loop-id.out - vec_len c.loop-id.out ≡ suc left =
    omega (arith, c.loop-id-test.true, c.len.ensures, c.capacity.ensures) in
    let takes = rw one_less at c.loop-id.invariant.takes in
    let some : c.loop-id.taken ≡ suc (c.loop-id.taken - 1) = omega (arith, c.if-taken-eq0-2.false) in
    let follows = rw c.in-Closed.is at c.next.ensures in
    closed_later c.args.id.0 room c.loop-id.taken (c.loop-id.taken - 1) left c.args.self.now c.loop-id.self c.next.new.self c.args.out.now.items c.loop-id.out.items some takes follows

pub returns : goal.returns
returns g c =
    let none : vec_capacity c.loop-id.out - vec_len c.loop-id.out ≡ 0 =
    omega (arith, c.loop-id-test.false, c.len.ensures, c.capacity.ensures) in
    let takes = rw none at c.loop-id.invariant.takes in
    whole c.args.id.0 (vec_capacity c.args.out.now - vec_len c.args.out.now) c.loop-id.taken c.args.self.now c.loop-id.self c.args.out.now.items
    c.loop-id.out.items takes
