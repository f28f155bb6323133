use Rattle.std.proofs.Common.{arith, length, ap, ◌≡◌, ◌∙◌, ℕ}
use Rattle.shared_lane.specs.Law.{received, lost}
use Rattle.shared_lane.proofs.Stories.{each_once}
use Rattle.shared_lane.proofs.reader.Reader.dropped.Goals as goal

pub overflow_sub-result-2 : goal.overflow_sub-result-2
overflow_sub-result-2 c = let s = c.self.inside in let inv = c.self.invariant in let r = s.seat.me.0.reading in let at = inv.at_is in let start = inv.start_is in let taken = inv.taken_is in let once = each_once s.start r.story in omega arith

pub returns-clause-lost : goal.returns-clause-lost
returns-clause-lost c = rw (← c.self.view_is) (let s = c.self.inside in let inv = c.self.invariant in let r = s.seat.me.0.reading in let at = inv.at_is in let start = inv.start_is in let taken = inv.taken_is in let once = each_once s.start r.story in
    let same : length (lost s.start r.story) ≡ length (lost r.start r.story) = ap (λ (z : ℕ). length (lost z r.story)) (Rattle.std.proofs.Common.sym start) in omega arith)

pub returns-clause-sum : goal.returns-clause-sum
returns-clause-sum c = rw (← c.self.view_is) (let s = c.self.inside in let inv = c.self.invariant in let r = s.seat.me.0.reading in let at = inv.at_is in let start = inv.start_is in let taken = inv.taken_is in let once = each_once s.start r.story in
    let same : length (received s.start r.story) ≡ length (received r.start r.story) = ap (λ (z : ℕ). length (received z r.story)) (Rattle.std.proofs.Common.sym start) in omega arith)
