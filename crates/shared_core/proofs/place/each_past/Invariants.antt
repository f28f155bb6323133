use Rattle.std.proofs.Common.{◌≡◌, nat_lt, true, take}
use Rattle.std.specs.List.{list_all}
use Rattle.shared_core.proofs.place.each_past.Given as goal

abbrev pub invariant-loop-place : goal.invariant-loop-place
invariant-loop-place l = list_all (λ p. nat_lt l.number p.position) (take l.place-index l.places) ≡ true
