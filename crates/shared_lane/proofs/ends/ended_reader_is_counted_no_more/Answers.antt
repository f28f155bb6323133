use Rattle.std.proofs.Common.{arith, ℕ, List, lt_of_not-le}
use mathlib.Core.Logic.{dite}
use native.Mathlib.Decide.{dec_le}
use Rattle.shared_lane.proofs.Lists.{not_both}
use Rattle.shared_lane.specs.Surveys.{may_be_open}
use Rattle.shared_lane.proofs.Passes.{open_fewer}
use Rattle.shared_lane.proofs.ends.ended_reader_is_counted_no_more.Goals as goal

pub returns : goal.returns
returns c lane q r knows latest = let inside = knows.0 in let shut = knows.1 latest in (
  (λ count t counted. let ns : List ℕ = counted.0 in let long = counted.1 in let is = counted.3 in
      let here = counted.2.shut r.place (omega arith) shut in let few = open_fewer ns r.place (omega arith) here in omega arith),
  (λ s t one. dite (dec_le s.place r.place) (λ le. le) (λ gt. not_both (may_be_open q.view r.place) (one.none_before r.place (lt_of_not-le gt)) shut)),
  λ t none. let full = none.1 in let ns : List ℕ = full.0 in let long = full.1 in full.3 r.place (omega arith) (full.2.shut r.place (omega arith) shut),
)
