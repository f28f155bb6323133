-- What a lane is made of.
use Rattle.std.proofs.Common.{◌≡◌, None, arith}
use Rattle.std.proofs.lemmas.Grind.{common_steps}
use Rattle.shared_core.specs.Kept.{making_refusal}
use Rattle.shared_core.specs.declared.config.Config.{Config}
use Rattle.shared_lane.specs.Makes.{IsWithinBounds}

pub within_bounds : (c : Config) → making_refusal c ≡ None → IsWithinBounds c
within_bounds c allowed = record {
  places = grind (arith, common_steps);
  some_subscriber = grind (arith, common_steps);
  subscribers = grind (arith, common_steps);
  emits = grind (arith, common_steps);
  first = grind (arith, common_steps);
}
