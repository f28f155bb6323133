-- What a caller has of a state's sharing: what it took of its upstream, in order, each value set once.
use Rattle.std.specs.Prelude.{◌≡◌, ◌⊎◌, ℕ, List, [], ◌∷◌}
use Rattle.cold_flow.specs.Poll.{Traces}
use Rattle.state_flow.specs.declared.view.View.{View}
use Rattle.state_flow.specs.Calls.{Counts, Sets}
use Rattle.sharing_upstream.specs.declared.upstream.Course.{Course}
use Rattle.flow_sharing.specs.Taken.{Took}

-- each of these values was set, in this order
abbrev pub SetsEach : {T : Type 0} → View T → List T → View T → Type 0
SetsEach before [] after = after ≡ before
SetsEach before (x ∷ values) after = (between : View _) × Sets before x between × SetsEach between values after

-- What a poll took of its upstream, and set. The upstream stood as `from`, and the seat had seen `old`; now they stand as `to` and `new`
pub record SetsTaken {T E U : Type 0} (may : U → Traces T E) (new_run : Traces T E) (initial : T) (from : Course U E) (old : View T)
    (to : Course U E) (new : View T) : Type 0 where
  pub taken : List T
  pub of_upstream : Took may new_run from taken to
  pub count : ℕ
  pub counted : View T
  pub counts : Counts old count counted
  -- a reset set the initial value, or there was none
  pub begun : View T
  pub reset : (begun ≡ counted) ⊎ Sets counted initial begun
  -- then each value that was taken was set once, in this order, and nothing else was
  pub each_once_in_order : SetsEach begun taken new
