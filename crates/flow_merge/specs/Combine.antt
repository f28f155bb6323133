-- The latest values of two sources, at each arrival.
use Rattle.std.specs.Prelude.{◌≡◌, ◌⊎◌, Bool, true, false, not, ◌||◌, IsTrue, List, [], ◌∷◌, Option, Some, None, map}
use Rattle.cold_flow.specs.declared.cause.Cause.{Cause}
use Rattle.cold_flow.specs.declared.cause.Cause.TheVariants.{Finished, Failed, Cancelled, Refused}
use Rattle.cold_flow.specs.declared.event.Event.{Event}
use Rattle.cold_flow.specs.declared.event.Event.TheVariants.{Value, End}
use Rattle.cold_flow.specs.Trace.{Trace, so_far, ended_by, led_by}
use Rattle.cold_flow.specs.Poll.{Traces}
use Rattle.cold_flow.specs.Polled.{HasWaited}
use Rattle.futures.specs.declared.task.Poll.{Poll}
use Rattle.futures.specs.declared.task.Poll.TheVariants.{Ready, Pending}
use Rattle.flow_merge.specs.declared.flows.side.Arrival.{Arrival}
use Rattle.flow_merge.specs.declared.flows.side.Arrival.TheVariants.{Came, Done, Ended}
use Rattle.flow_merge.specs.declared.flows.turn.Turn.{Turn}
use Rattle.flow_merge.specs.declared.flows.turn.Turn.TheVariants.{Left, Right}

-- the result of the latest values, where both sides have one
abbrev pub result_of : {A B C E : Type 0} → (A × B → C) → Option A → Option B → Option (Event C E)
result_of g None right = None
result_of g (Some x) None = None
result_of g (Some x) (Some y) = Some (Value (g (x, y)))

-- What a question answers to an arrival at a side: the result of the latest values, or the end, which a finish is once both sides have.
abbrev pub answer_to : {A B C E : Type 0} → (A × B → C) → Poll (Arrival E) → Bool → Option A → Option B → Poll (Option (Event C E))
answer_to g (Ready Came) both_finished l r = Ready (result_of g l r)
answer_to g (Ready Done) true l r = Ready (Some (End Finished))
answer_to g (Ready Done) false l r = Ready None
answer_to g (Ready (Ended k)) both_finished l r = Ready (Some (End k))
answer_to g Pending both_finished l r = Pending

-- that result, and then t
abbrev pub with_result : {A B C E : Type 0} → (A × B → C) → Option A → Option B → Trace C E → Trace C E
with_result g None right t = t
with_result g (Some x) None t = t
with_result g (Some x) (Some y) t = led_by (g (x, y)) t

-- What may come of two traces, from the latest values and the side whose turn it is. The arrivals of both sides are interleaved: the side at
-- its turn gives a value, or the turn passes where it has nothing left and is finished, or may answer pending. A value gives one
-- result where both sides have one. It finishes once both have, and another end of a side ends it.
pub data Combines {A B C E : Type 0} (g : A × B → C) (left_prompt right_prompt : Bool)
    : Turn → Option A → Option B → Trace A E → Trace B E → Trace C E → Type 0 where
  stops : {turn : Turn} {l : Option A} {r : Option B} {t : Trace A E} {u : Trace B E} → Combines g left_prompt right_prompt turn l r t u (so_far [])
  left_gives : {l : Option A} {r : Option B} {t : Trace A E} {u : Trace B E} {out : Trace C E} (x : A)
      → Combines g left_prompt right_prompt Right (Some x) r t u out
      → Combines g left_prompt right_prompt Left l r (led_by x t) u (with_result g (Some x) r out)
  right_gives : {l : Option A} {r : Option B} {t : Trace A E} {u : Trace B E} {out : Trace C E} (y : B)
      → Combines g left_prompt right_prompt Left l (Some y) t u out
      → Combines g left_prompt right_prompt Right l r t (led_by y u) (with_result g l (Some y) out)
  left_passes : {l : Option A} {r : Option B} {t : Trace A E} {u : Trace B E} {out : Trace C E} → (IsTrue left_prompt → t ≡ ended_by [] Finished)
      → Combines g left_prompt right_prompt Right l r t u out → Combines g left_prompt right_prompt Left l r t u out
  right_passes : {l : Option A} {r : Option B} {t : Trace A E} {u : Trace B E} {out : Trace C E} → (IsTrue right_prompt → u ≡ ended_by [] Finished)
      → Combines g left_prompt right_prompt Left l r t u out → Combines g left_prompt right_prompt Right l r t u out
  finishes : {turn : Turn} {l : Option A} {r : Option B}
      → Combines g left_prompt right_prompt turn l r (ended_by [] Finished) (ended_by [] Finished) (ended_by [] Finished)
  left_fails : {l : Option A} {r : Option B} {u : Trace B E} (k : Cause E) → (k ≡ Finished → ⊥)
      → Combines g left_prompt right_prompt Left l r (ended_by [] k) u (ended_by [] k)
  right_fails : {l : Option A} {r : Option B} {t : Trace A E} (k : Cause E) → (k ≡ Finished → ⊥)
      → Combines g left_prompt right_prompt Right l r t (ended_by [] k) (ended_by [] k)

-- what a side may give that has finished, or has not
abbrev pub OrFinished : {A E : Type 0} → Bool → Traces A E → Traces A E
OrFinished true source t = t ≡ ended_by [] Finished
OrFinished false source t = source t

-- what a combine may give, from the latest values and the side whose turn it is
pub record MayCombine {A B C E : Type 0} (g : A × B → C) (left_prompt right_prompt : Bool) (turn : Turn) (l : Option A) (r : Option B)
    (left : Traces A E) (right : Traces B E) (t : Trace C E) : Type 0 where
  pub of_left : Trace A E
  pub of_right : Trace B E
  pub left_came : left of_left
  pub right_came : right of_right
  pub combines : Combines g left_prompt right_prompt turn l r of_left of_right t

-- the side itself, or the other one where it has finished
abbrev pub turn_to : Turn → Bool → Turn
turn_to turn false = turn
turn_to Left true = Right
turn_to Right true = Left

-- whether the side whose turn it is has not finished, unless both have
abbrev pub is_due : Turn → Bool → Bool → Bool
is_due Left left_finished right_finished = not left_finished || right_finished
is_due Right left_finished right_finished = not right_finished || left_finished

-- what the values of one side give once the other has finished, whose latest value stays
abbrev pub rest_of_left : {A B C E : Type 0} → (A × B → C) → Option B → Trace A E → Trace C E
rest_of_left g None t = ([], t.1)
rest_of_left g (Some y) t = (map (λ x. g (x, y)) t.0, t.1)

abbrev pub rest_of_right : {A B C E : Type 0} → (A × B → C) → Option A → Trace B E → Trace C E
rest_of_right g None u = ([], u.1)
rest_of_right g (Some x) u = (map (λ y. g (x, y)) u.0, u.1)

-- what is left of an end at which the others may give rest
abbrev pub after_end : {C E : Type 0} → Option (Cause E) → Trace C E → Trace C E
after_end None rest = so_far []
after_end (Some Finished) rest = rest
after_end (Some (Failed e)) rest = ended_by [] (Failed e)
after_end (Some Cancelled) rest = ended_by [] Cancelled
after_end (Some (Refused why)) rest = ended_by [] (Refused why)

-- What a combine makes of two traces whose values arrive in turn, the left first, a finished side left out.
abbrev pub in_turn : {A B C E : Type 0} → (A × B → C) → Option A → Option B → List A → Option (Cause E)
    → List B → Option (Cause E) → Trace C E
in_turn g l r [] e ys f = after_end e (rest_of_right g l (ys, f))
in_turn g l r (x ∷ xs) e [] f = with_result g (Some x) r (after_end f (rest_of_left g r (xs, e)))
in_turn g l r (x ∷ xs) e (y ∷ ys) f = with_result g (Some x) r (with_result g (Some x) (Some y) (in_turn g (Some x) (Some y) xs e ys f))

abbrev pub combine_trace : {A B C E : Type 0} → (A × B → C) → Trace A E → Trace B E → Trace C E
combine_trace g t u = in_turn g None None t.0 t.1 u.0 u.1

module _ {L R A B E : Type 0} (left_polled : L → Poll (Event A E) → L → Type 0) (right_polled : R → Poll (Event B E) → R → Type 0) where
  -- the side whose turn it was has answered pending, the turn has passed, and the other side stands as it did
  abbrev pub SideWaited : Turn → Turn → Bool → Bool → L → R → L → R → Type 0
  SideWaited Left now left_finished right_finished l r l' r' =
      (left_finished ≡ false) × (now ≡ turn_to Right right_finished) × HasWaited left_polled l' × (r' ≡ r)
  SideWaited Right now left_finished right_finished l r l' r' =
      (right_finished ≡ false) × (now ≡ turn_to Left left_finished) × HasWaited right_polled r' × (l' ≡ l)

  -- the side whose turn it is not has answered pending
  abbrev pub OtherWaited : Turn → L → R → Type 0
  OtherWaited Left l r = HasWaited right_polled r
  OtherWaited Right l r = HasWaited left_polled l

  -- each side that has not finished has answered pending
  abbrev pub BothWaited : Bool → Bool → L → R → Type 0
  BothWaited left_finished right_finished l r = (IsTrue left_finished ⊎ HasWaited left_polled l) × (IsTrue right_finished ⊎ HasWaited right_polled r)
