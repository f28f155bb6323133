-- Pairs of the values of two sources.
use Rattle.std.specs.Prelude.{List, [], ◌∷◌, Option, Some, None}
use Rattle.cold_flow.specs.declared.cause.Cause.{Cause}
use Rattle.cold_flow.specs.Trace.{Trace, ◌⊑◌, led_by}
use Rattle.cold_flow.specs.Poll.{Traces, Fixes}

-- g of the pairs, up to the shorter list
abbrev pub zip_values : {A B C : Type 0} → (A × B → C) → List A → List B → List C
zip_values g [] ys = []
zip_values g (x ∷ xs) [] = []
zip_values g (x ∷ xs) (y ∷ ys) = g (x, y) ∷ zip_values g xs ys

-- the end of the left where it has no more values than the right, and otherwise that of the right
abbrev pub zip_end : {A B E : Type 0} → List A → Option (Cause E) → List B → Option (Cause E) → Option (Cause E)
zip_end [] left ys right = left
zip_end (x ∷ xs) left [] right = right
zip_end (x ∷ xs) left (y ∷ ys) right = zip_end xs left ys right

-- what a zip makes of two traces
abbrev pub zip_trace : {A B C E : Type 0} → (A × B → C) → Trace A E → Trace B E → Trace C E
zip_trace g t u = (zip_values g t.0 u.0, zip_end t.0 t.1 u.0 u.1)

-- where each side can give one whole trace alone, what is made can give the zip of both alone
abbrev pub ZipsExactly : {A B C E : Type 0} → (A × B → C) → Traces A E → Traces B E → Traces C E → Type 0
ZipsExactly {A} {B} {C} {E} g left right made = (l : Trace A E) (r : Trace B E) → Fixes l left → Fixes r right → Fixes (zip_trace g l r) made

-- the value that is held, if any, and then t
abbrev pub with_held : {A E : Type 0} → Option A → Trace A E → Trace A E
with_held None t = t
with_held (Some v) t = led_by v t

-- what a zip may give while it holds a value of the left, or none: the beginnings of what it makes of what its sources may give
pub record MayZip {A B C E : Type 0} (g : A × B → C) (held : Option A) (left : Traces A E) (right : Traces B E) (t : Trace C E) : Type 0 where
  pub of_left : Trace A E
  pub of_right : Trace B E
  pub left_came : left of_left
  pub right_came : right of_right
  pub begins : t ⊑ zip_trace g (with_held held of_left) of_right
