-- What `take_while` makes of a source.
use Rattle.std.specs.Prelude.{◌≡◌, Bool, true, false, List, [], ◌∷◌, ◌++◌, Option, Some, None, if◌then◌else◌, refl}
use Rattle.std.proofs.Common.{ap, sym, subst, inl, inr}
use Rattle.cold_flow.specs.declared.cause.Cause.{Cause}
use Rattle.cold_flow.specs.declared.cause.Cause.TheVariants.{Finished, Cancelled}
use Rattle.cold_flow.specs.Trace.{Trace, ◌⊑◌, so_far, ended_by, led_by}
use Rattle.cold_flow.specs.Poll.{Traces, After, Through}
use Rattle.cold_flow.specs.Laws.{Monotone, Through-after, begins-any, led-begins}

-- the values before the first that fails the test, and then the end; all of them and the source's end, where none fails
abbrev pub while_on : {A E : Type 0} → (A → Bool) → List A → Option (Cause E) → Trace A E
while_on passes [] end = ([], end)
while_on passes (x ∷ xs) end = if passes x then led_by x (while_on passes xs end) else ended_by [] Finished

abbrev pub while_trace : {A E : Type 0} → (A → Bool) → Trace A E → Trace A E
while_trace passes t = while_on passes t.0 t.1

module _ {A E : Type 0} (passes : A → Bool) where
  -- a value that passes, and one that fails
  step : (b : Bool) (x : A) (t : Trace A E) → b ≡ true → (if b then led_by x t else ended_by [] Finished) ≡ led_by x t
  step b x t is = rw is refl

  stop : (b : Bool) (x : A) (t : Trace A E) → b ≡ false → (if b then led_by x t else ended_by [] Finished) ≡ ended_by [] Finished
  stop b x t is = rw is refl

  pub while_gives : (old new : Traces A E) (x : A) → passes x ≡ true → After old x new
      → After (Through (while_trace passes) old) x (Through (while_trace passes) new)
  while_gives old new x is came =
      Through-after (while_trace passes) (while_trace passes) old new x x (λ u. step (passes x) x (while_trace passes u) is) came

  pub while_stops : (old new : Traces A E) (x : A) → passes x ≡ false → After old x new → new (so_far [])
      → Through (while_trace passes) old (ended_by [] Finished)
  while_stops old new x is came begun = record {
    given = led_by x (so_far []);
    came = came (so_far []) begun;
    begins = inl (sym (stop (passes x) x (so_far []) is));
  }

  grows-by : (b : Bool) (x : A) (t u : Trace A E) → t ⊑ u
      → (if b then led_by x t else ended_by [] Finished) ⊑ (if b then led_by x u else ended_by [] Finished)
  grows-by true x t u h = led-begins x t u h
  grows-by false x t u h = inl refl

  while-grows : (xs rest : List A) (end : Option (Cause E)) → while_on passes xs None ⊑ while_on passes (xs ++ rest) end
  while-grows [] rest end = begins-any (while_on passes rest end)
  while-grows (x ∷ xs) rest end =
      grows-by (passes x) x (while_on passes xs None) (while_on passes (xs ++ rest) end) (while-grows xs rest end)

  pub while-monotone : Monotone {A = A} {B = A} {E = E} (while_trace passes)
  while-monotone t u (inl e) = inl (ap (while_trace passes) e)
  while-monotone (xs, None) u (inr h) =
      subst (λ (ys : List A). while_on passes xs None ⊑ while_on passes ys u.1) h.1.1 (while-grows xs h.1.0 u.1)
  while-monotone (xs, Some k) u (inr h) = absurd (cc)

  cause-by : (b : Bool) (x : A) (t : Trace A E) (end : Option (Cause E)) → (t.1 ≡ Some Cancelled → end ≡ Some Cancelled)
      → (if b then led_by x t else ended_by [] Finished).1 ≡ Some Cancelled → end ≡ Some Cancelled
  cause-by true x t end before e = before e
  cause-by false x t end before e = absurd (cc)

  cause-on : (xs : List A) (end : Option (Cause E)) → (while_on passes xs end).1 ≡ Some Cancelled → end ≡ Some Cancelled
  cause-on [] end e = e
  cause-on (x ∷ xs) end e = cause-by (passes x) x (while_on passes xs end) end (cause-on xs end) e

  -- it ends by a cancellation only where its source does
  pub while-cause : (t : Trace A E) (k : Option (Cause E)) → (while_trace passes t).1 ≡ Some Cancelled → t.1 ≡ Some Cancelled
  while-cause t k e = cause-on t.0 t.1 e
