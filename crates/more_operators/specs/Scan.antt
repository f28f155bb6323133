-- What `scan` makes of a source.
use Rattle.std.specs.Prelude.{◌≡◌, ℕ, ◌+◌, Bool, true, false, List, [], ◌∷◌, ◌++◌, refl}
use Rattle.std.proofs.Common.{ap, sym, ◌∙◌, inl, inr}
use Rattle.cold_flow.specs.declared.cause.Cause.{Cause}
use Rattle.cold_flow.specs.Trace.{Trace, ended_by}
use Rattle.cold_flow.specs.Poll.{Traces, After, Through}
use Rattle.cold_flow.specs.Laws.{Monotone, led-begins, Through-after, Through-end}

-- the states that g makes of a state, value by value
abbrev pub states : {A S : Type 0} → (S × A → S) → S → List A → List S
states g state [] = []
states g state (x ∷ xs) = g (state, x) ∷ states g (g (state, x)) xs

-- the first state, and then those; of a run that has given the first state, those alone
abbrev pub scan_from : {A S E : Type 0} → (S × A → S) → Bool → S → Trace A E → Trace S E
scan_from g true state t = (state ∷ states g state t.0, t.1)
scan_from g false state t = (states g state t.0, t.1)

abbrev pub scan_trace : {A S E : Type 0} → (S × A → S) → S → Trace A E → Trace S E
scan_trace g first = scan_from g true first

-- one poll more where the first state is still to be given
abbrev pub polls_from : Bool → ℕ → ℕ
polls_from true n = n + 1
polls_from false n = n

-- a run that has given the first state has not the first state to give
pub not_first : {X : Type 0} (first : Bool) → first ≡ false → first ≡ true → X
not_first first later now = absurd (let wrong : false ≡ true = sym later ∙ now in cc)

module _ {A S : Type 0} (g : S × A → S) where
  states-grow : (state : S) (xs rest : List A) → (more : List S) × (states g state xs ++ more ≡ states g state (xs ++ rest))
  states-grow state [] rest = (states g state rest, refl)
  states-grow state (x ∷ xs) rest =
      let grown = states-grow (g (state, x)) xs rest in (grown.0, ap (λ (l : List S). g (state, x) ∷ l) grown.1)

module _ {A S E : Type 0} (g : S × A → S) where
  pub scan-monotone : (first : Bool) (state : S) → Monotone {A = A} {B = S} {E = E} (scan_from g first state)
  scan-monotone first state t u (inl e) = inl (ap (scan_from g first state) e)
  scan-monotone true state t u (inr h) =
      let grown = states-grow g state t.0 h.1.0 in
      inr (h.0, (grown.0, ap (λ (l : List S). state ∷ l) (grown.1 ∙ ap (states g state) h.1.1)))
  scan-monotone false state t u (inr h) =
      let grown = states-grow g state t.0 h.1.0 in inr (h.0, (grown.0, grown.1 ∙ ap (states g state) h.1.1))

  -- the first state is given
  pub scan_begins : (source : Traces A E) (state : S) → After (Through (scan_from g true state) source) state (Through (scan_from g false state) source)
  scan_begins source state t h =
      record { given = h.given; came = h.came; begins = led-begins state t (scan_from g false state h.given) h.begins }

  -- a value of the source gives the next state
  pub scan_gives : (old new : Traces A E) (state next : S) (x : A) → next ≡ g (state, x) → After old x new
      → After (Through (scan_from g false state) old) next (Through (scan_from g false next) new)
  scan_gives old new state next x is came =
      rw is (Through-after (scan_from g false state) (scan_from g false (g (state, x))) old new x (g (state, x)) (λ u. refl) came)

  -- the source ends
  pub scan_ends : (source : Traces A E) (state : S) (k : Cause E) → source (ended_by [] k) → Through (scan_from g false state) source (ended_by [] k)
  scan_ends source state k came = Through-end (scan_from g false state) source k k refl came
