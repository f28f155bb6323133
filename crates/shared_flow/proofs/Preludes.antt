-- A subscription's prelude, through its calls: what it was given of it and what is left are together the same.
use Rattle.std.proofs.Common.{◌≡◌, ℕ, List, [], ◌∷◌, ◌++◌, map, refl, ap, ◌∙◌}
use Rattle.shared_flow.specs.Looks.{OnlyLooked}
use Rattle.shared_flow.specs.Parties.{Subscribed, IsSamePrelude, received, words_received}

none_before : {X : Type 0} (xs ys : List X) → xs ++ ys ≡ [] → xs ≡ []
none_before [] ys is = refl
none_before (x ∷ xs) ys is = let no : ⊥ = cc is in absurd no

module _ {T : Type 0} where
  -- it looked, and nothing else
  pub prelude_looked : (s t : Subscribed T) → OnlyLooked s t → IsSamePrelude s t
  prelude_looked s t looked = ap (λ (x : Subscribed T). x.given ++ x.rest) looked

  -- one call after another
  pub prelude_then : (s m t : Subscribed T) → IsSamePrelude s m → IsSamePrelude m t → IsSamePrelude s t
  prelude_then s m t first later = later ∙ first

  -- of one that received nothing yet, it is what is left
  pub prelude_at_start : (read_as : ℕ → T) (s : Subscribed T) (values : List T) → received read_as s ≡ [] → s.rest ≡ values → s.given ++ s.rest ≡ values
  prelude_at_start read_as s values nothing rest =
      let none = none_before s.given (map read_as (words_received s.reader)) nothing in ap (λ l. l ++ s.rest) none ∙ rest
