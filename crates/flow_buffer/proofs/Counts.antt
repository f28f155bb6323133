-- How many values a fill drops.
use Rattle.std.proofs.Common.{◌≡◌, ℕ, ◌+◌, ◌-◌, ◌^◌, min, Bool, true, false, cond, List, [], ◌∷◌, ◌++◌, refl, ap, ◌∙◌, arith}
use Rattle.flow_terms.specs.declared.policy.Policy.{Policy}
use Rattle.flow_terms.specs.declared.fill.Fill.{Fill}
use Rattle.flow_terms.specs.declared.fill.Fill.TheVariants.{Took, Overwrote, Dropped, Full, Pending, Ended}
use Rattle.flow_buffer.specs.History.{DropsOne}
use Rattle.flow_buffer.specs.Sides.{drops, saturated, is_loss, Filled}

cond_add : (b : Bool) (m n : ℕ) → cond b (m + n + 1) (m + n) ≡ cond b (m + 1) m + n
cond_add true m n = omega arith
cond_add false m n = refl

module _ {T : Type 0} where
  drops-append : (l m : List (Bool × T)) → drops (l ++ m) ≡ drops l + drops m
  drops-append [] m = omega arith
  drops-append (e ∷ l) m = rw (drops-append l m) (cond_add e.0 (drops l) (drops m))

  drops-one : (old new : List (Bool × T)) → DropsOne old new → drops new ≡ drops old + 1
  drops-one old new d =
      let was : drops old ≡ drops d.0 + drops d.2 = ap drops d.3 ∙ drops-append d.0 ((false, d.1) ∷ d.2) in
      let is : drops new ≡ drops d.0 + (drops d.2 + 1) = ap drops d.4 ∙ drops-append d.0 ((true, d.1) ∷ d.2) in omega arith

  pub counted : (k : ℕ) (policy : Policy) (old : List (Bool × T)) (x : T) (fill : Fill) (new : List (Bool × T)) → Filled k policy old x fill new → drops new ≡ drops old + cond (is_loss fill) 1 0
  counted k policy old x Took new is = ap drops is ∙ drops-append old ((false, x) ∷ [])
  counted k policy old x Overwrote new is =
      let one = drops-one old is.2.0 is.2.1 in
      let more : drops new ≡ drops is.2.0 + 0 = ap drops is.2.2 ∙ drops-append is.2.0 ((false, x) ∷ []) in omega arith
  counted k policy old x Dropped new is = ap drops is.2 ∙ drops-append old ((true, x) ∷ [])
  counted k policy old x Full new is = absurd is
  counted k policy old x Pending new is = absurd is
  counted k policy old x Ended new is = absurd is

module _ {T : Type 0} (k : ℕ) (policy : Policy) (old : List (Bool × T)) (x : T) (fill : Fill) (new : List (Bool × T)) (is : Filled k policy old x fill new) where
  pub loses : is_loss fill ≡ true → (n r : ℕ) → n ≡ saturated (drops old) → r ≡ min (n + 1) (2 ^ 64 - 1) → r ≡ saturated (drops new)
  loses lost n r was now = let one : drops new ≡ drops old + 1 = counted k policy old x fill new is ∙ ap (λ b. drops old + cond b 1 0) lost in omega arith

  pub keeps : is_loss fill ≡ false → (n : ℕ) → n ≡ saturated (drops old) → n ≡ saturated (drops new)
  keeps kept n was = let same : drops new ≡ drops old + 0 = counted k policy old x fill new is ∙ ap (λ b. drops old + cond b 1 0) kept in omega arith
