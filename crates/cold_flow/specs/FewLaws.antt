-- Laws of `transform`.
use Rattle.std.specs.Prelude.{◌≡◌, List, [], ◌∷◌, ◌++◌, Option, Some, None, refl}
use Rattle.std.specs.List.{flat_map}
use Rattle.std.proofs.lemmas.Grind.{flat_map-append}
use Rattle.std.proofs.Common.{ap, sym, ◌∙◌, subst, inl, inr, append_assoc}
use Rattle.flow_terms.specs.declared.few.Few.{Few}
use Rattle.flow_terms.specs.declared.few.Few.TheVariants.{Zero, One, Two, Three, Four}
use Rattle.cold_flow.specs.Trace.{◌⊑◌, led_by}
use Rattle.cold_flow.specs.Poll.{Traces, Within, After, Through}
use Rattle.flow_terms.specs.Few.{values_of, split}
use Rattle.cold_flow.specs.Transform.{held_then}
use Rattle.cold_flow.specs.Laws.{Monotone, Through-after, Through-skip, led-begins}

module _ {A : Type 0} where
  abbrev parts : Option (A × Few A) → List A
  parts None = []
  parts (Some p) = p.0 ∷ values_of p.1

  values-split : (f : Few A) → values_of f ≡ parts (split f)
  values-split Zero = refl
  values-split (One a) = refl
  values-split (Two a b) = refl
  values-split (Three a b c) = refl
  values-split (Four a b c d) = refl

  pub values-some : (f : Few A) (v : A) (rest : Few A) → split f ≡ Some (v, rest) → values_of f ≡ v ∷ values_of rest
  values-some f v rest e = values-split f ∙ ap parts e

  pub values-none : (f : Few A) → split f ≡ None → values_of f ≡ []
  values-none f e = values-split f ∙ ap parts e

module _ {A B E : Type 0} (g : A → Few B) where
  -- a held value is given
  pub held_gives : (source : Traces A E) (held rest : Few B) (v : B) → split held ≡ Some (v, rest)
      → After (Through (held_then g held) source) v (Through (held_then g rest) source)
  held_gives source held rest v is t h = record {
    given = h.given;
    came = h.came;
    begins = subst (λ (ys : List B). led_by v t ⊑ (ys ++ flat_map (λ x. values_of (g x)) h.given.0, h.given.1)) (sym (values-some held v rest is))
        (led-begins v t (held_then g rest h.given) h.begins);
  }

  -- the first value of an answer is given, and the others are held
  pub asked_gives : (old new : Traces A E) (x : A) (rest : Few B) (v : B) → split (g x) ≡ Some (v, rest) → After old x new
      → After (Through (held_then g Zero) old) v (Through (held_then g rest) new)
  asked_gives old new x rest v is after =
      Through-after (held_then g Zero) (held_then g rest) old new x v
      (λ u. ap (λ (ys : List B). (ys ++ flat_map (λ y. values_of (g y)) u.0, u.1)) (values-some (g x) v rest is)) after

  -- an answer without values
  pub asked_skips : (old new : Traces A E) (x : A) → split (g x) ≡ None → After old x new
      → Within (Through (held_then g Zero) old) (Through (held_then g Zero) new)
  asked_skips old new x is after =
      Through-skip (held_then g Zero) (held_then g Zero) old new x
      (λ u. ap (λ (ys : List B). (ys ++ flat_map (λ y. values_of (g y)) u.0, u.1)) (values-none (g x) is)) after

  pub held-monotone : (held : Few B) → Monotone {A = A} {B = B} {E = E} (held_then g held)
  held-monotone held t u (inl e) = inl (ap (held_then g held) e)
  held-monotone held t u (inr h) =
      let h' = λ (x : A). values_of (g x) in
      inr (
        h.0,
        (
          flat_map h' h.1.0,
          append_assoc (values_of held) (flat_map h' t.0) (flat_map h' h.1.0)
              ∙ ap (λ (ys : List B). values_of held ++ ys) (sym (flat_map-append h' t.0 h.1.0) ∙ ap (flat_map h') h.1.1),
        ),
      )
