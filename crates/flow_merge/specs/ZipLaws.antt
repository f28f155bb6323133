-- Laws of `zip`.
use Rattle.std.specs.Prelude.{◌≡◌, List, [], ◌∷◌, ◌++◌, Option, Some, None, ◌⊎◌, refl}
use Rattle.std.proofs.Common.{inl, inr, sym, ap, subst}
use Rattle.cold_flow.specs.declared.cause.Cause.{Cause}
use Rattle.cold_flow.specs.declared.cause.Cause.TheVariants.{Cancelled}
use Rattle.cold_flow.specs.Trace.{Trace, ◌⊑◌, so_far, ended_by, led_by}
use Rattle.cold_flow.specs.Poll.{Traces, Within, After, Beginnings}
use Rattle.flow_merge.specs.Zip.{zip_end, zip_trace, MayZip}
use Rattle.cold_flow.specs.Laws.{begins-any, led-begins, begins-trans, ended-begins}

module _ {A B C E : Type 0} (g : A × B → C) where
  pub zip_begins : (held : Option A) (left : Traces A E) (right : Traces B E) → left (so_far []) → right (so_far [])
      → MayZip g held left right (so_far [])
  zip_begins held left right l r =
      record { of_left = so_far []; of_right = so_far []; left_came = l; right_came = r; begins = begins-any _ }

  pub zip_holds : (old new : Traces A E) (right : Traces B E) (v : A) → After old v new
      → Within (MayZip g None old right) (MayZip g (Some v) new right)
  zip_holds old new right v after t h = record {
    of_left = led_by v h.of_left;
    of_right = h.of_right;
    left_came = after h.of_left h.left_came;
    right_came = h.right_came;
    begins = h.begins;
  }

  pub zip_pairs : (left : Traces A E) (old new : Traces B E) (v : A) (w : B) → After old w new
      → After (MayZip g (Some v) left old) (g (v, w)) (MayZip g None left new)
  zip_pairs left old new v w after t h = record {
    of_left = h.of_left;
    of_right = led_by w h.of_right;
    left_came = h.left_came;
    right_came = after h.of_right h.right_came;
    begins = led-begins (g (v, w)) t (zip_trace g h.of_left h.of_right) h.begins;
  }

  pub zip_left_ends : (left : Traces A E) (right : Traces B E) (k : Cause E) → left (ended_by [] k) → right (so_far [])
      → MayZip g None left right (ended_by [] k)
  zip_left_ends left right k l r =
      record { of_left = ended_by [] k; of_right = so_far []; left_came = l; right_came = r; begins = inl refl }

  pub zip_right_ends : (left : Traces A E) (right : Traces B E) (v : A) (k : Cause E) → left (so_far []) → right (ended_by [] k)
      → MayZip g (Some v) left right (ended_by [] k)
  zip_right_ends left right v k l r =
      record { of_left = so_far []; of_right = ended_by [] k; left_came = l; right_came = r; begins = inl refl }

  pub zip_left_waits : (held : Option A) (old new : Traces A E) (right : Traces B E) → Within old new
      → Within (MayZip g held old right) (MayZip g held new right)
  zip_left_waits held old new right within t h =
      record { of_left = h.of_left; of_right = h.of_right; left_came = within h.of_left h.left_came; right_came = h.right_came; begins = h.begins }

  pub zip_right_waits : (held : Option A) (left : Traces A E) (old new : Traces B E) → Within old new
      → Within (MayZip g held left old) (MayZip g held left new)
  zip_right_waits held left old new within t h =
      record { of_left = h.of_left; of_right = h.of_right; left_came = h.left_came; right_came = within h.of_right h.right_came; begins = h.begins }

  left-more : (xs rest : List A) (e : Option (Cause E)) (u : Trace B E) → zip_trace g (so_far xs) u ⊑ zip_trace g (xs ++ rest, e) u
  left-more [] rest e u = begins-any _
  left-more (x ∷ xs) rest e ([], f) = inl refl
  left-more (x ∷ xs) rest e (y ∷ ys, f) = led-begins (g (x, y)) _ _ (left-more xs rest e (ys, f))

  right-more : (xs : List A) (e : Option (Cause E)) (ys rest : List B) (f : Option (Cause E))
      → zip_trace g (xs, e) (so_far ys) ⊑ zip_trace g (xs, e) (ys ++ rest, f)
  right-more [] e ys rest f = inl refl
  right-more (x ∷ xs) e [] rest f = begins-any _
  right-more (x ∷ xs) e (y ∷ ys) rest f = led-begins (g (x, y)) _ _ (right-more xs e ys rest f)

  zip-monotone_left : (t w : Trace A E) (u : Trace B E) → t ⊑ w → zip_trace g t u ⊑ zip_trace g w u
  zip-monotone_left t w u (inl e) = inl (ap (λ (x : Trace A E). zip_trace g x u) e)
  zip-monotone_left t w u (inr h) = rw h.0 (rw (← h.1.1) (left-more t.0 h.1.0 w.1 u))

  zip-monotone_right : (t : Trace A E) (u w : Trace B E) → u ⊑ w → zip_trace g t u ⊑ zip_trace g t w
  zip-monotone_right t u w (inl e) = inl (ap (zip_trace g t) e)
  zip-monotone_right t u w (inr h) = rw h.0 (rw (← h.1.1) (right-more t.0 t.1 u.0 h.1.0 w.1))

  -- where each source may give only the beginnings of one trace, so may the zip
  pub zip_fixed : (left : Traces A E) (right : Traces B E) (l : Trace A E) (r : Trace B E) → Within (Beginnings l) left → Within (Beginnings r) right
      → Within (Beginnings (zip_trace g l r)) (MayZip g None left right)
  zip_fixed left right l r of_left of_right t h =
      begins-trans _ _ _ h.begins
      (begins-trans _ _ _ (zip-monotone_left h.of_left l h.of_right (of_left _ h.left_came)) (zip-monotone_right l h.of_right r (of_right _ h.right_came)))

module _ {A B E : Type 0} where
  -- a zip ends as one of its sides does
  end-of_side : (xs : List A) (l : Option (Cause E)) (ys : List B) (r : Option (Cause E)) (k : Cause E) → zip_end xs l ys r ≡ Some k
      → (l ≡ Some k) ⊎ (r ≡ Some k)
  end-of_side [] l ys r k h = inl h
  end-of_side (x ∷ xs) l [] r k h = inr h
  end-of_side (x ∷ xs) l (y ∷ ys) r k h = end-of_side xs l ys r k h

module _ {A B C E : Type 0} where
  pub zip_uncancelled : (g : A × B → C) (left : Traces A E) (right : Traces B E) → ((xs : List A) → left (ended_by xs Cancelled) → ⊥)
      → ((ys : List B) → right (ended_by ys Cancelled) → ⊥) → (zs : List C) → MayZip g None left right (ended_by zs Cancelled) → ⊥
  zip_uncancelled g left right none_left none_right zs h =
      let e : ended_by zs Cancelled ≡ zip_trace g h.of_left h.of_right = ended-begins zs Cancelled _ h.begins in
      elim (end-of_side h.of_left.0 h.of_left.1 h.of_right.0 h.of_right.1 Cancelled (sym (ap (λ (t : Trace C E). t.1) e))) [
        | inl k ↦ none_left h.of_left.0 (subst (λ (o : Option (Cause E)). left (h.of_left.0, o)) k h.left_came)
        | inr k ↦ none_right h.of_right.0 (subst (λ (o : Option (Cause E)). right (h.of_right.0, o)) k h.right_came)
      ]
