-- What a buffer leaves out, by its policy.
use Rattle.std.proofs.Common.{◌≡◌, ℕ, Option, Some, None, List, [], ◌∷◌, ◌++◌, refl, ap, ◌∙◌, subst, inl, append_assoc}
use Rattle.cold_flow.specs.declared.cause.Cause.{Cause}
use Rattle.flow_terms.specs.declared.policy.Policy.{Policy}
use Rattle.flow_terms.specs.declared.policy.Policy.TheVariants.{Suspend, DropOldest}
use Rattle.cold_flow.specs.Trace.{Trace, ◌⊑◌, ended_by, led_by}
use Rattle.cold_flow.specs.Poll.{Traces, Fixes}
use Rattle.cold_flow.specs.Laws.{begins-any, led-begins, begins-trans}
use Rattle.flow_buffer.specs.Delivery.{Delivers, Delivered, latest, GivesLatest}
use Rattle.flow_buffer.specs.Delivery.Delivers.{stops, gives, takes, overwrites, drops, ends}
use Rattle.flow_buffer.specs.DeliveryLaws.{cause_kept}

module _ {T : Type 0} where
  -- past a value, what came before does not matter
  latest_past : (d e : Option T) (xs : List T) (x : T) (ys : List T) → latest d (xs ++ x ∷ ys) ≡ latest e (xs ++ x ∷ ys)
  latest_past d e [] x ys = refl
  latest_past d e (y ∷ xs) x ys = refl

module _ {T E : Type 0} (capacity : ℕ) (policy : Policy) where
  -- what is held, and then what the source gives
  abbrev behind : List T → Trace T E → Trace T E
  behind held source = (held ++ source.0, source.1)

  moved : (held : List T) (x : T) (source : Trace T E) → behind (held ++ x ∷ []) source ≡ behind held (led_by x source)
  moved held x source = ap (λ xs. (xs, source.1)) (append_assoc held (x ∷ []) source.0)

  -- a buffer that waits leaves nothing out
  pub leaves_nothing : policy ≡ Suspend → (held : List T) (source out : Trace T E) → Delivers capacity policy held source out → out ⊑ behind held source
  leaves_nothing waits held source out stops = begins-any (behind held source)
  leaves_nothing waits held source out (gives {held = rest} {out = later} x d) = led-begins x later (behind rest source) (leaves_nothing waits rest source later d)
  leaves_nothing waits held source out (takes {source = later} x room d) = subst (λ u. out ⊑ u) (moved held x later) (leaves_nothing waits (held ++ x ∷ []) later out d)
  leaves_nothing waits held source out (overwrites oldest x may full d) = cc
  leaves_nothing waits held source out (drops x may full d) = cc
  leaves_nothing waits held source out (ends cause) = inl refl

  -- one that drops the oldest keeps the latest
  pub keeps_latest : policy ≡ DropOldest → (held : List T) (source out : Trace T E) (k : Cause E) → Delivers capacity policy held source out → out.1 ≡ Some k
      → (d : Option T) → latest d out.0 ≡ latest d (held ++ source.0)
  keeps_latest lossy held source out k stops is d = cc
  keeps_latest lossy held source out k (gives {held = rest} {out = later} x h) is d = keeps_latest lossy rest source later k h is (Some x)
  keeps_latest lossy held source out k (takes {source = later} x room h) is d = keeps_latest lossy (held ++ x ∷ []) later out k h is d ∙ ap (latest d) (append_assoc held (x ∷ []) later.0)
  keeps_latest lossy held source out k (overwrites {held = rest} {source = later} oldest x may full h) is d =
      keeps_latest lossy (rest ++ x ∷ []) later out k h is d ∙ (ap (latest d) (append_assoc rest (x ∷ []) later.0) ∙ latest_past d (Some oldest) rest x later.0)
  keeps_latest lossy held source out k (drops x may full h) is d = cc
  keeps_latest lossy held source out k (ends cause) is d = refl

  pub gives_whole : policy ≡ Suspend → (source : Traces T E) (whole : Trace T E) → Fixes whole source → Fixes whole (Delivered capacity policy [] source)
  gives_whole waits source whole fixed t h = begins-trans t h.produced whole (leaves_nothing waits [] h.produced t h.delivers) (fixed h.produced h.came)

  pub gives_latest : policy ≡ DropOldest → (source : Traces T E) → GivesLatest source (Delivered capacity policy [] source)
  gives_latest lossy source xs k h =
      let same = cause_kept capacity policy [] h.produced (ended_by xs k) k h.delivers refl in
      (h.produced.0, subst (λ o. source (h.produced.0, o)) same h.came, keeps_latest lossy [] h.produced (ended_by xs k) k h.delivers refl None)
