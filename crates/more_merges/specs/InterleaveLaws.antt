-- Laws of a merge of two.
use Rattle.std.specs.Prelude.{◌≡◌, List, [], Option, Some, None, refl}
use Rattle.std.proofs.Common.{subst}
use Rattle.futures.specs.declared.task.Poll.{Poll}
use Rattle.futures.specs.declared.task.Poll.TheVariants.{Ready, Pending}
use Rattle.cold_flow.specs.declared.cause.Cause.{Cause}
use Rattle.cold_flow.specs.declared.cause.Cause.TheVariants.{Finished, Cancelled}
use Rattle.cold_flow.specs.declared.event.Event.{Event}
use Rattle.cold_flow.specs.declared.event.Event.TheVariants.{Value, End}
use Rattle.cold_flow.specs.Trace.{Trace, so_far, ended_by, led_by}
use Rattle.cold_flow.specs.Poll.{Traces, Within, Narrows}
use Rattle.flow_merge.specs.Asking.{Asks}
use Rattle.more_merges.specs.Standing.{IsNoFinish}
use Rattle.more_merges.specs.Interleave.{Interleaves, MayInterleave}
use Rattle.more_merges.specs.Interleave.Interleaves.{stops, left_gives, right_gives, finishes, left_ends, right_ends}

module _ {A E : Type 0} where
  swapped : {t u out : Trace A E} → Interleaves t u out → Interleaves u t out
  swapped stops = stops
  swapped (left_gives x m) = right_gives x (swapped m)
  swapped (right_gives x m) = left_gives x (swapped m)
  swapped finishes = finishes
  swapped (left_ends k fails) = right_ends k fails
  swapped (right_ends k fails) = left_ends k fails

  may-swap : (left right : Traces A E) (t : Trace A E) → MayInterleave left right t → MayInterleave right left t
  may-swap left right t h =
      record { of_left = h.of_right; of_right = h.of_left; left_came = h.right_came; right_came = h.left_came; interleaves = swapped h.interleaves }

  -- which of the two is the left one makes no difference
  pub narrows-swap : (l r l' r' : Traces A E) (answer : Poll (Event A E)) → Narrows (MayInterleave l r) answer (MayInterleave l' r')
      → Narrows (MayInterleave r l) answer (MayInterleave r' l')
  narrows-swap l r l' r' (Ready (Value v)) narrows = λ t h. may-swap l r (led_by v t) (narrows t (may-swap r' l' t h))
  narrows-swap l r l' r' (Ready (End k)) narrows = may-swap l r (ended_by [] k) narrows
  narrows-swap l r l' r' Pending narrows = λ t h. may-swap l r t (narrows t (may-swap r' l' t h))

  pub interleave_begins : (left right : Traces A E) → (t : Trace A E) × left t → (u : Trace A E) × right u → MayInterleave left right (so_far [])
  interleave_begins left right l r =
      record { of_left = l.0; of_right = r.0; left_came = l.1; right_came = r.1; interleaves = stops }

  -- a question to one of them
  pub first_asks : (old new other : Traces A E) → (u : Trace A E) × other u → (answer : Poll (Option (Event A E))) → IsNoFinish answer
      → Asks old answer new → Asks (MayInterleave old other) answer (MayInterleave new other)
  first_asks old new other o (Ready (Some (Value v))) fails after = λ t h. record {
    of_left = led_by v h.of_left;
    of_right = h.of_right;
    left_came = after h.of_left h.left_came;
    right_came = h.right_came;
    interleaves = left_gives v h.interleaves;
  }
  first_asks old new other o (Ready (Some (End k))) fails came =
      record { of_left = ended_by [] k; of_right = o.0; left_came = came; right_came = o.1; interleaves = left_ends k fails }
  first_asks old new other o (Ready None) fails within = λ t h.
      record { of_left = h.of_left; of_right = h.of_right; left_came = within h.of_left h.left_came; right_came = h.right_came; interleaves = h.interleaves }
  first_asks old new other o Pending fails within = λ t h.
      record { of_left = h.of_left; of_right = h.of_right; left_came = within h.of_left h.left_came; right_came = h.right_came; interleaves = h.interleaves }

  -- and then to the other
  pub second_asks : (before old other new : Traces A E) → (u : Trace A E) × before u → Within before old → (answer : Poll (Option (Event A E)))
      → IsNoFinish answer → Asks other answer new → Asks (MayInterleave before other) answer (MayInterleave old new)
  second_asks before old other new o left (Ready (Some (Value v))) fails after = λ t h. record {
    of_left = h.of_left;
    of_right = led_by v h.of_right;
    left_came = left h.of_left h.left_came;
    right_came = after h.of_right h.right_came;
    interleaves = right_gives v h.interleaves;
  }
  second_asks before old other new o left (Ready (Some (End k))) fails came =
      record { of_left = o.0; of_right = ended_by [] k; left_came = o.1; right_came = came; interleaves = right_ends k fails }
  second_asks before old other new o left (Ready None) fails within = λ t h. record {
    of_left = h.of_left;
    of_right = h.of_right;
    left_came = left h.of_left h.left_came;
    right_came = within h.of_right h.right_came;
    interleaves = h.interleaves;
  }
  second_asks before old other new o left Pending fails within = λ t h. record {
    of_left = h.of_left;
    of_right = h.of_right;
    left_came = left h.of_left h.left_came;
    right_came = within h.of_right h.right_came;
    interleaves = h.interleaves;
  }

  -- both have finished
  pub interleave_finishes : (left right : Traces A E) → left (ended_by [] Finished) → right (ended_by [] Finished)
      → MayInterleave left right (ended_by [] Finished)
  interleave_finishes left right l r =
      record { of_left = ended_by [] Finished; of_right = ended_by [] Finished; left_came = l; right_came = r; interleaves = finishes }

  -- ---- it ends by `Cancelled` only where a source does

  interleaves-uncancelled : {t u out : Trace A E} → Interleaves t u out → (t.1 ≡ Some Cancelled → ⊥) → (u.1 ≡ Some Cancelled → ⊥)
      → out.1 ≡ Some Cancelled → ⊥
  interleaves-uncancelled stops one other e = absurd (cc)
  interleaves-uncancelled (left_gives x m) one other e = interleaves-uncancelled m one other e
  interleaves-uncancelled (right_gives x m) one other e = interleaves-uncancelled m one other e
  interleaves-uncancelled finishes one other e = absurd (cc)
  interleaves-uncancelled (left_ends k fails) one other e = one e
  interleaves-uncancelled (right_ends k fails) one other e = other e

  pub interleave_uncancelled : (left right : Traces A E) → ((xs : List A) → left (ended_by xs Cancelled) → ⊥)
      → ((xs : List A) → right (ended_by xs Cancelled) → ⊥) → (zs : List A) → MayInterleave left right (ended_by zs Cancelled) → ⊥
  interleave_uncancelled left right none never zs h =
      interleaves-uncancelled h.interleaves
      (λ e. none h.of_left.0 (subst (λ (o : Option (Cause E)). left (h.of_left.0, o)) e h.left_came))
      (λ e. never h.of_right.0 (subst (λ (o : Option (Cause E)). right (h.of_right.0, o)) e h.right_came)) refl
