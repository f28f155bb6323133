-- Laws of `flat_map_latest`.
use Rattle.std.specs.Prelude.{◌≡◌, ◌⊎◌, Bool, true, false, IsTrue, List, [], Option, Some, None, refl}
use Rattle.std.proofs.Common.{sym, ◌∙◌, ap, subst, inl, inr}
use Rattle.futures.specs.declared.task.Poll.{Poll}
use Rattle.futures.specs.declared.task.Poll.TheVariants.{Ready, Pending}
use Rattle.cold_flow.specs.declared.cause.Cause.{Cause}
use Rattle.cold_flow.specs.declared.cause.Cause.TheVariants.{Finished, Cancelled, Refused}
use Rattle.flow_terms.specs.declared.refusal.Refusal.TheVariants.{NoMemory}
use Rattle.cold_flow.specs.declared.event.Event.{Event}
use Rattle.cold_flow.specs.declared.event.Event.TheVariants.{Value, End}
use Rattle.cold_flow.specs.Trace.{Trace, so_far, ended_by, led_by}
use Rattle.cold_flow.specs.Poll.{Traces, After, Within}
use Rattle.flow_merge.specs.Asking.{Asks}
use Rattle.flow_merge.specs.Concat.{OrUnstarted}
use Rattle.more_merges.specs.Standing.{IsNoFinish}
use Rattle.more_merges.specs.Latest.{Switches, MaySwitch}
use Rattle.more_merges.specs.Latest.Switches.{stops, begins, gives, finishes, outer_ends, inner_ends}

module _ {B E : Type 0} where
  start-given : (can : Bool) (source : Traces B E) (t : Trace B E) → source t → OrUnstarted can source t
  start-given true source t h = h
  start-given false source t h = inl h

  start-refused : (can : Bool) (source : Traces B E) → (IsTrue can → false ≡ true) → OrUnstarted can source (ended_by [] (Refused NoMemory))
  start-refused true source none = absurd (let wrong = none refl in cc)
  start-refused false source none = inr refl

module _ {A B E : Type 0} (starts : A → Bool) (inner : A → Traces B E) where
  pub latest_begins : (standing : Traces B E) (outer : Traces A E) → (t : Trace B E) × standing t → (u : Trace A E) × outer u
      → MaySwitch starts inner standing outer (so_far [])
  latest_begins standing outer s o =
      record { of_standing = s.0; of_outer = o.0; standing_came = s.1; outer_came = o.1; switches = stops }

  -- a question to the run that stands
  pub latest_asks : (old new : Traces B E) (outer : Traces A E) → (u : Trace A E) × outer u → (answer : Poll (Option (Event B E)))
      → IsNoFinish answer → Asks old answer new
      → Asks (MaySwitch starts inner old outer) answer (MaySwitch starts inner new outer)
  latest_asks old new outer o (Ready (Some (Value v))) fails after = λ t h. record {
    of_standing = led_by v h.of_standing;
    of_outer = h.of_outer;
    standing_came = after h.of_standing h.standing_came;
    outer_came = h.outer_came;
    switches = gives v h.switches;
  }
  latest_asks old new outer o (Ready (Some (End k))) fails came =
      record { of_standing = ended_by [] k; of_outer = o.0; standing_came = came; outer_came = o.1; switches = inner_ends k fails }
  latest_asks old new outer o (Ready None) fails within = λ t h.
      record { of_standing = h.of_standing; of_outer = h.of_outer; standing_came = within h.of_standing h.standing_came; outer_came = h.outer_came; switches = h.switches }
  latest_asks old new outer o Pending fails within = λ t h.
      record { of_standing = h.of_standing; of_outer = h.of_outer; standing_came = within h.of_standing h.standing_came; outer_came = h.outer_came; switches = h.switches }

  -- the outer answered pending, or has finished
  pub latest_outer_waits : (standing : Traces B E) (old new : Traces A E) → Within old new
      → Within (MaySwitch starts inner standing old) (MaySwitch starts inner standing new)
  latest_outer_waits standing old new within t h =
      record { of_standing = h.of_standing; of_outer = h.of_outer; standing_came = h.standing_came; outer_came = within h.of_outer h.outer_came; switches = h.switches }

  pub latest_outer_ends : (standing : Traces B E) (outer : Traces A E) (k : Cause E) → (t : Trace B E) × standing t → outer (ended_by [] k)
      → (k ≡ Finished → ⊥) → MaySwitch starts inner standing outer (ended_by [] k)
  latest_outer_ends standing outer k s came fails =
      record { of_standing = s.0; of_outer = ended_by [] k; standing_came = s.1; outer_came = came; switches = outer_ends k fails }

  -- its value puts another run in place of the one that stood
  pub latest_starts : (old new : Traces B E) (before outer : Traces A E) (x : A) → (t : Trace B E) × old t → After before x outer
      → Within (inner x) new → Within (MaySwitch starts inner old before) (MaySwitch starts inner new outer)
  latest_starts old new before outer x s after within t h = record {
    of_standing = s.0;
    of_outer = led_by x h.of_outer;
    standing_came = s.1;
    outer_came = after h.of_outer h.outer_came;
    switches = begins x h.of_standing (start-given (starts x) (inner x) h.of_standing (within h.of_standing h.standing_came)) h.switches;
  }

  pub latest_refused : (old : Traces B E) (before outer : Traces A E) (x : A) → (t : Trace B E) × old t → After before x outer
      → outer (so_far []) → (IsTrue (starts x) → false ≡ true) → MaySwitch starts inner old before (ended_by [] (Refused NoMemory))
  latest_refused old before outer x s after begun refused = record {
    of_standing = s.0;
    of_outer = led_by x (so_far []);
    standing_came = s.1;
    outer_came = after (so_far []) begun;
    switches = begins x (ended_by [] (Refused NoMemory)) (start-refused (starts x) (inner x) refused) (inner_ends (Refused NoMemory) (λ e. absurd (cc)));
  }

  -- both have finished
  pub latest_finishes : (standing : Traces B E) (outer : Traces A E) → standing (ended_by [] Finished) → outer (ended_by [] Finished)
      → MaySwitch starts inner standing outer (ended_by [] Finished)
  latest_finishes standing outer s o =
      record { of_standing = ended_by [] Finished; of_outer = ended_by [] Finished; standing_came = s; outer_came = o; switches = finishes }

-- ---- it ends by `Cancelled` only where a source does

module _ {A B E : Type 0} (starts : A → Bool) (inner : A → Traces B E) (none_inner : (x : A) (xs : List B) → inner x (ended_by xs Cancelled) → ⊥) where
  start-uncancelled : (can : Bool) (x : A) (t : Trace B E) → OrUnstarted can (inner x) t → t.1 ≡ Some Cancelled → ⊥
  start-uncancelled true x t h e = none_inner x t.0 (subst (λ (o : Option (Cause E)). inner x (t.0, o)) e h)
  start-uncancelled false x t (inl h) e = none_inner x t.0 (subst (λ (o : Option (Cause E)). inner x (t.0, o)) e h)
  start-uncancelled false x t (inr is) e =
      let k : Some (Refused NoMemory) ≡ Some Cancelled = sym (ap (λ (u : Trace B E). u.1) is) ∙ e in cc

  switches-uncancelled : (standing : Trace B E) (outer : Trace A E) (out : Trace B E) → Switches starts inner standing outer out
      → (standing.1 ≡ Some Cancelled → ⊥) → (outer.1 ≡ Some Cancelled → ⊥) → out.1 ≡ Some Cancelled → ⊥
  switches-uncancelled _ _ _ stops one none e = absurd (cc)
  switches-uncancelled _ _ _ (begins {outer = outer} {out = out} x t came m) one none e =
      switches-uncancelled t outer out m (start-uncancelled (starts x) x t came) none e
  switches-uncancelled _ _ _ (gives {standing = standing} {outer = outer} {out = out} v m) one none e =
      switches-uncancelled standing outer out m one none e
  switches-uncancelled _ _ _ finishes one none e = absurd (cc)
  switches-uncancelled _ _ _ (outer_ends k fails) one none e = none e
  switches-uncancelled _ _ _ (inner_ends k fails) one none e = one e

  pub latest_uncancelled : (outer : Traces A E) → ((xs : List A) → outer (ended_by xs Cancelled) → ⊥)
      → (zs : List B) → MaySwitch starts inner (λ t. t ≡ ended_by [] Finished) outer (ended_by zs Cancelled) → ⊥
  latest_uncancelled outer none zs h =
      switches-uncancelled h.of_standing h.of_outer (ended_by zs Cancelled) h.switches
      (λ e. absurd (let k : Some Finished ≡ Some Cancelled = sym (ap (λ (u : Trace B E). u.1) h.standing_came) ∙ e in cc))
      (λ e. none h.of_outer.0 (subst (λ (o : Option (Cause E)). outer (h.of_outer.0, o)) e h.outer_came)) refl
