-- Asks of a wait, one after another.
use Rattle.std.proofs.Common.{◌≡◌, ℕ, List, ◌++◌, Option, Some, None, refl, ap, subst, ◌∙◌}
use Rattle.state_flow.specs.declared.view.View.{View}
use Rattle.flow_terms.specs.Lists.{some_of}
use Rattle.state_flow.proofs.Collected.{collected_on}
use Rattle.state_waiting.specs.declared.collected.Collected.{Collected}
use Rattle.state_waiting.specs.declared.collected.Collected.TheVariants as collected
use Rattle.state_waiting.specs.declared.collected.Attempt.{Attempt}
use Rattle.state_waiting.specs.declared.collected.Attempt.TheVariants as attempt
use Rattle.state_waiting.specs.Waits.{AskedOn, Awaits, AwaitsWithin, Comes, MissedOn, not_once, once_more, value_of, value_within}

module _ {T : Type 0} where
  -- after asks that gave nothing come more that gave nothing
  pub missed_on : (v m w : View T) → MissedOn v m → MissedOn m w → MissedOn v w
  missed_on v m w before (not_once x) = before
  missed_on v m w before (once_more x n y more last) = once_more v n w (missed_on v m n before more) last

  pub asked_on : (v m w : View T) (given : Option T) → MissedOn v m → AskedOn m given w → AskedOn v given w
  asked_on v m w given before asked = (asked.0, missed_on v m asked.0 before asked.1, asked.2)

  -- asks that gave nothing come before a wait
  pub awaits : (v m w : View T) (c : Collected T) → MissedOn v m → Awaits m c w → Awaits v c w
  awaits v m w (collected.Value x) before waited = asked_on v m w (Some x) before waited
  awaits v m w collected.Stopped before waited = asked_on v m w None before waited

  pub awaits_within : (v m w : View T) (c : Option (Collected T)) → MissedOn v m → AwaitsWithin m c w → AwaitsWithin v c w
  awaits_within v m w (Some c) before waited = awaits v m w c before waited
  awaits_within v m w None before waited = asked_on v m w None before waited

  -- asks that gave nothing, and the turn that ends the wait
  pub is_over : (v m w : View T) (c : Collected T) → MissedOn v m → Comes m (attempt.Over c) w → Awaits v c w
  is_over v m w (collected.Value x) before came = (m, before, came)
  is_over v m w collected.Stopped before came = (m, before, came)

  -- one turn more of a wait: the thread sleeps after it
  pub goes_on : (v m w : View T) (n : ℕ) (turn : Attempt T) → turn ≡ attempt.Asleep n → MissedOn v m → Comes m turn w → MissedOn v w
  goes_on v m w n turn is before came = once_more v m w before (subst (λ (t : Attempt T). Comes m t w) is came)

  -- or the wait ends by it
  pub ends_so : (v m w : View T) (c : Collected T) (turn : Attempt T) → turn ≡ attempt.Over c → MissedOn v m → Comes m turn w → Awaits v c w
  ends_so v m w c turn is before came = is_over v m w c before (subst (λ (t : Attempt T). Comes m t w) is came)

  -- asks that gave nothing leave what was collected
  pub missed_keeps : (v w : View T) → MissedOn v w → w.collected ≡ v.collected
  missed_keeps v w (not_once x) = refl
  missed_keeps v w (once_more x m y more last) = last.received ∙ missed_keeps v m more

  -- what was collected after asks is what was collected before them, and then what the last one gave
  pub asked_has : (v w : View T) (given : Option T) → AskedOn v given w → w.collected ≡ v.collected ++ some_of given
  asked_has v w given asked = collected_on asked.0 w given asked.2 ∙ ap (λ (xs : List T). xs ++ some_of given) (missed_keeps v asked.0 asked.1)

  pub awaited : (v w : View T) (c : Collected T) → Awaits v c w → w.collected ≡ v.collected ++ value_of c
  awaited v w (collected.Value x) waited = asked_has v w (Some x) waited
  awaited v w collected.Stopped waited = asked_has v w None waited

  pub awaited_within : (v w : View T) (c : Option (Collected T)) → AwaitsWithin v c w → w.collected ≡ v.collected ++ value_within c
  awaited_within v w (Some c) waited = awaited v w c waited
  awaited_within v w None waited = asked_has v w None waited
