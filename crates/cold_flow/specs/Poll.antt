-- What a poll says of what the run may still give.
use Rattle.std.specs.Prelude.{◌≡◌, ◌⊎◌, [], Option, Some, None, ⊤, ◌<◌, ◌≤◌}
use Rattle.std.specs.Iterator.{Count, IsFinite, size}
use Rattle.futures.specs.declared.task.Poll.{Poll}
use Rattle.futures.specs.declared.task.Poll.TheVariants.{Ready, Pending}
use Rattle.cold_flow.specs.declared.cause.Cause.{Cause}
use Rattle.cold_flow.specs.declared.cause.Cause.TheVariants.{Cancelled, Refused}
use Rattle.flow_terms.specs.declared.refusal.Refusal.TheVariants.{NoMemory}
use Rattle.cold_flow.specs.declared.event.Event.{Event}
use Rattle.cold_flow.specs.declared.event.Event.TheVariants.{Value, End}
use Rattle.cold_flow.specs.Trace.{Trace, ◌⊑◌, ended_by, led_by}

-- the traces that a run may give
abbrev pub Traces : Type 0 → Type 0 → Type 1
Traces A E = Trace A E → Type 0

-- whatever new may give, old could give
abbrev pub Within : {A E : Type 0} → Traces A E → Traces A E → Type 0
Within {A} {E} old new = (t : Trace A E) → new t → old t

-- whatever new may give, old could give after v
abbrev pub After : {A E : Type 0} → Traces A E → A → Traces A E → Type 0
After {A} {E} old v new = (t : Trace A E) → new t → old (led_by v t)

-- what a poll leaves is part of what could come
abbrev pub Narrows : {A E : Type 0} → Traces A E → Poll (Event A E) → Traces A E → Type 0
Narrows old (Ready (Value v)) new = After old v new
Narrows old (Ready (End k)) new = old (ended_by [] k)
Narrows old Pending new = Within old new

-- a poll that did not answer pending
abbrev pub IsReady : {A : Type 0} → Poll A → Type 0
IsReady (Ready x) = ⊤
IsReady Pending = ⊥

-- the cause that a poll gave
abbrev pub end_of : {A E : Type 0} → Poll (Event A E) → Option (Cause E)
end_of (Ready (Value v)) = None
end_of (Ready (End k)) = Some k
end_of Pending = None

-- the cause that a cancelled run answers
abbrev pub after_cancel : {E : Type 0} → Option (Cause E) → Cause E
after_cancel None = Cancelled
after_cancel (Some k) = k

-- fewer polls are left, unless the run has ended
abbrev pub Approaches : {A E : Type 0} → Count → Poll (Event A E) → Count → Type 0
Approaches old (Ready (Value v)) new = IsFinite old → IsFinite new × (size new < size old)
Approaches old (Ready (End k)) new = ⊤
Approaches old Pending new = IsFinite old → IsFinite new × (size new < size old)

-- no more polls are left of new than of old
abbrev pub IsWithinPolls : Count → Count → Type 0
IsWithinPolls old new = IsFinite old → IsFinite new × (size new ≤ size old)

-- what an operator may give: the beginnings of f of what its source may give
pub record Through {A B E : Type 0} (f : Trace A E → Trace B E) (source : Traces A E) (t : Trace B E) : Type 0 where
  pub given : Trace A E
  pub came : source given
  pub begins : t ⊑ f given

-- the beginnings of one trace
abbrev pub Beginnings : {A E : Type 0} → Trace A E → Traces A E
Beginnings whole t = t ⊑ whole

-- what may be given is one trace, whole or its beginning
abbrev pub Fixes : {A E : Type 0} → Trace A E → Traces A E → Type 0
Fixes whole may = Within (Beginnings whole) may

-- what an operator may give begins f of what its source may give
abbrev pub Makes : {A B E : Type 0} → (Trace A E → Trace B E) → Traces A E → Traces B E → Type 0
Makes f source made = Within (Through f source) made

-- where its source can give one whole trace alone, the operator can give f of that trace alone
abbrev pub MakesExactly : {A B E : Type 0} → (Trace A E → Trace B E) → Traces A E → Traces B E → Type 0
MakesExactly {A} {B} {E} f source made = (whole : Trace A E) → Fixes whole source → Fixes (f whole) made

-- what a run may give, until it has ended
abbrev pub Unless : {A E : Type 0} → Option (Cause E) → Traces A E → Traces A E
Unless None going t = going t
Unless (Some k) going t = t ⊑ ended_by [] k

-- what a flow may give, or that its start was refused
abbrev pub OrRefused : {A E : Type 0} → Traces A E → Traces A E
OrRefused gives t = gives t ⊎ (t ≡ ended_by [] (Refused NoMemory))
