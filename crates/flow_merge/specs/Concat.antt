-- Inner sources one after the other.
use Rattle.std.specs.Prelude.{◌≡◌, Bool, true, false, IsTrue, List, [], ◌∷◌, ◌++◌, Option, Some, None, ◌⊎◌, map}
use Rattle.std.specs.List.{AllZip}
use Rattle.cold_flow.specs.declared.cause.Cause.{Cause}
use Rattle.cold_flow.specs.declared.cause.Cause.TheVariants.{Finished, Failed, Cancelled, Refused}
use Rattle.flow_terms.specs.declared.refusal.Refusal.TheVariants.{NoMemory}
use Rattle.cold_flow.specs.Trace.{Trace, ◌⊑◌, ended_by}
use Rattle.cold_flow.specs.Poll.{Traces, Fixes, OrRefused}
use Rattle.cold_flow.specs.Polled.{HasWaited}
use Rattle.cold_flow.specs.declared.event.Event.{Event}
use Rattle.futures.specs.declared.task.Poll.{Poll}

-- t, and then u where t has finished
abbrev pub followed_by : {B E : Type 0} → Trace B E → Trace B E → Trace B E
followed_by (xs, None) u = (xs, None)
followed_by (xs, Some Finished) u = (xs ++ u.0, u.1)
followed_by (xs, Some (Failed e)) u = (xs, Some (Failed e))
followed_by (xs, Some Cancelled) u = (xs, Some Cancelled)
followed_by (xs, Some (Refused r)) u = (xs, Some (Refused r))

-- the traces joined in their order while each is finished, and after them the end
abbrev pub joined : {B E : Type 0} → List (Trace B E) → Option (Cause E) → Trace B E
joined [] last = ([], last)
joined (t ∷ ts) last = followed_by t (joined ts last)

-- what the inner run that stands may give; where none stands, nothing more comes of it
abbrev pub MayStand : {B E R : Type 0} → (R → Traces B E) → Option R → Traces B E
MayStand may None t = t ≡ ended_by [] Finished
MayStand may (Some r) t = may r t

-- what an inner flow may give, or that its start was refused, unless it cannot be
abbrev pub OrUnstarted : {B E : Type 0} → Bool → Traces B E → Traces B E
OrUnstarted true gives t = gives t
OrUnstarted false gives t = OrRefused gives t

-- What a concatenation may give: the beginnings of the trace that stands and of the inner traces after it, joined in the order in which
-- the outer gives their values, up to the outer's end. An inner flow gives what it may, or its start is refused.
pub record MayConcat {A B E R : Type 0} (starts : A → Bool) (inner : A → Traces B E) (may : R → Traces B E)
    (standing : Option R) (outer : Traces A E) (t : Trace B E) : Type 0 where
  pub of_standing : Trace B E
  pub of_outer : Trace A E
  pub of_inner : List (Trace B E)
  pub standing_came : MayStand may standing of_standing
  pub outer_came : outer of_outer
  pub inner_came : AllZip (λ x. OrUnstarted (starts x) (inner x)) of_outer.0 of_inner
  pub begins : t ⊑ followed_by of_standing (joined of_inner of_outer.1)

-- An end that may be given comes after the inner traces of the outer's values, joined; or it is that a start was refused.
abbrev pub JoinsOrRefused : {A B E : Type 0} → (A → Trace B E) → Trace A E → Traces B E → Type 0
JoinsOrRefused {A} {B} {E} whole o may =
    (xs : List B) (k : Cause E) → may (ended_by xs k) → (k ≡ Refused NoMemory) ⊎ (ended_by xs k ≡ joined (map whole o.0) o.1)

-- where the outer can give one whole trace alone, and each inner flow too, an end comes after those joined, unless a start was refused
abbrev pub JoinsExactlyOrRefused : {A B E : Type 0} → (A → Traces B E) → Traces A E → Traces B E → Type 0
JoinsExactlyOrRefused {A} {B} {E} inner outer made =
    (o : Trace A E) (whole : A → Trace B E) → Fixes o outer → ((x : A) → Fixes (whole x) (inner x)) → JoinsOrRefused whole o made

-- where moreover no inner start can be refused, only those joined can be given
abbrev pub JoinsExactly : {A B E : Type 0} → (A → Bool) → (A → Traces B E) → Traces A E → Traces B E → Type 0
JoinsExactly {A} {B} {E} starts inner outer made =
    (o : Trace A E) (whole : A → Trace B E) → ((x : A) → IsTrue (starts x)) → Fixes o outer → ((x : A) → Fixes (whole x) (inner x))
    → Fixes (joined (map whole o.0) o.1) made

-- the run that is asked next has answered pending: the inner one, or the outer where none stands
abbrev pub StandingWaited : {A B E O R : Type 0} → (O → Poll (Event A E) → O → Type 0) → (R → Poll (Event B E) → R → Type 0)
    → O → Option R → Type 0
StandingWaited outer_polled polled outer None = HasWaited outer_polled outer
StandingWaited outer_polled polled outer (Some r) = HasWaited polled r
