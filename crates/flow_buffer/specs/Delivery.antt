-- What a buffer in one task may give, for every order of fills and takes.
use Rattle.std.specs.Prelude.{◌≡◌, ℕ, ◌<◌, Option, Some, None, List, [], ◌∷◌, ◌++◌, length}
use Rattle.std.specs.Iterator.{Count, at_most, count_add}
use Rattle.cold_flow.specs.declared.cause.Cause.{Cause}
use Rattle.flow_terms.specs.declared.policy.Policy.{Policy}
use Rattle.flow_terms.specs.declared.policy.Policy.TheVariants.{DropOldest, DropLatest}
use Rattle.cold_flow.specs.Trace.{Trace, ◌⊑◌, so_far, ended_by, led_by}
use Rattle.cold_flow.specs.Poll.{Traces, Beginnings, Within, Fixes}
use Rattle.flow_buffer.specs.declared.ending.Ending.{Ending}
use Rattle.flow_buffer.specs.declared.ending.Ending.TheVariants.{Going, Kept, Given}
use Rattle.flow_buffer.specs.declared.store.Store.{Store}

-- What may come of the held values and of what the source still gives: the oldest held value comes next, or the buffer is filled with the
-- source's next value. Where it is full, the policy says which value is left out. The end comes once none is held.
pub data Delivers {T E : Type 0} (capacity : ℕ) (policy : Policy) : List T → Trace T E → Trace T E → Type 0 where
  stops : {held : List T} {source : Trace T E} → Delivers capacity policy held source (so_far [])
  gives : {held : List T} {source out : Trace T E} (x : T)
      → Delivers capacity policy held source out → Delivers capacity policy (x ∷ held) source (led_by x out)
  takes : {held : List T} {source out : Trace T E} (x : T) → length held < capacity
      → Delivers capacity policy (held ++ x ∷ []) source out → Delivers capacity policy held (led_by x source) out
  overwrites : {held : List T} {source out : Trace T E} (oldest x : T) → policy ≡ DropOldest → length (oldest ∷ held) ≡ capacity
      → Delivers capacity policy (held ++ x ∷ []) source out → Delivers capacity policy (oldest ∷ held) (led_by x source) out
  drops : {held : List T} {source out : Trace T E} (x : T) → policy ≡ DropLatest → length held ≡ capacity
      → Delivers capacity policy held source out → Delivers capacity policy held (led_by x source) out
  ends : (cause : Cause E) → Delivers capacity policy [] (ended_by [] cause) (ended_by [] cause)

-- what a buffer may give that holds these values, of a source that may give these traces
pub record Delivered {T E : Type 0} (capacity : ℕ) (policy : Policy) (held : List T) (source : Traces T E) (t : Trace T E) : Type 0 where
  pub produced : Trace T E
  pub came : source produced
  pub delivers : Delivers capacity policy held produced t

-- the same, once an end was seen or was given
abbrev pub Delivering : {T E : Type 0} → ℕ → Policy → List T → Ending E → Traces T E → Traces T E
Delivering capacity policy held Going source t = Delivered capacity policy held source t
Delivering capacity policy held (Kept cause) source t = Delivered capacity policy held (Beginnings (ended_by [] cause)) t
Delivering capacity policy held (Given cause) source t = t ⊑ ended_by [] cause

-- the polls that are left, where so many values are held
abbrev pub polls_left : {E : Type 0} → Ending E → ℕ → Count → Count
polls_left Going many source = count_add source (at_most many)
polls_left (Kept cause) many source = at_most many
polls_left (Given cause) many source = at_most many

-- what a buffer's run may give, and the polls that are left of it
abbrev pub StoreGives : {T E : Type 0} → Store T E → Traces T E → Traces T E
StoreGives s source t = Delivering s.held.capacity s.policy s.held.items s.ending source t

abbrev pub store_polls : {T E : Type 0} → Store T E → Count → Count
store_polls s source = polls_left s.ending (length s.held.items) source

-- where all that the source may give is fixed, the same comes of it
abbrev pub GivesWhole : {T E : Type 0} → Traces T E → Traces T E → Type 0
GivesWhole {T} {E} source may = (whole : Trace T E) → Fixes whole source → Fixes whole may

-- the last of the values, or what came before them where there is none
abbrev pub latest : {T : Type 0} → Option T → List T → Option T
latest before [] = before
latest before (x ∷ later) = latest (Some x) later

-- whatever ended trace it may give, its last value is that of one that the source may give
abbrev pub GivesLatest : {T E : Type 0} → Traces T E → Traces T E → Type 0
GivesLatest {T} {E} source may = (xs : List T) (cause : Cause E) → may (ended_by xs cause)
    → (ys : List T) × source (ended_by ys cause) × (latest None xs ≡ latest None ys)
