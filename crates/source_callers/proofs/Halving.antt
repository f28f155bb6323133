-- Halves of the even numbers that a hot flow gives.
use Rattle.std.proofs.Common.{◌≡◌, ℕ, Bool, List, [], ◌∷◌, ◌++◌, length, filter, map, Option, Some, None, MatchOption, refl, sym, ◌∙◌, ap, subst, inl, inr}
use Rattle.std.proofs.lemmas.List.{append-nil}
use Rattle.cold_flow.specs.declared.cause.Cause.{Cause}
use Rattle.cold_flow.specs.Trace.{Trace, ended_by, on_values}
use Rattle.cold_flow.specs.declared.event.Event.{Event}
use Rattle.cold_flow.specs.declared.event.Event.TheVariants.{End}
use Rattle.cold_flow.specs.Poll.{Traces, Through, Unless, Narrows}
use Rattle.futures.specs.declared.task.Poll.{Poll}
use Rattle.futures.specs.declared.task.Poll.TheVariants.{Ready}
use Rattle.shared_flow.specs.Parties.{Subscribed}
use Rattle.cold_flow.specs.Laws.{ended-begins}
use Rattle.hot_sources.specs.Receiving.{Unended, Receives}
use Rattle.hot_sources.specs.Waiting.{Came}
use Rattle.cold_flow.specs.Passing.{PassesAll}
use Rattle.source_callers.specs.Halves.{even, half}

-- what passes of the numbers, where nothing comes behind them
pub halved : (xs ys zs : List ℕ) → ((rest : List ℕ) → filter even (xs ++ rest) ≡ ys ++ filter even rest)
    → ((rest : List ℕ) → map half (ys ++ rest) ≡ zs ++ map half rest) → map half (filter even xs) ≡ zs
halved xs ys zs first second =
    let kept : filter even xs ≡ ys = ap (filter even) (sym (append-nil xs)) ∙ first [] ∙ append-nil ys in
    ap (map half) kept ∙ ap (map half) (sym (append-nil ys)) ∙ second [] ∙ append-nil zs

-- an operator that leaves the end as it is ends only where its source does
through-unended : {A B E : Type 0} (f : List A → List B) (source : Traces A E) → ((xs : List A) (k : Cause E) → source (ended_by xs k) → ⊥)
    → (ys : List B) (k : Cause E) → Through (on_values f) source (ended_by ys k) → ⊥
through-unended {A} {B} {E} f source none ys k h =
    let same = ended-begins ys k (on_values f h.given) h.begins in
    let cause : h.given.1 ≡ Some k = sym (ap (λ (t : Trace B E). t.1) same) in
    none h.given.0 k (subst (λ (o : Option (Cause E)). source (h.given.0, o)) cause h.came)

going : {A E : Type 0} (o : Option (Cause E)) (gives : Traces A E) (t : Trace A E) → o ≡ None → Unless o gives t → gives t
going None gives t fresh h = h
going (Some k) gives t fresh h = absurd (cc)

unended : {A E : Type 0} (xs : List A) (k : Cause E) → Unended (ended_by xs k) → ⊥
unended xs k h = cc

-- so two of them over a source that doesn't end don't end
pub never-ended : {A B C E : Type 0} (o : Option (Cause E)) → o ≡ None → (f : List A → List B) (g : List B → List C) (ys : List C) (k : Cause E)
    → Unless o (Through (on_values g) (Unless o (Through (on_values f) (Unless o Unended)))) (ended_by ys k) → ⊥
never-ended {A} {B} {C} {E} o fresh f g ys k h =
    through-unended g (Unless o (Through (on_values f) (Unless o Unended)))
    (λ zs j i.
    through-unended f (Unless o (Unended {A = A} {E = E})) (λ xs l m. unended xs l (going o Unended (ended_by xs l) fresh m)) zs j
    (going o (Through (on_values f) (Unless o Unended)) (ended_by zs j) fresh i))
    ys k (going o (Through (on_values g) (Unless o (Through (on_values f) (Unless o Unended)))) (ended_by ys k) fresh h)

-- ---- what a call answered, in the arm that was taken

pub at_none : {X : Type 0} (o : Option X) (P : Type 0) (Q : X → Type 0) → o ≡ None → MatchOption o P Q → P
at_none None P Q e h = h
at_none (Some x) P Q e h = absurd (cc)

pub at_some : {X : Type 0} (o : Option X) (x : X) (P : Type 0) (Q : X → Type 0) → o ≡ Some x → MatchOption o P Q → Q x
at_some {X = X} o x P Q e h = subst (λ (p : Option X). MatchOption p P Q) e h

pub came_is : {R A E : Type 0} (polled : R → Poll (Event A E) → R → Type 0) (old new : R) (event e : Event A E) → event ≡ e → Came polled old event new
    → Came polled old e new
came_is {A = A} {E = E} polled old new event e is came = subst (λ (x : Event A E). Came polled old x new) is came

pub could_end : {A E : Type 0} (old new : Traces A E) (event : Event A E) (k : Cause E) → event ≡ End k → Narrows old (Ready event) new → old (ended_by [] k)
could_end {A = A} {E = E} old new event k is h = subst (λ (x : Event A E). Narrows old (Ready x) new) is h

-- what a source is seen as, inside two operators
pub inside : {Q R S X : Type 0} (q : Q) (r : R) (s : S) (f : Q → R) (g : R → S) (h : S → X) (x : X) → f q ≡ r → g r ≡ s → h s ≡ x → h (g (f q)) ≡ x
inside q r s f g h x first second third = ap h (ap g first ∙ second) ∙ third

pub received_from : (read_as : ℕ → ℕ) (s t u : Subscribed ℕ) (xs : List ℕ) → s ≡ u → Receives read_as s xs t → Receives read_as u xs t
received_from read_as s t u xs is h = subst (λ (v : Subscribed ℕ). Receives read_as v xs t) is h

pub received_to : (read_as : ℕ → ℕ) (s t u : Subscribed ℕ) (xs : List ℕ) → u ≡ t → Receives read_as s xs t → Receives read_as s xs u
received_to read_as s t u xs is h = subst (λ (v : Subscribed ℕ). Receives read_as s xs v) (sym is) h
