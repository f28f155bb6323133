-- What a subscription has taken, turn by turn.
use Rattle.std.proofs.Common.{◌≡◌, ℕ, List, Some, None, Result, Ok, Err, IfOk, IfErr, [], ◌∷◌, ◌++◌, refl, sym, ap, subst, ◌∙◌, ⊎_elim}
use Rattle.flow_terms.specs.declared.refusal.Refusal.{Refusal}
use Rattle.flow_terms.specs.declared.refusal.Refusal.TheVariants.{NoMemory}
use Rattle.shared_lane.specs.Views.{ReaderSeen}
use Rattle.shared_lane.specs.declared.reader.Taken.TheVariants.{Value, Nothing, Overtaken}
use Rattle.shared_lane.proofs.Lives.{took_went}
use Rattle.shared_flow.specs.Lives.{LifeStep, greeted, looked, LivesOn, received_in}
use Rattle.shared_flow.specs.Looks.{Gave, GaveIn, Missed, MissedTwice, MissedOn, not_once, once_more, Waited}
use Rattle.shared_flow.specs.Parties.{Subscribed}
use Rattle.shared_flow.specs.Preludes.{IsGreeted, IsPast, GreetedOr, TookFirst}
use Rattle.shared_flow.proofs.Lives.{lives_more, received_more}
use Rattle.hot_callers.specs.SharedCalls.{HasTaken}

-- the same of what is left of the prelude, and of the reader
abbrev Takes : List ℕ → ReaderSeen → List ℕ → List ℕ → ReaderSeen → Type 0
Takes rest r values left t = (life_steps : List (LifeStep ℕ)) × LivesOn rest r life_steps left t × (received_in (λ word. word) life_steps ≡ values)

nothing_yet : (rest : List ℕ) (r : ReaderSeen) → Takes rest r [] rest r
nothing_yet rest r = ([], (refl, refl), refl)

takes_more : (rest : List ℕ) (r : ReaderSeen) (then : List ℕ) (m : ReaderSeen) (values left : List ℕ) (t : ReaderSeen)
    → Takes rest r [] then m → Takes then m values left t → Takes rest r values left t
takes_more rest r then m values left t was now = (
  was.0 ++ now.0,
  lives_more rest r was.0 then m now.0 left t was.1 now.1,
  received_more (λ word. word) was.0 now.0 ∙ ap (λ l. l ++ received_in (λ word. word) now.0) was.2 ∙ now.2,
)

missed_one : (rest : List ℕ) (r t : ReaderSeen) → Missed r t → Takes rest r [] rest t
missed_one rest r t missed =
    ⊎_elim (λ look. (looked None ∷ [], (t, tt, took_went r t Nothing look.1, look.0, (refl, refl)), refl))
    (λ look. (looked None ∷ [], (t, tt, took_went r t Overtaken look.1, look.0, (refl, refl)), refl)) missed

gave_one : (r t : ReaderSeen) (v : ℕ) → Gave (λ word. word) r v t → Takes [] r (v ∷ []) [] t
gave_one r t v gives =
    (looked (Some gives.0) ∷ [], (t, refl, took_went r t (Value gives.0) gives.2.1, gives.2.0, (refl, refl)), ap (λ z. z ∷ []) (sym gives.1))

-- by looks that gave nothing it has taken nothing
missed_on : (rest : List ℕ) (r m : ReaderSeen) → MissedOn r m → Takes rest r [] rest m
missed_on rest r m (not_once s) = nothing_yet rest s
missed_on rest r m (once_more s n t before missed) = takes_more rest s rest n [] rest t (missed_on rest s n before) (missed_one rest n t missed)

missed_twice : (rest : List ℕ) (r t : ReaderSeen) → MissedTwice r t → Takes rest r [] rest t
missed_twice rest r t twice = takes_more rest r rest twice.0 [] rest t (missed_one rest r twice.0 twice.1) (missed_one rest twice.0 t twice.2)

gave_in : (r t : ReaderSeen) (v : ℕ) → GaveIn (λ word. word) r v t → Takes [] r (v ∷ []) [] t
gave_in r t v gives =
    ⊎_elim (gave_one r t v) (λ later. takes_more [] r [] later.0 (v ∷ []) [] t (missed_one [] r later.0 later.1) (gave_one later.0 t v later.2)) gives

waited : (r t : ReaderSeen) (v : ℕ) → Waited (λ word. word) r v t → Takes [] r (v ∷ []) [] t
waited r t v waits = takes_more [] r [] waits.0 (v ∷ []) [] t (missed_on [] r waits.0 waits.1) (gave_one waits.0 t v waits.2)

-- a subscription, of whose prelude nothing is left
by_reader : (s t : Subscribed ℕ) (values : List ℕ) → IsPast s t → Takes [] s.reader values [] t.reader → HasTaken s values t
by_reader s t values past takes =
    subst (λ l. Takes l s.reader values t.rest t.reader) (sym past.0) (subst (λ l. Takes [] s.reader values l t.reader) (sym past.1) takes)

greeted_or : (s t : Subscribed ℕ) (v : ℕ) (P : Type 0) → (P → Takes [] s.reader (v ∷ []) [] t.reader) → GreetedOr s v t P → HasTaken s (v ∷ []) t
greeted_or s t v P takes gives =
    ⊎_elim (λ first. (greeted v ∷ [], (t.rest, first.0, (refl, first.2)), refl)) (λ later. by_reader s t (v ∷ []) later.0 (takes later.1)) gives

-- ---- what the calls took

pub taken_more : (s m t : Subscribed ℕ) (values : List ℕ) → HasTaken s [] m → HasTaken m values t → HasTaken s values t
taken_more s m t values was now = takes_more s.rest s.reader m.rest m.reader values t.rest t.reader was now

pub polled_one : (s t : Subscribed ℕ) (v : ℕ) → GreetedOr s v t (GaveIn (λ word. word) s.reader v t.reader) → HasTaken s (v ∷ []) t
polled_one s t v gives = greeted_or s t v (GaveIn (λ word. word) s.reader v t.reader) (gave_in s.reader t.reader v) gives

pub polled_none : (s t : Subscribed ℕ) → IsPast s t × MissedTwice s.reader t.reader → HasTaken s [] t
polled_none s t missed = by_reader s t [] missed.0 (missed_twice [] s.reader t.reader missed.1)

-- a call that waits
pub took_one : (answer : Result ℕ Refusal) (s t : Subscribed ℕ) → IfOk answer (λ v. GreetedOr s v t (Waited (λ word. word) s.reader v t.reader))
    → IfOk answer (λ v. HasTaken s (v ∷ []) t)
took_one (Ok v) s t gives = greeted_or s t v (Waited (λ word. word) s.reader v t.reader) (waited s.reader t.reader v) gives
took_one (Err refusal) s t gives = tt

pub took_none : (answer : Result ℕ Refusal) (s t : Subscribed ℕ) → IfErr answer (λ refusal. (refusal ≡ NoMemory) × IsPast s t × Missed s.reader t.reader)
    → IfErr answer (λ refusal. (refusal ≡ NoMemory) × HasTaken s [] t)
took_none (Ok v) s t missed = tt
took_none (Err refusal) s t missed = (missed.0, by_reader s t [] missed.1 (missed_one [] s.reader t.reader missed.2))

-- a call that doesn't wait
pub tried_one : (s t : Subscribed ℕ) (v : ℕ) → TookFirst (λ word. word) s (Value v) t → HasTaken s (v ∷ []) t
tried_one s t v gives = greeted_or s t v (Gave (λ word. word) s.reader v t.reader) (gave_one s.reader t.reader v) gives

pub tried_none : (s t : Subscribed ℕ) → IsPast s t × Missed s.reader t.reader → HasTaken s [] t
tried_none s t missed = by_reader s t [] missed.0 (missed_one [] s.reader t.reader missed.1)

-- what was taken, and then more
pub taken_on : (s m t : Subscribed ℕ) (values more : List ℕ) → HasTaken s values m → HasTaken m more t → HasTaken s (values ++ more) t
taken_on s m t values more was now = (
  was.0 ++ now.0,
  lives_more s.rest s.reader was.0 m.rest m.reader now.0 t.rest t.reader was.1 now.1,
  received_more (λ word. word) was.0 now.0 ∙ (λ i. was.2 i ++ now.2 i),
)
