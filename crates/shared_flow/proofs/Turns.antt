-- What a subscription takes at once, turn by turn.
use Rattle.std.proofs.Common.{◌≡◌, ⊎_elim, ℕ, List, [], ◌∷◌, ◌++◌, map, Option, None, Some, refl, sym, ap, subst, ◌∙◌}
use Rattle.std.proofs.lemmas.List.{take-append-drop}
use Rattle.shared_lane.specs.Headline.{Lived, given}
use Rattle.shared_lane.specs.Views.{ReaderSeen}
use Rattle.shared_lane.proofs.Lives.{took_all_lived}
use Rattle.shared_flow.specs.Laws.{TakingAllIsTakingEach}
use Rattle.shared_flow.specs.Lives.{LifeStep, greeted, looked, IsInTurn, LivesOn, received_in}

module _ {T : Type 0} where
  in_turn : (rest : List T) (x : Option ℕ) → rest ≡ [] → IsInTurn rest x
  in_turn rest None empty = tt
  in_turn rest (Some w) empty = empty

  greets : List T → List (LifeStep T)
  greets [] = []
  greets (v ∷ values) = greeted v ∷ greets values

  looks_on : List (Option ℕ) → List (LifeStep T)
  looks_on [] = []
  looks_on (x ∷ xs) = looked x ∷ looks_on xs

  greeted_each : (values rest : List T) (r : ReaderSeen) → LivesOn (values ++ rest) r (greets values) rest r
  unfolding greets
  greeted_each [] rest r = (refl, refl)
  greeted_each (v ∷ values) rest r = (values ++ rest, refl, greeted_each values rest r)

  greeted_values : (read_as : ℕ → T) (values : List T) → received_in read_as (greets values) ≡ values
  unfolding greets
  greeted_values read_as [] = refl
  greeted_values read_as (v ∷ values) = ap (λ (l : List T). v ∷ l) (greeted_values read_as values)

  looked_each : (none : List T) (xs : List (Option ℕ)) (r t : ReaderSeen) → none ≡ [] → Lived r xs t → LivesOn none r (looks_on xs) none t
  unfolding looks_on
  looked_each none [] r t empty is = (refl, is)
  looked_each none (x ∷ xs) r t empty lived = (lived.0, in_turn none x empty, lived.1, lived.2, looked_each none xs lived.0 t empty lived.3)

  looked_values : (read_as : ℕ → T) (xs : List (Option ℕ)) → received_in read_as (looks_on xs) ≡ map read_as (given xs)
  unfolding looks_on
  looked_values read_as [] = refl
  looked_values read_as (Some w ∷ xs) = ap (λ (l : List T). read_as w ∷ l) (looked_values read_as xs)
  looked_values read_as (None ∷ xs) = looked_values read_as xs

pub taking_all : {T : Type 0} (read_as : ℕ → T) → TakingAllIsTakingEach read_as
taking_all read_as = λ s t room taken values took. ⊎_elim
    (λ all. let whole : s.rest ≡ values ++ t.rest = sym (take-append-drop room s.rest) ∙ (λ i. sym all.0.1.0 i ++ sym all.0.1.1 i) in (
      greets values,
      subst (λ l. LivesOn l s.reader (greets values) t.rest t.reader) (sym whole) (subst (λ r. LivesOn (values ++ t.rest) s.reader (greets values) t.rest r) (sym all.0.3) (greeted_each values t.rest s.reader)),
      greeted_values read_as values,
    ))
    (λ past. let words : List ℕ = past.1.0 in let lived = took_all_lived s.reader t.reader room taken words past.1.2.0 past.1.2.1 in let calls : List (Option ℕ) = None ∷ map Some words in (
      looks_on calls,
      subst (λ l. LivesOn s.rest s.reader (looks_on calls) l t.reader) (past.0.0 ∙ sym past.0.1) (looked_each s.rest calls s.reader t.reader past.0.0 lived.0),
      looked_values read_as calls ∙ (ap (map read_as) lived.1 ∙ sym past.1.1),
    ))
    took
