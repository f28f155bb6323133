-- What a caller has of a shared flow's sharing: what it took of its upstream, in order, and what became of each value.
use Rattle.std.specs.Prelude.{◌≡◌, ℕ, List, [], ◌∷◌, ◌++◌, map, Option, Some, None, IsSome, ⊤}
use Rattle.std.specs.List.{last_or}
use Rattle.cold_flow.specs.declared.cause.Cause.{Cause}
use Rattle.cold_flow.specs.declared.cause.Cause.TheVariants.{Refused}
use Rattle.cold_flow.specs.Poll.{Traces}
use Rattle.shared_flow.specs.Emitted.{Outcome, Emissions, accepted, refused, in_flight, withdrawn, settled, WasEmitted}
use Rattle.sharing_upstream.specs.declared.upstream.Course.{Course}
use Rattle.sharing_upstream.specs.Courses.{kept_cause}
use Rattle.flow_sharing.specs.Taken.{Took}

-- the words, in order
abbrev pub words_of : Emissions → List ℕ
words_of xs = map (λ (x : ℕ × Outcome). x.0) xs

-- what waits, if something does, was emitted last, and is in flight
abbrev pub WaitsLast : {T : Type 0} → (T → ℕ) → Option T → Emissions → Type 0
WaitsLast {T} word waits xs = (x : T) → waits ≡ Some x → last_or None xs ≡ Some (word x, in_flight)

module _ {T : Type 0} where
  -- What became of the value that had waited, if one had, before these were taken: it was accepted; or it was withdrawn, or nothing is told
  -- of it, and nothing was taken
  pub data Awaited (waited : Option T) (old : Emissions) (taken : List T) (before : Emissions) : Type 0 where
    none_waited : waited ≡ None → before ≡ old → Awaited waited old taken before
    was_accepted : IsSome waited → (number : ℕ) → before ≡ settled (accepted number) old → Awaited waited old taken before
    was_withdrawn : IsSome waited → taken ≡ [] → before ≡ settled withdrawn old → Awaited waited old taken before
    is_unchanged : taken ≡ [] → before ≡ old → Awaited waited old taken before

  -- how the value stands that was taken last: it waits; it was refused, which ended the sharing; or it was accepted or dropped
  abbrev pub Stands : {E : Type 0} → Option (Cause E) → Option T → Outcome → Type 0
  Stands fault waits in_flight = IsSome waits
  Stands fault waits (refused refusal) = fault ≡ Some (Refused refusal)
  Stands fault waits outcome = WasEmitted outcome

  -- the last one stands so, and each before it was accepted or dropped
  abbrev pub OnlyLastStands : {E : Type 0} → Option (Cause E) → Option T → Emissions → Type 0
  OnlyLastStands fault waits [] = ⊤
  OnlyLastStands fault waits (x ∷ []) = Stands fault waits x.1
  OnlyLastStands fault waits (x ∷ y ∷ more) = WasEmitted x.1 × OnlyLastStands fault waits (y ∷ more)

-- What a poll took of its upstream, and emitted. The upstream stood as `from`, the value `waited` waited, and `old` was emitted so far; now
-- it stands as `to`, the value `waits` waits, and `new` was emitted
pub record Emits {T E U : Type 0} (word : T → ℕ) (may : U → Traces T E) (new_run : Traces T E) (from : Course U E) (waited : Option T)
    (old : Emissions) (to : Course U E) (waits : Option T) (new : Emissions) : Type 0 where
  pub taken : List T
  pub of_upstream : Took may new_run from taken to
  -- each value that was taken was emitted once, in this order, and nothing else was
  pub each_once_in_order : words_of new ≡ words_of old ++ map word taken
  pub before : Emissions
  pub more : Emissions
  pub then_emitted : new ≡ before ++ more
  pub awaited : Awaited waited old taken before
  pub only_last_waits : OnlyLastStands (kept_cause to) waits more
  pub waits_last : WaitsLast word waits new
