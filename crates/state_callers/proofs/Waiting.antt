-- What two waits of one watcher give.
use Rattle.std.proofs.Common.{◌≡◌, ◌≢◌, Option, Some, None, IsSome, List, [], ◌∷◌, ◌++◌, refl, sym, ap, ◌∙◌, subst}
use Rattle.std.specs.List.{last_or}
use Rattle.state_flow.specs.declared.view.View.{View}
use Rattle.state_flow.specs.History.{last_of}
use Rattle.state_waiting.specs.declared.collected.Collected.{Collected}
use Rattle.state_waiting.specs.declared.collected.Collected.TheVariants as collected
use Rattle.state_waiting.specs.Waits.{Awaits}
use Rattle.state_waiting.proofs.Asking.{missed_keeps}
use Rattle.state_callers.specs.Given.{given}

module _ {T : Type 0} where
  -- what is added at the end stands last
  last_or_after : (o : Option T) (xs : List T) (x : T) → last_or o (xs ++ x ∷ []) ≡ Some x
  last_or_after o [] x = refl
  last_or_after o (y ∷ ys) x = last_or_after (Some y) ys x

  last_after : (xs : List T) (x : T) → last_of (xs ++ x ∷ []) ≡ Some x
  last_after xs x = last_or_after None xs x

  nothing_is_last : (x : T) → last_of [] ≢ Some x
  nothing_is_last x e = cc

  -- who was given nothing yet is given a value
  pub first_is_given : (v w : View T) (c : Collected T) → v.collected ≡ [] → Awaits v c w → IsSome (given c)
  first_is_given v w (collected.Value x) none awaits = refl
  first_is_given v w collected.Stopped none awaits =
      absurd (nothing_is_last awaits.2.value (subst (λ xs. last_of xs ≡ Some awaits.2.value) (missed_keeps v awaits.0 awaits.1 ∙ none) awaits.2.answers))

  -- what was given stands last in what was collected
  pub given_is_last : (v w : View T) (c : Collected T) (x : T) → given c ≡ Some x → Awaits v c w → last_of w.collected ≡ Some x
  given_is_last v w (collected.Value y) x is awaits = ap last_of awaits.2.received ∙ last_after awaits.0.collected y ∙ is
  given_is_last v w collected.Stopped x is awaits = absurd (cc)

  -- and isn't given again
  pub never_again : (v w : View T) (c : Collected T) (x : T) → last_of v.collected ≡ Some x → Awaits v c w → given c ≢ Some x
  never_again v w (collected.Value y) x last awaits is = awaits.2.answers.1 (ap last_of (missed_keeps v awaits.0 awaits.1) ∙ last ∙ sym is ∙ ap Some awaits.2.answers.0)
  never_again v w collected.Stopped x last awaits is = absurd (cc)
