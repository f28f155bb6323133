-- What making an object in a handle came to.
use Rattle.std.proofs.Common.{◌≡◌, inl, inr, Bool, true, false, Option, Some, None, Result, Ok, Err, refl, subst, sym, ap, ◌∙◌}
use Rattle.std.specs.Prelude.{IfSome, IfNone}
use Rattle.flow_terms.specs.declared.refusal.Refusal.{Refusal}
use Rattle.flow_terms.specs.declared.refusal.Refusal.TheVariants.{NoMemory}
use Rattle.shared_core.specs.declared.config.Config.{Config}
use Rattle.shared_core.specs.Kept.{making_refusal}
use Rattle.hillgauze_c.specs.declared.config.FlowConfig.{FlowConfig}
use Rattle.hillgauze_c.specs.declared.object.Object.{Object}
use Rattle.hillgauze_c.specs.declared.reply.Reply.{Reply}
use Rattle.hillgauze_c.specs.Replies.{refusal_reply, made_reply}
use Rattle.hillgauze_c.specs.Makes.{config_of, IsMadeOrLeft, IsMadeBy, IsMadeFrom, IsMadeIn}

module _ {X : Type 0} where
  abbrev Succeeded : Result X Refusal → Type 0
  Succeeded (Ok x) = Unit {0}
  Succeeded (Err e) = ⊥

  abbrev error_of : Result X Refusal → Refusal
  error_of (Ok x) = NoMemory
  error_of (Err e) = e

module _ (IsFresh : Config → Object → Type 0) (config : FlowConfig) (before : Option Object) (reply : Reply) (after : Option Object) (was : before ≡ None)
    (c : Config) (is : Some c ≡ config_of config) (X : Type 0) where
  from : IsMadeBy IsFresh c (making_refusal c) reply after → IsMadeIn IsFresh before config reply after
  from by = subst (λ handle. IsMadeIn IsFresh handle config reply after) (sym was) (subst (λ with_policy. IsMadeFrom IsFresh with_policy reply after) is by)

  or_left : (object : Object) (made : Bool) → reply ≡ made_reply made → (made ≡ true → after ≡ Some object) → (made ≡ false → after ≡ before)
      → IsFresh c object → IsMadeOrLeft (IsFresh c) reply after
  or_left object true replied some left new = inl (object, replied, some refl, new)
  or_left object false replied some left new = inr (replied, left refl ∙ was)

  by_none : (x : X) (refusal : Option Refusal) → IfSome refusal (λ r. ◌≡◌ {A = Result X Refusal} (Ok x) (Err r))
      → IsMadeOrLeft (IsFresh c) reply after → IsMadeBy IsFresh c refusal reply after
  by_none x None due made = made
  by_none x (Some r) due made = absurd (subst Succeeded due tt)

  pub made : (x : X) (object : Object) (there : Bool) → IfSome (making_refusal c) (λ r. ◌≡◌ {A = Result X Refusal} (Ok x) (Err r))
      → reply ≡ made_reply there → (there ≡ true → after ≡ Some object) → (there ≡ false → after ≡ before) → IsFresh c object → IsMadeIn IsFresh before config reply after
  made x object there due replied some left new = from (by_none x (making_refusal c) due (or_left object there replied some left new))

  by_refusal : (e : Refusal) (refusal : Option Refusal) → IfSome refusal (λ r. ◌≡◌ {A = Result X Refusal} (Err e) (Err r)) → IfNone refusal (e ≡ NoMemory)
      → reply ≡ refusal_reply e → after ≡ None → IsMadeBy IsFresh c refusal reply after
  by_refusal e None due memory replied left = inr (subst (λ r. reply ≡ refusal_reply r) memory replied, left)
  by_refusal e (Some r) due memory replied left = (subst (λ x. reply ≡ refusal_reply x) (ap error_of due) replied, left)

  pub not_made : (e : Refusal) → IfSome (making_refusal c) (λ r. ◌≡◌ {A = Result X Refusal} (Err e) (Err r)) → IfNone (making_refusal c) (e ≡ NoMemory)
      → reply ≡ refusal_reply e → after ≡ before → IsMadeIn IsFresh before config reply after
  not_made e due memory replied left = from (by_refusal e (making_refusal c) due memory replied (left ∙ was))
