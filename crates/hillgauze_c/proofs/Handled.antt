-- What a call on a handle came to that found an object of its kind.
use Rattle.std.proofs.Common.{◌≡◌, Option, Some, subst}
use Rattle.hillgauze_c.specs.declared.object.Object.{Object}
use Rattle.hillgauze_c.specs.declared.reply.Reply.{Reply}
use Rattle.hillgauze_c.specs.Kinds.{OnPart, OnHandle}

module _ {X : Type 0} (part : Object → Option X) (whole : X → Object) (Call : X → Reply → X → Type 0) (before : Option Object) (reply : Reply) (after : Option Object) where
  pub on_part : (object : Object) → Some object ≡ before → (x y : X) → Some x ≡ part object → after ≡ Some (whole y) → Call x reply y → OnHandle part whole Call before reply after
  on_part object found x y is left call =
      subst (λ handle. OnHandle part whole Call handle reply after) found (subst (λ own. OnPart part whole Call object own reply after) is (y, left, call))
