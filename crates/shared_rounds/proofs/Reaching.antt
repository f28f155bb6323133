-- What an owner has under its hand, by what it knows.
use Rattle.std.proofs.Common.{◌≡◌, Option, Some, None, refl, sym}
use Rattle.std.proofs.lemmas.Option.{none-some, same_Some}
use Rattle.shared_rounds.specs.Names.{SharedSeen}
use Rattle.shared_rounds.specs.Reach.{seen_in}

pub seen_is : {S : Type 0} (value : S → SharedSeen) (held : Option S) (old : SharedSeen) → seen_in value held ≡ Some old → (state : S) × (held ≡ Some state) × (value state ≡ old)
seen_is value None old e = absurd (none-some old e)
seen_is value (Some state) old e = (state, refl, same_Some _ _ e)

pub nothing_held : {S : Type 0} (value : S → SharedSeen) (held : Option S) → seen_in value held ≡ None → held ≡ None
nothing_held value None none = refl
nothing_held value (Some state) none = absurd (none-some _ (sym none))
