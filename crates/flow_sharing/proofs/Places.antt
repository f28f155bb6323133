-- When nothing waits at the place where the values of a sharing go.
use Rattle.std.proofs.Common.{◌≡◌, ◌≢◌, ℕ, Bool, true, false, Option, Some, None, ap, ◌∙◌, ⊎_elim, is_some}
use Rattle.sharing_upstream.specs.declared.destination.Offer.{Offer}
use Rattle.sharing_upstream.specs.declared.destination.Offer.TheVariants.{Accepted, Waiting, Refused}
use Rattle.sharing_upstream.specs.Destinations.{Offered}
use Rattle.flow_sharing.specs.FlowDestinations.{DestinationSeen, emitting, Found}

module _ {T : Type 0} where
  pub accepted_frees : (word : T → ℕ) (s : DestinationSeen T) (x : T) (offer : Offer) (t : DestinationSeen T) → Offered (emitting word) s x offer t → offer ≡ Accepted → t.waiting ≡ None
  accepted_frees word s x Accepted t offered is = ap (λ (p : DestinationSeen T). p.waiting) offered.0
  accepted_frees word s x Waiting t offered is = let no = is in cc
  accepted_frees word s x (Refused refusal) t offered is = let no = is in cc

  pub found_free : (s : DestinationSeen T) (waits : Bool) (t : DestinationSeen T) → Found s waits t → waits ≡ false → t.waiting ≡ None
  found_free s true t found is = let no = is in cc
  found_free s false t found is =
      ⊎_elim (λ none. ap (λ (p : DestinationSeen T). p.waiting) none.1 ∙ none.0) (λ finished. ap (λ (p : DestinationSeen T). p.waiting) finished.0) found

  pub some_waits : (waiting : Option T) → is_some waiting ≡ true → waiting ≢ None
  some_waits None is none = let no = is in cc
  some_waits (Some x) is none = let no = none in cc
