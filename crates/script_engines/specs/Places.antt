-- What a call does that goes to one of many places.
use Rattle.std.specs.Prelude.{◌≡◌, Option, Some, None}

-- The call was made at the place that was found, and what it left was put there, without any other change; where no place was found,
-- this is the reply, and nothing has changed
abbrev pub AtPlace : {X R S : Type 0} → (X → R → X → Type 0) → R → Option X → (X → S) → S → R → S → Type 0
AtPlace call none None put old reply new = (reply ≡ none) × (new ≡ old)
AtPlace {X} call none (Some place) put old reply new = (left : X) × call place reply left × (new ≡ put left)
