-- An owner that has made no call, and gave half its share of the lock to another.
use Rattle.std.proofs.Common.{◌≡◌, ℕ, suc, [], sym, ap, ◌∙◌}
use Rattle.shared_flow.specs.Owners.{Owning, at_rest, HasMadeNoCall}
use Rattle.shared_flow.specs.Parties.{sharing_of}

pub gave_half : (flow shared : Owning) → HasMadeNoCall 0 flow → shared ≡ record flow { party = sharing_of flow.party } → HasMadeNoCall 1 shared
gave_half flow shared (rests, no_rounds, whole) is = (
  is ∙ ap (λ (o : Owning). record o { party = sharing_of flow.party }) rests ∙ ap at_rest (sym (ap (λ (o : Owning). o.party) is)),
  ap (λ (o : Owning). o.party.rounds) is ∙ no_rounds,
  ap (λ (o : Owning). o.party.halved) is ∙ ap suc whole,
)
