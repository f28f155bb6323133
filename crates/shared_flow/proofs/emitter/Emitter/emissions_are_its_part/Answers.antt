use Rattle.std.proofs.Common.{subst}
use Rattle.shared_rounds.specs.Reach.{party_of}
use Rattle.shared_flow.specs.Emitted.{AreItsPart}
use Rattle.shared_flow.specs.Parties.{Emitting}
use Rattle.shared_flow.proofs.OwnPart.{are_its_part}
use Rattle.shared_flow.proofs.emitter.Emitter.emissions_are_its_part.Goals as goal

pub returns : goal.returns
returns g c =
    let inside = c.self.inside in
    let e : Emitting = record { party = party_of inside.access; id = inside.id; ticket = inside.ticket; last = inside.last } in
    subst AreItsPart c.self.view_is (are_its_part e c.self.invariant.2)
