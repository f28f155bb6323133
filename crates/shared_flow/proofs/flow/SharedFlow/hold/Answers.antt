use Rattle.std.proofs.Common.{rules, ap}
use Rattle.shared_rounds.specs.Names.{SharedSeen}
use Rattle.shared_rounds.specs.Reach.{party_of}
use Rattle.shared_flow.proofs.Making.{found_again}
use Rattle.shared_flow.proofs.flow.SharedFlow.hold.Goals as goal

pub returns-clause-held : goal.returns-clause-held
returns-clause-held g c =
    let found : SharedSeen = c.enter-inside.result.shared.value in
    let taken = c.enter-inside.ensures.taken in (
      search rules,
      (
        found,
        search rules,
        search rules,
        search rules,
        search rules,
        found_again (party_of c.self.inside.access) (party_of c.enter-inside.new.self) found c.enter-inside.ensures.found (ap party_of taken),
      ),
    )
