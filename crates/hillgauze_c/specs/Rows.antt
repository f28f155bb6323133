-- The types of objects, as the logic holds them, for the clauses on what a `&mut` lends.
use denote.RattleType.{RattleType}
use Rattle.std.specs.Borrow.{u64}
use Rattle.shared_core.specs.contracts.state.SharedState as shared
use Rattle.hillgauze_c.specs.contracts.parties.sequencing.Sequencing as sequencing
use Rattle.hillgauze_c.specs.contracts.parties.reading.Reading as reading
use Rattle.hillgauze_c.specs.contracts.parties.seating.Seating as seating
use Rattle.hillgauze_c.specs.contracts.parties.collecting.Collecting as collecting

abbrev pub shared_row : RattleType
shared_row = shared.the_row u64

abbrev pub sequencing_row : RattleType
sequencing_row = sequencing.the_row

abbrev pub reading_row : RattleType
reading_row = reading.the_row

abbrev pub seating_row : RattleType
seating_row = seating.the_row

abbrev pub collecting_row : RattleType
collecting_row = collecting.the_row
