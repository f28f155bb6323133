-- The emitter of a sharing, as a part of the place where its values go.
use Rattle.std.specs.declared.cmp.PartialEq as compared
use Rattle.flow_terms.specs.declared.word.Word as words
use Rattle.shared_flow.specs.Owners.{Owning}
use Rattle.flow_sharing.specs.declared.flow_destination.Outlet.{Outlet}
use Rattle.flow_sharing.specs.FlowDestinations.{DestinationSeen}

-- the place that it makes with this owner of the flow
abbrev pub place_at : {T : Type 0} {word : words.Ghosts T} {compare : compared.Ghosts T} → Owning → Outlet T word compare → DestinationSeen T
place_at owner outlet = record { owner = owner; emitter = outlet.emitter; waiting = outlet.waiting }
