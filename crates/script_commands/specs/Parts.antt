-- What a name of what joined a flow is of that flow.
use Rattle.std.specs.Prelude.{ℕ, Option, Some, None, Result, Ok, Err}
use Rattle.flow_terms.specs.declared.refusal.Refusal.{Refusal}
use Rattle.flow_terms.specs.declared.ids.SubId.{SubId}
use Rattle.flow_terms.specs.declared.ids.Ticket.{Ticket}
use Rattle.flow_terms.specs.declared.answers.Begun.{Begun}
use Rattle.flow_terms.specs.declared.answers.Begun.TheVariants as begun
use Rattle.script_commands.specs.declared.part.Part.{Part}
use Rattle.script_commands.specs.declared.part.Part.TheVariants.{Subscription, InFlight, Finished}

abbrev pub subscription_in : Result SubId Refusal → Option Part
subscription_in (Ok id) = Some (Subscription id)
subscription_in (Err refusal) = None

abbrev pub emission_in : Result (Begun ℕ Ticket) Refusal → Option Part
emission_in (Ok (begun.Accepted number)) = Some Finished
emission_in (Ok begun.Dropped) = Some Finished
emission_in (Ok (begun.Waiting ticket)) = Some (InFlight ticket)
emission_in (Err refusal) = None
