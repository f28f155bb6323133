use Rattle.std.proofs.Common.{refl, sym, ◌∙◌}
use Rattle.cold_flow.specs.declared.cause.Cause.TheVariants.{Finished}
use Rattle.cold_flow.specs.Laws.{Through-within}
use Rattle.more_operators.specs.RelayedLaws.{relay_more, relay_stops, relay_ends, more_within, stop_within, end_within, end_closed, end_stops}
use Rattle.more_operators.specs.RelayedLaws.{nearer_one, second-true, more_prompt}
use Rattle.more_operators.proofs.operators.relay.ask.Goals as goal

-- values, after which it goes on
pub returns-in-More-clause-narrows : goal.returns-in-More-clause-narrows
returns-in-More-clause-narrows g c =
    let relay = g.M.Relay in
    let came = rw c.in-Ready-Value.field-0-is at c.in-Ready-Value.ensures.narrows in
    relay_more relay.takes relay.after relay.closes _ _ _ _ _ _ (sym c.in-More.is ∙ c.take.ensures.takes) c.take.ensures.after came

pub returns-in-More-clause-within : goal.returns-in-More-clause-within
returns-in-More-clause-within g c =
    more_within g.row.S-Fault.Denot c.in-More.held _ _ (rw c.in-Ready-Value.field-0-is at c.in-Ready-Value.ensures.approaches)

pub returns-in-More-clause-nearer : goal.returns-in-More-clause-nearer
returns-in-More-clause-nearer g c going = nearer_one _ _ (rw c.in-Ready-Value.field-0-is at c.in-Ready-Value.ensures.approaches)

pub returns-in-More-clause-prompt : goal.returns-in-More-clause-prompt
returns-in-More-clause-prompt g c on =
    let relay = g.M.Relay in
    let was = c.args.relay.now in (
      refl,
      λ going. rw c.take.ensures.after
          (more_prompt (relay.silent was) _ c.in-More.held _ (relay.steady was) _ _ _ (sym c.in-More.is ∙ c.take.ensures.takes)
          (g.met.M.Relay.gives_soon was c.in-Ready-Value.value) c.in-Ready-Value.ensures.prompt on),
    )

-- the last values
pub returns-in-Stop-clause-narrows : goal.returns-in-Stop-clause-narrows
returns-in-Stop-clause-narrows g c =
    let relay = g.M.Relay in
    let came = rw c.in-Ready-Value.field-0-is at c.in-Ready-Value.ensures.narrows in
    relay_stops relay.takes relay.after relay.closes _ c.take.new.self _ _ _ _ (g.S.Run.may c.cancel.new.self) (sym c.in-Stop.is ∙ c.take.ensures.takes) came (g.met.S.Run.begins _)

pub returns-in-Stop-clause-within : goal.returns-in-Stop-clause-within
returns-in-Stop-clause-within g c = stop_within g.row.S-Fault.Denot c.in-Stop.held _ (g.S.Run.polls c.cancel.new.self)

pub returns-in-Stop-clause-nearer : goal.returns-in-Stop-clause-nearer
returns-in-Stop-clause-nearer g c going = end_closed Finished going

pub returns-in-Stop-clause-prompt : goal.returns-in-Stop-clause-prompt
returns-in-Stop-clause-prompt g c on = (refl, λ going. end_closed Finished going)

pub returns-in-Stop-clause-stops : goal.returns-in-Stop-clause-stops
returns-in-Stop-clause-stops g c = c.cancel.ensures.stops

-- the end of the source
pub returns-in-Ready-End-clause-narrows : goal.returns-in-Ready-End-clause-narrows
returns-in-Ready-End-clause-narrows g c =
    let relay = g.M.Relay in
    let came = rw c.in-Ready-End.field-0-is at c.in-Ready-End.ensures.narrows in
    rw (c.ended.ensures.1, c.ended.ensures.0) (relay_ends relay.takes relay.after relay.closes _ _ _ _ came)

pub returns-in-Ready-End-clause-within : goal.returns-in-Ready-End-clause-within
returns-in-Ready-End-clause-within g c = rw (c.ended.ensures.1, c.ended.ensures.0) (end_within c.in-Ready-End.cause _ _ _)

pub returns-in-Ready-End-clause-nearer : goal.returns-in-Ready-End-clause-nearer
returns-in-Ready-End-clause-nearer g c going = end_closed c.in-Ready-End.cause (sym c.ended.ensures.1 ∙ going)

pub returns-in-Ready-End-clause-prompt : goal.returns-in-Ready-End-clause-prompt
returns-in-Ready-End-clause-prompt g c on = (refl, λ going. end_closed c.in-Ready-End.cause (sym c.ended.ensures.1 ∙ going))

pub returns-in-Ready-End-clause-stops : goal.returns-in-Ready-End-clause-stops
returns-in-Ready-End-clause-stops g c =
    rw c.ended.ensures.1 (end_stops c.in-Ready-End.cause _ ((rw c.in-Ready-End.field-0-is at c.in-Ready-End.ensures.stops) refl))

-- nothing yet
pub returns-in-Pending-clause-waits : goal.returns-in-Pending-clause-waits
returns-in-Pending-clause-waits g c = Through-within _ _ _ c.in-Pending.ensures.narrows

pub returns-in-Pending-clause-later : goal.returns-in-Pending-clause-later
returns-in-Pending-clause-later g c = nearer_one _ _ c.in-Pending.ensures.approaches

pub returns-in-Pending-clause-prompt : goal.returns-in-Pending-clause-prompt
returns-in-Pending-clause-prompt g c on = absurd ((c.in-Pending.ensures.prompt (second-true _ _ on)).0)
