use Rattle.flow_terms.specs.declared.answers.Emit.TheVariants as emit
use Rattle.std.proofs.Common.{refl}
use Rattle.script_engines.specs.Parties.{Polled}
use Rattle.script_engines.proofs.Found.{at_place, at_none}
use Rattle.script_engines.proofs.Parties.{is_none}
use Rattle.script_engines.proofs.for_threads.ForThreadsMutableShared.poll_emit.Goals as goal

pub returns-in_default : goal.returns-in_default
returns-in_default g c = rw (← c.emission_of.ensures) (at_none Polled emit.Gone c.args.self.now.emissions.items c.emission_of.result _ _ _ c.args.self.now.emissions.ok.0 c.in_default.ensures.variant.1)

pub returns-then-not-in_flight : goal.returns-then-not-in_flight
returns-then-not-in_flight g c =
    rw (← c.emission_of.ensures) (at_place Polled emit.Gone emit.Gone c.args.self.now.emissions.items c.emission_of.result _ c.in-Some.emitter.now c.in-Some.emitter.now _ _ c.args.self.now.emissions.ok.0 c.in-Some.ensures.variant.0 c.in-Some.ensures.value (is_none _ c.if-not-in_flight.ensures, refl))

pub returns-in_default-poll_emit : goal.returns-in_default-poll_emit
returns-in_default-poll_emit g c =
    rw (← c.emission_of.ensures) (at_place Polled emit.Gone emit.Waiting c.args.self.now.emissions.items c.emission_of.result _ c.in-Some.emitter.now c.poll_emit.new.self _ _ c.args.self.now.emissions.ok.0 c.in-Some.ensures.variant.0 c.in-Some.ensures.value c.in_default-poll_emit.ensures.pending)

pub returns : goal.returns
returns g c =
    rw (← c.emission_of.ensures) (at_place Polled emit.Gone (emit.Done c.number.result) c.args.self.now.emissions.items c.emission_of.result _ c.in-Some.emitter.now c.poll_emit.new.self _ _ c.args.self.now.emissions.ok.0 c.in-Some.ensures.variant.0 c.in-Some.ensures.value
    (c.in-Ready.receipt, c.number.ensures, c.in-Ready.ensures.ready))
