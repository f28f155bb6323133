use Rattle.flow_terms.specs.declared.answers.Withdrawn.TheVariants as withdrawn
use Rattle.script_engines.specs.Parties.{GaveUp}
use Rattle.script_engines.proofs.Found.{at_place, at_none}
use Rattle.script_engines.proofs.for_threads.ForThreadsMutableShared.withdraw.Goals as goal

pub returns-in_default : goal.returns-in_default
returns-in_default g c = rw (← c.emission_of.ensures) (at_none GaveUp withdrawn.Gone c.args.self.now.emissions.items c.emission_of.result _ _ _ c.args.self.now.emissions.ok.0 c.in_default.ensures.variant.1)

pub returns-in-Removed : goal.returns-in-Removed
returns-in-Removed g c =
    rw (← c.emission_of.ensures) (at_place GaveUp withdrawn.Gone withdrawn.Removed c.args.self.now.emissions.items c.emission_of.result _ c.in-Some.emitter.now c.cancel_emit.new.self _ _ c.args.self.now.emissions.ok.0 c.in-Some.ensures.variant.0 c.in-Some.ensures.value
    ((λ none. (let e = (c.in-Removed.ensures.idle none).0 in cc)), c.in-Removed.ensures.removed))

pub returns-in-Left : goal.returns-in-Left
returns-in-Left g c =
    rw (← c.emission_of.ensures) (at_place GaveUp withdrawn.Gone (withdrawn.Left c.number.result) c.args.self.now.emissions.items c.emission_of.result _ c.in-Some.emitter.now c.cancel_emit.new.self _ _ c.args.self.now.emissions.ok.0 c.in-Some.ensures.variant.0 c.in-Some.ensures.value
    (c.in-Left.receipt, c.number.ensures, c.in-Left.ensures.left))

pub returns-in-Gone : goal.returns-in-Gone
returns-in-Gone g c =
    rw (← c.emission_of.ensures) (at_place GaveUp withdrawn.Gone withdrawn.Gone c.args.self.now.emissions.items c.emission_of.result _ c.in-Some.emitter.now c.cancel_emit.new.self _ _ c.args.self.now.emissions.ok.0 c.in-Some.ensures.variant.0 c.in-Some.ensures.value
    ((λ none. (c.in-Gone.ensures.idle none).1), c.in-Gone.ensures.removed))
