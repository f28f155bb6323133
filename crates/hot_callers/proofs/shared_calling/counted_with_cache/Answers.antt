use Rattle.std.proofs.Common.{refl, sym, ap, subst, ◌∙◌}
use Rattle.shared_rounds.specs.declared.round.Round.TheVariants as round
use Rattle.shared_rounds.specs.Rounds.{Comes}
use Rattle.hot_callers.proofs.shared_calling.counted_with_cache.Goals as goal

pub returns-in-Ok-clause-at_once : goal.returns-in-Ok-clause-at_once
returns-in-Ok-clause-at_once g c =
    let kept = c.hold-held.result.kept in
    let held = c.hold-held.ensures.held in
    let flow = sym (ap (λ p. p.flow) c.hold-held.ensures.party) ∙ held.0 in
    let did = subst (λ n. Comes held.1.0 (round.Hold n) kept.shared) (sym c.count-count.ensures) held.1.2 in
    (kept.shared.sequencer.cache, c.in-Ok.ensures, (held.1.0, kept.shared, flow, did, refl))
