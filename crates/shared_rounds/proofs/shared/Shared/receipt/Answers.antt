use Rattle.std.proofs.Common.{◌∙◌, ◌+◌, ◌-◌, sym, ap, subst, take}
use Rattle.std.specs.Arc.{arc_value}
use Rattle.shared_lane.specs.Places.{IsAccepted}
use Rattle.shared_lane.specs.Sequencers.{seen}
use Rattle.shared_rounds.specs.Names.{SharedSeen, TrackSeen}
use Rattle.shared_rounds.specs.Rounds.{IsReceiptOfOne, HasSeenUpTo}
use Rattle.shared_rounds.proofs.Receipts.{of_one}
use Rattle.shared_rounds.proofs.shared.Shared.receipt.Goals as goal

pub returns-clause-receipt : goal.returns-clause-receipt
returns-clause-receipt c =
    let accepted = subst (λ (s : SharedSeen). IsAccepted s.sequencer c.args.emitter c.args.number) (sym c.self.view_is) c.requires in
    let made = c.receipt.ensures.receipt in
    subst (λ (s : SharedSeen). IsReceiptOfOne s.name.lane c.args.emitter c.receipt.result) c.self.view_is
    (of_one (arc_value c.self.inside.track).lane c.self.inside.sequencer c.receipt.result c.args.emitter c.args.number c.self.invariant.0.0 accepted
    (made.0 ∙ ap (λ l. l.table) (c.lane.ensures ∙ ap (λ (t : TrackSeen). t.lane) c.deref.ensures)) made.1 made.2 c.receipt.ensures.seen)

pub returns-clause-seen : goal.returns-clause-seen
returns-clause-seen c =
    let q = c.self.inside.sequencer in
    let made = c.receipt.ensures.receipt in
    subst (λ (s : SharedSeen). HasSeenUpTo s.sequencer c.receipt.result) c.self.view_is
    (c.receipt.ensures.seen ∙ ap (λ n. take (n + 1 - q.view.shape.first) (seen q)) (sym made.2))
