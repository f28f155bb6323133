use Rattle.std.proofs.Common.{◌≡◌, length, ap, refl, sym, subst}
use Rattle.shared_rounds.specs.Names.{SharedSeen}
use Rattle.shared_rounds.specs.Rounds.{RaisedFor, Scanned, AcceptsFor}
use Rattle.shared_rounds.proofs.shared.Shared.watch.Goals as goal

pub returns-clause-watched : goal.returns-clause-watched
returns-clause-watched c =
    let scanned = c.scan.ensures in
    let it = subst (λ (s : SharedSeen). Scanned s.sequencer c.scan.new.self) c.self.view_is (c.scan.new.self, c.scan.result, scanned.same.1, scanned.settled, scanned.stuck, refl) in
    subst (λ k. AcceptsFor k c.args.self.now.sequencer c.scan.new.self) (sym c.in-Some.is) it

pub returns-clause-raised : goal.returns-clause-raised
returns-clause-raised c =
    let loads = c.raise_unfinished.new.keeper.raised in
    let it = subst (λ (s : SharedSeen). loads ≡ length s.sequencer.view.loads) c.self.view_is (ap (λ k. k.raised) c.raise_unfinished.ensures) in
    subst (λ k. RaisedFor k c.args.self.now.sequencer loads) (sym c.in-Some.is) it
