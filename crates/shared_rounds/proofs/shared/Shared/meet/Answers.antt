use Rattle.std.proofs.Common.{rules, arith, ◌≡◌, ◌≤◌, length, ap, sym}
use Rattle.shared_lane.specs.declared.view.Shape.{Shape}
use Rattle.shared_lane.specs.Readers.{at}
use Rattle.shared_lane.specs.Sequencers.{next}
use Rattle.shared_rounds.proofs.shared.Shared.meet.Goals as goal

-- the reader has the sequencer's shape, and has seen what that has
pub returns-clause-met : goal.returns-clause-met
returns-clause-met c =
    let r = c.meet.new.reader in
    let q = c.meet.new.sequencer in
    let shape : r.shape ≡ q.view.shape = search rules in
    let first = sym (ap (λ (l : Shape). l.first) shape) in
    let seen = ap length c.meet.ensures.seen in
    let within : at r ≤ next q = c.meet.ensures.within in
    record {
      same = c.meet.ensures.reader.1;
      same_shape = shape;
      went = c.meet.ensures.reader.2;
      has_seen_all = c.meet.ensures.seen;
      knows_lost = c.meet.ensures.lost;
      accepted = c.meet.ensures.accepted;
      has_seen_so_far = omega (arith, first, seen, within);
      received = c.meet.ensures.counts.0;
      dropped = c.meet.ensures.counts.1;
    }
