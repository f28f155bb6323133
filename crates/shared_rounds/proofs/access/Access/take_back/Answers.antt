use Rattle.std.proofs.Common.{ap, pred, sym, ◌∙◌}
use Rattle.shared_rounds.specs.Reach.{Reach, reach_of}
use Rattle.shared_rounds.proofs.Reaching.{nothing_held}
use Rattle.shared_rounds.proofs.access.Access.take_back.Goals as goal

pub take_back-requires : goal.take_back-requires
take_back-requires c = record {
  place = ap (λ (r : Reach). r.lock) c.other.view_is ∙ c.requires.lock ∙ sym (ap (λ (r : Reach). r.lock) c.self.view_is);
  half = (
    c.requires.half.0,
    ap (λ (r : Reach). r.halved) c.other.view_is ∙ c.requires.half.1,
    ap (λ (r : Reach). r.halved) c.self.view_is ∙ c.requires.half.2,
  );
  idle = (
    ap (λ (r : Reach). r.rounds) c.other.view_is ∙ c.requires.idle.0,
    nothing_held (λ s. s) c.other.inside.lock.log.held (ap (λ (r : Reach). r.held) c.other.view_is ∙ c.requires.idle.1),
  );
}

pub returns : goal.returns
returns c = record {
  whole = ap (reach_of (λ s. s)) c.take_back.ensures.whole ∙ ap (λ (r : Reach). record r { halved = pred r.halved }) c.self.view_is;
}
