use Rattle.std.proofs.Common.{ap, sym, ◌∙◌}
use Rattle.shared_rounds.specs.Reach.{Reach, party_of, reach_of, with_taken}
use Rattle.shared_rounds.proofs.Reaching.{nothing_held}
use Rattle.shared_rounds.proofs.access.Access.take_in.Goals as goal

pub take_in-requires : goal.take_in-requires
take_in-requires c = record {
  place = ap (λ (r : Reach). r.lock) c.other.view_is ∙ c.requires.lock ∙ sym (ap (λ (r : Reach). r.lock) c.self.view_is);
  free = nothing_held (λ s. s) c.other.inside.lock.log.held (ap (λ (r : Reach). r.held) c.other.view_is ∙ c.requires.free);
}

pub returns : goal.returns
returns c = record {
  taken =
      let other : Reach = reach_of (λ s. s) c.other.inside.lock in
      let self : Reach = c.args.self.now in
      ap (reach_of (λ s. s)) c.take_in.ensures.taken ∙ ap (λ (r : Reach). record r { taken = with_taken (party_of other) r.taken }) c.self.view_is
      ∙ ap (λ (o : Reach). record self { taken = with_taken (party_of o) self.taken }) c.other.view_is;
}
