use Rattle.std.proofs.Common.{length, sym, subst}
use Rattle.shared_core.specs.Kept.{AreNumbered, IsRingOf, AreTickets}
use Rattle.shared_core.specs.Ringed.{Ringed}
use Rattle.shared_core.proofs.state.SharedState.has_room.Goals as goal

pub invariant_of-self : goal.invariant_of-self
invariant_of-self g c =
    let kept = c.self.invariant in
    let here = c.self.inside in
    let same = sym c.has_room.ensures.same in
    record {
      numbers = subst (λ (r : Ringed _). AreNumbered here.config r.next_number here.subscribed here.given (length here.waiting.values)) same kept.numbers;
      ring = subst (IsRingOf here.config) same kept.ring;
      tickets = subst (λ (r : Ringed _). AreTickets here.config r.next_number here.accepted here.waiting) same kept.tickets;
      greetings = kept.greetings;
    }
