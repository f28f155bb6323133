use Rattle.std.proofs.Common.{length, refl, ap, sym, subst, ◌∙◌, slice_get}
use Rattle.std.proofs.lemmas.Option.{slice_get_within}
use Rattle.std.specs.List.{remove}
use Rattle.shared_core.specs.Kept.{AreNumbered, IsRingOf, AreTickets}
use Rattle.shared_core.specs.Preludes.{EndsGreeting}
use Rattle.shared_core.specs.Ringed.{Ringed}
use Rattle.shared_core.specs.Shown.{Seen}
use Rattle.shared_core.proofs.Bodies.{cancel_follows-closed, cancel_follows}
use Rattle.shared_core.proofs.Rings.{live_step}
use Rattle.shared_core.proofs.Rising.{missing_live}
use Rattle.shared_core.proofs.state.SharedState.cancel.Goals as goal

pub returns-in_default : goal.returns-in_default
returns-in_default g c M shows =
    let now = c.args.self.now in
    let live = ap (λ (seen : Seen _). seen.live) (sym c.self.view_is) in
    cancel_follows-closed now c.args.id.0 (missing_live now M shows c.args.id.0 c.self.inside.ring.live live c.in_default.ensures.none) M shows

pub close-requires : goal.close-requires
close-requires g c = let found = c.in-Some.ensures.found in slice_get_within c.self.inside.ring.live c.in-Some.at found.0 found.1

pub invariant_of-self : goal.invariant_of-self
invariant_of-self g c =
    let kept = c.self.invariant in
    let here = c.self.inside in
    let closed = sym c.close.ensures in
    record {
      numbers = subst (λ (r : Ringed _). AreNumbered here.config r.next_number here.subscribed here.given (length here.waiting.values)) closed kept.numbers;
      ring = subst (IsRingOf here.config) closed (record { capacity = kept.ring.capacity; replay = kept.ring.replay; limit = kept.ring.limit; subscribers = kept.ring.subscribers });
      tickets = subst (λ (r : Ringed _). AreTickets here.config r.next_number here.accepted here.waiting) closed kept.tickets;
      greetings = c.end.ensures.limit ∙ kept.greetings;
    }

pub returns : goal.returns
returns g c =
    let now = c.args.self.now in
    let at = c.in-Some.at in
    let found = c.in-Some.ensures.found in
    cancel_follows now at c.args.id.0 found.0 c.end.new.self.values _ c.settle.new.self (ap (λ (seen : Seen _). slice_get seen.live at) (sym c.self.view_is) ∙ found.1) found.2
    (subst (λ (seen : Seen _). EndsGreeting c.args.id.0 seen.rests c.end.new.self.values) c.self.view_is c.end.ensures.ended)
    (ap (λ (seen : Seen _). record seen { rests = c.end.new.self.values }) (live_step _ now c.self.inside.ring c.close.new.self c.self.view_is refl (λ xs. remove xs at) c.close.ensures)) c.settle.ensures
