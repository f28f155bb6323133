use Rattle.std.proofs.Common.{◌+◌, ◌<◌, sym, ap, subst}
use Rattle.std.proofs.lemmas.Option.{slice_get_within}
use Rattle.shared_core.specs.declared.tickets.OutTicket.{OutTicket}
use Rattle.shared_core.specs.Shown.{Seen}
use Rattle.shared_core.proofs.Ticketing.{holds_there, held_accepted}
use Rattle.shared_core.proofs.Rising.{missing_accepted}
use Rattle.shared_core.proofs.Asking.{done_where, done_nowhere}
use Rattle.shared_core.proofs.state.SharedState.is_done.Goals as goal

pub returns-in-None : goal.returns-in-None
returns-in-None g c M shows =
    let now = c.args.self.now in
    let us = c.self.inside.accepted.values in
    let ws = c.self.inside.waiting.values in
    let out = ap (λ (seen : Seen _). seen.out) (sym c.self.view_is) in
    done_nowhere now c.args.ticket.0 us ws out (missing_accepted now M shows c.args.ticket.0 us ws out c.in-None.ensures.none) M shows

pub returns-in-Some : goal.returns-in-Some
returns-in-Some g c =
    let now = c.args.self.now in
    let us = c.self.inside.accepted.values in
    let ws = c.self.inside.waiting.values in
    let held = c.get.result in
    let accepted = holds_there (λ (h : OutTicket _). c.self.inside.config.first + h.emission.index < c.self.inside.ring.next_number) us c.in-Some.at held c.self.invariant.tickets.indexes c.get.ensures in
    done_where now c.args.ticket.0 c.in-Some.at held.emission.index
    (held_accepted now us ws (ap (λ (seen : Seen _). seen.out) (sym c.self.view_is)) c.in-Some.at c.args.ticket.0 held c.get.ensures c.in-Some.ensures.found)
    (subst (λ (seen : Seen _). seen.parameters.first + held.emission.index < seen.next_number) c.self.view_is accepted)
    c.is_finished.result (sym c.is_finished.ensures)

pub get-requires : goal.get-requires
get-requires g c = let found = c.in-Some.ensures.found in slice_get_within c.self.inside.accepted.values c.in-Some.at found.0 found.1

pub is_finished-requires : goal.is_finished-requires
is_finished-requires g c =
    let flow = c.self.inside in
    let held = c.get.result in
    subst (λ (seen : Seen _). seen.parameters.first + held.emission.index < seen.next_number) c.self.view_is
    (holds_there (λ (h : OutTicket _). flow.config.first + h.emission.index < flow.ring.next_number) flow.accepted.values c.in-Some.at held c.self.invariant.tickets.indexes c.get.ensures)
