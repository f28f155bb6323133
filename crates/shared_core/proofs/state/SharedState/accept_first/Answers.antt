use Rattle.std.proofs.Common.{◌≡◌, ◌∙◌, false, length, ap, sym, subst}
use Rattle.std.proofs.lemmas.List.{nil_from_length}
use Rattle.shared_core.specs.Shown.{Seen}
use Rattle.shared_core.specs.Accepting.{SettlesOnce, room_in}
use Rattle.shared_core.proofs.Ticketing.{shown_out, settles_none, settles_full}
use Rattle.shared_core.proofs.state.SharedState.accept_first.Goals as goal

pub returns-then-len-eq0 : goal.returns-then-len-eq0
returns-then-len-eq0 g c =
    let us = c.self.inside.accepted.values in
    let ws = c.self.inside.waiting.values in
    let none : length ws ≡ 0 = sym c.len.ensures.count ∙ c.if-len-eq0.true in
    settles_none c.args.self.now us (ap (λ (seen : Seen _). seen.out) (sym c.self.view_is) ∙ ap (shown_out us) (nil_from_length ws none))

pub returns-then-not-has_room : goal.returns-then-not-has_room
returns-then-not-has_room g c =
    subst (SettlesOnce c.args.self.now false) (sym c.has_room.ensures.same) (settles_full c.args.self.now (sym c.has_room.ensures.room ∙ c.if-not-has_room.true))

pub accept_oldest-requires : goal.accept_oldest-requires
accept_oldest-requires g c = ap room_in c.has_room.ensures.same ∙ sym c.has_room.ensures.room ∙ c.if-not-has_room.false

pub returns : goal.returns
returns g c = subst (λ old. SettlesOnce old c.accept_oldest.result c.accept_oldest.new.self) c.has_room.ensures.same c.accept_oldest.ensures
