use Rattle.std.proofs.Common.{◌≡◌, sym, ap, subst, ◌∙◌}
use Rattle.round_lock.specs.History.{called, turn_of}
use Rattle.shared_rounds.specs.Entering.{left_with}
use Rattle.std.specs.Arc.{arc_value}
use Rattle.shared_rounds.specs.Names.{SharedSeen, KnowsTrack}
use Rattle.shared_core.specs.declared.config.Config.{Config}
use Rattle.shared_rounds.specs.Sleeping.{HasRoomFor}
use Rattle.shared_rounds.specs.Waking.{AreOutWhereHeld, HoldsItsFlow}
use Rattle.shared_rounds.specs.Reach.{Reach}
use Rattle.shared_rounds.specs.Rounds.{Does}
use Rattle.shared_rounds.proofs.Staying.{asleep_out}
use Rattle.shared_rounds.proofs.Boxes.{gave_back}
use Rattle.shared_rounds.proofs.Doing.{as_picked, does_on, helped_by}
use Rattle.shared_rounds.proofs.Roomy.{as_roomy, config_is, knows_config}
use Rattle.shared_rounds.proofs.Reaching.{seen_is}
use Rattle.shared_rounds.proofs.access.Access.leave_as.Goals as goal

pub returns : goal.returns
returns g c =
    let asked = c.requires.round in
    let call = asked.4 in
    let came : SharedSeen = c.args.inside.shared.value in
    let helped : SharedSeen = c.helped-guarded.result.state in
    let helps = helped_by c.args.inside.before call.0 came helped asked.0 c.args.ended call.4 asked.2 c.helped-guarded.ensures.helps in
    let given = subst (λ e. c.put_as.new.self ≡ record c.self.inside.lock { log = called c.self.inside.lock.log (turn_of c.self.inside.lock.pass e c.helped-guarded.result.state) }) asked.1 c.put_as.ensures.given in
    record {
      left = as_picked _ asked.0 came _ _ asked.1 (record {
        found = call.0;
        left = helped;
        held = call.1;
        does = does_on call.0 came helped asked.0 call.2 call.3 helps;
        only = helps.only;
        after = gave_back (λ s. s) c.self.inside.lock c.put_as.new.self asked.0 _ given ∙ ap (left_with asked.0 helped) c.self.view_is;
      });
    }

pub put_as-requires : goal.put_as-requires
put_as-requires g c =
    let asked = c.requires.round in
    let call = asked.4 in
    let came : SharedSeen = c.args.inside.shared.value in
    let helped : SharedSeen = c.helped-guarded.result.state in
    let helps = helped_by c.args.inside.before call.0 came helped asked.0 c.args.ended call.4 asked.2 c.helped-guarded.ensures.helps in
    let holds = seen_is (λ s. s) c.self.inside.lock.log.held call.0 (ap (λ (r : Reach). r.held) c.self.view_is ∙ call.1) in
    record {
      call = (
        holds.0,
        asked.0,
        asked.1,
        holds.1,
        subst (λ (s : SharedSeen). Does s asked.0 helped) (sym holds.2)
            (does_on call.0 came helped asked.0 call.2 call.3 helps),
      );
    }

pub helped-guarded-requires-clause-out : goal.helped-guarded-requires-clause-out
helped-guarded-requires-clause-out g c =
    let asked = c.requires.round in
    let call = asked.4 in
    let came : SharedSeen = c.args.inside.shared.value in
    let out = subst AreOutWhereHeld (ap (λ (r : Reach). r.held) c.self.view_is ∙ call.1) c.self.invariant.3 in
    asleep_out call.0 came asked.0 c.args.taken asked.3 out call.2 call.3

pub invariant_of-self : goal.invariant_of-self
invariant_of-self g c =
    let asked = c.requires.round in
    let given = subst (λ e. c.put_as.new.self ≡ record c.self.inside.lock { log = called c.self.inside.lock.log (turn_of c.self.inside.lock.pass e c.helped-guarded.result.state) }) asked.1 c.put_as.ensures.given in
    let config = config_is (arc_value c.self.inside.track).config _ _ _ c.args.inside.shared.value asked.0 (knows_config _ _ c.self.invariant.0) c.self.invariant.5 (ap (λ (r : Reach). r.held) c.self.view_is ∙ asked.4.1) asked.4.2 in
    let back = gave_back (λ s. s) c.self.inside.lock c.put_as.new.self asked.0 _ given in (
      subst (λ (r : Reach). KnowsTrack r.flow (arc_value c.self.inside.track)) (sym back) c.self.invariant.0,
      c.fire_unless.ensures.none.0,
      c.fire_unless.ensures.none.1,
      subst (λ (r : Reach). AreOutWhereHeld r.held) (sym back) tt,
      as_roomy (arc_value c.self.inside.track).config c.helped-guarded.new.wakes c.fire_unless.new.self c.fire_unless.ensures.room (subst (λ (z : Config). HasRoomFor z c.helped-guarded.new.wakes) (sym config) c.helped-guarded.ensures.room),
      subst (λ (r : Reach). HoldsItsFlow r.flow r.held) (sym back) tt,
    )

pub helped-guarded-requires-clause-room : goal.helped-guarded-requires-clause-room
helped-guarded-requires-clause-room g c =
    let asked = c.requires.round in
    let config = config_is (arc_value c.self.inside.track).config _ _ _ c.args.inside.shared.value asked.0 (knows_config _ _ c.self.invariant.0) c.self.invariant.5 (ap (λ (r : Reach). r.held) c.self.view_is ∙ asked.4.1) asked.4.2 in
    subst (λ (z : Config). HasRoomFor z c.self.inside.wakes) config c.self.invariant.4
