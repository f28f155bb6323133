use Rattle.std.proofs.Common.{◌≡◌, ℕ, ◌+◌, ◌<◌, List, [], ◌++◌, length, drop, get_or, arith, sym, ap, ◌∙◌, subst, refl}
use Rattle.std.proofs.lemmas.List.{append-nil, drop_more, drop_all}
use Rattle.more_operators.specs.Paced.{paced}
use Rattle.more_operators.specs.PacedLaws.{Left, left_after, gives_one, gives_none}
use Rattle.more_operators.proofs.operators.paced.list_at.Goals as goal
use Rattle.more_operators.proofs.operators.paced.list_at.Goals.{in-Ready+else-is_err, in-Pending}

pub loop-moment-init : goal.loop-moment-init
loop-moment-init g c whole fixed on = (whole, fixed, on, rw c.new-given.ensures.items refl)

pub loop-moment-preserved : goal.loop-moment-preserved
loop-moment-preserved g c whole fixed on =
    let moments = c.args.moments.now in
    let i = c.loop-moment.moment-index in
    let now = c.loop-moment.run in
    let within : i < length moments = omega arith in
    let left = subst (λ (ms : List ℕ). Left (g.S.Run.may now.source) (g.S.Run.ended now.source) (g.S.Run.prompt now.source) (g.P.Pace.due now.pace) (g.P.Pace.gives_last now.pace) now.held ms
    c.loop-moment.given.items (paced (g.P.Pace.due c.args.run.pace) (g.P.Pace.gives_last c.args.run.pace) c.args.run.held whole moments)) (drop_more moments i 0 within)
    (c.loop-moment.invariant whole fixed on) in
    let before = c.loop-moment.given.items in
    let after = c.match-poll_next.given.items in
    rw c.poll_next.ensures.same
    (left_after g.S.Run.may g.S.Run.ended g.S.Run.prompt g.S.Run.polled g.met.S.Run.begins _ _ (g.P.Pace.due now.pace) (g.P.Pace.gives_last now.pace) _ _ _ _ c.poll_next.ensures.paces
    (drop (i + 1) moments) before after _
    (λ rest. elim c.match-poll_next.branch [
      | in-Ready+else-is_err w ↦ gives_one before after (get_or moments i 0) w.in-Ready.event c.poll_next.result w.in-Ready.is
          (rw (w.given-is, w.push.ensures.items, w.is_err.ensures.negation, w.if-is_err.false) refl) rest
      | in-Pending w ↦ gives_none before after (get_or moments i 0) c.poll_next.result w.in-Pending.is (rw w.given-is refl) rest
    ]) left)

pub returns-clause-exact : goal.returns-clause-exact
returns-clause-exact g c whole fixed on =
    let moments = c.args.moments.now in
    let i = c.loop-moment.moment-index in
    let now = c.loop-moment.run in
    let h = c.loop-moment.invariant whole fixed on in
    let done : drop i moments ≡ [] = drop_all i moments (omega arith) in
    sym (h.3 ∙ ap (λ (ms : List ℕ). c.loop-moment.given.items ++ paced (g.P.Pace.due now.pace) (g.P.Pace.gives_last now.pace) now.held h.0 ms) done
    ∙ append-nil c.loop-moment.given.items)
