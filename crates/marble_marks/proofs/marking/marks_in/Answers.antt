use Rattle.std.proofs.Common.{◌∙◌, ◌++◌, ap, ap₂}
use Rattle.std.specs.Prelude.{map}
use Rattle.marble_marks.specs.AnsweredLines.{asked_in}
use Rattle.marble_marks.specs.Homes.{home_of}
use Rattle.marble_marks.specs.Preludes.{left_of, left_put, greeted_in}
use Rattle.marble_marks.specs.Marks.{mark_in, marks_from, marks_on}
use Rattle.marble_marks.proofs.Telling.{marks_more}
use Rattle.marble_marks.proofs.marking.marks_in.Goals as goal

pub loop-answered-init : goal.loop-answered-init
unfolding marks_on
loop-answered-init c =
    let names = map (λ name. name.now) c.args.rows.now.names.now in
    let asked = map asked_in c.args.answered_lines.now in
    ap (λ marks. map mark_in marks ++ marks_from names (home_of c.new-homes.result) (left_of c.new-preludes.result) asked) c.new-marks.ensures.items
    ∙ ap₂ (λ home left. marks_from names home left asked) (λ k ticket. c.new-homes.ensures ticket k) (λ k name. c.new-preludes.ensures name k)

pub loop-answered-preserved : goal.loop-answered-preserved
loop-answered-preserved c =
    let names = map (λ name. name.now) c.args.rows.now.names.now in
    let answered = c.answered-item.result in
    marks_more names _ _ _ _ c.args.answered_lines.now c.loop-answered.answered-index answered _ _ _ c.loop-answered-test.true c.answered-item.is
    (λ ticket. c.in_ok-note.ensures ticket)
    (λ name. c.in_ok-greet.ensures name ∙ ap (λ left. left_put left name (greeted_in (asked_in answered))) (c.in_ok-add_marks.ensures.left name))
    c.in_ok-add_marks.ensures.added c.loop-answered.invariant
