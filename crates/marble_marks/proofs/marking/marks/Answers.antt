use Rattle.std.proofs.Common.{◌∙◌, ap, map}
use Rattle.marble_marks.specs.AnsweredLines.{asked_in, asked_of, saying_in}
use Rattle.marble_marks.specs.declared.rows.Rows.{Rows}
use Rattle.marble_marks.specs.Deeds.{done_in, done_by}
use Rattle.marble_marks.specs.Marks.{names_in}
use Rattle.marble_marks.specs.Receivings.{receipts_in}
use Rattle.marble_marks.proofs.Receiving.{all_counted}
use Rattle.marble_marks.proofs.Telling.{all_shown}
use Rattle.marble_marks.proofs.marking.marks.Goals as goal

pub returns-clause-marks : goal.returns-clause-marks
returns-clause-marks c =
    let answered_lines = c.in_ok-answered_lines.ensures in
    let names = ap (map (λ known. known.now)) (c.in_ok-rows.ensures ∙ c.deref-4.ensures.value)
    ∙ c.in_ok-names.ensures ∙ ap names_in (ap (map asked_in) c.deref.ensures.value ∙ answered_lines) in
    let acts = c.in_ok-acts.ensures ∙ ap (map done_by) (ap (map asked_in) c.deref-2.ensures.value ∙ answered_lines) in (
      c.deref-8.result.now,
      all_shown _ _ _ _ _ _ _ c.deref-8.result.now _ _ _
          (ap (map asked_in) c.deref-7.ensures.value ∙ answered_lines)
          names
          (ap (λ (rows : Rows). map (λ known. known.now) rows.names.now) c.in_ok-told.ensures.1 ∙ names)
          (ap (map (λ known. known.now)) c.in_ok-guests.ensures.1 ∙ names)
          (ap (map done_in) (c.in_ok-told.ensures.0 ∙ c.deref-5.ensures.value) ∙ acts)
          (ap (map done_in) (c.in_ok-guests.ensures.0 ∙ c.deref-6.ensures.value) ∙ acts)
          c.in_ok-marks.ensures c.in_ok-add_numbers.ensures c.in_ok-add_losses.ensures,
    )

pub returns-clause-received : goal.returns-clause-received
returns-clause-received c =
    let answered_lines = c.in_ok-answered_lines.ensures in
    let names = ap (map (λ known. known.now)) (c.in_ok-rows.ensures ∙ c.deref-4.ensures.value)
    ∙ c.in_ok-names.ensures ∙ ap names_in (ap (map asked_in) c.deref.ensures.value ∙ answered_lines) in
    let acts = c.in_ok-acts.ensures ∙ ap (map done_by) (ap (map asked_in) c.deref-2.ensures.value ∙ answered_lines) in
    ap receipts_in (all_shown _ _ _ _ _ _ _ c.deref-8.result.now _ _ _
    (ap (map asked_in) c.deref-7.ensures.value ∙ answered_lines)
    names
    (ap (λ (rows : Rows). map (λ known. known.now) rows.names.now) c.in_ok-told.ensures.1 ∙ names)
    (ap (map (λ known. known.now)) c.in_ok-guests.ensures.1 ∙ names)
    (ap (map done_in) (c.in_ok-told.ensures.0 ∙ c.deref-5.ensures.value) ∙ acts)
    (ap (map done_in) (c.in_ok-guests.ensures.0 ∙ c.deref-6.ensures.value) ∙ acts)
    c.in_ok-marks.ensures c.in_ok-add_numbers.ensures c.in_ok-add_losses.ensures)
    ∙ all_counted (asked_of c.args.script.now (map saying_in c.args.answers.now)) c.deref-8.result.now
