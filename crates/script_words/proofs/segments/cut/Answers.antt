use Rattle.std.proofs.Common.{sym, ap, ◌∙◌, ◌-◌, length, take, refl}
use Rattle.script_words.proofs.Cutting.{scan_more, cut_there, cut_nowhere}
use Rattle.script_words.proofs.segments.cut.Goals as goal

pub returns-then-is_bar : goal.returns-then-is_bar
returns-then-is_bar c =
    let whole = c.args.words.rest.now in
    let shorter = ap (λ xs. take (length whole - length xs) whole) c.loop-word.invariant.same in
    cut_there whole c.loop-word.rest.rest.now c.new.result.rest.now c.next.new.self.rest.now c.in-Some.word.now c.loop-word.invariant.scanned c.in-Some.ensures.some (sym c.if-is_bar.ensures)
    (c.new.ensures ∙ c.split_at.ensures.front ∙ shorter)

pub loop-word-preserved : goal.loop-word-preserved
loop-word-preserved c = record {
  same = refl;
  scanned = scan_more c.args.words.rest.now c.loop-word.rest.rest.now c.next.new.self.rest.now c.in-Some.word.now c.loop-word.invariant.scanned (c.in-Some.ensures.between) c.in-Some.ensures.some (sym c.if-is_bar.ensures);
}

pub returns : goal.returns
returns c = cut_nowhere c.args.words.rest.now c.loop-word.rest.rest.now c.loop-word.invariant.scanned (c.in_default.ensures.none refl)
