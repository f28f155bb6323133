use Rattle.std.proofs.Common.{rules, ◌∙◌, sym, add-one, refl}
use Rattle.script_words.specs.Lines.{is_newline}
use Rattle.script_words.proofs.Splitting.{found, not_found, newline_splits, no_newline, nonempty}
use Rattle.script_words.proofs.lines.Lines.next.Goals as goal

pub returns-in-Some-clause-some : goal.returns-in-Some-clause-some
returns-in-Some-clause-some c =
    let f = found is_newline c.args.self.now.rest.now c.in-Some.end (sym c.in-Some.ensures) in
    let s = newline_splits c.args.self.now.rest.now c.in-Some.end f.0 f.1 in
    s ∙ rw (c.without_return.ensures, c.split_at.ensures.front, c.split_at-in-Some.ensures.back, add-one) refl

pub returns-in-None-clause-some : goal.returns-in-None-clause-some
returns-in-None-clause-some c = no_newline _ (not_found is_newline c.args.self.now.rest.now (sym c.in-None.ensures)) (nonempty _ c.if-is_empty.ensures)

-- A wrong body makes this false: so answered, it is refused at once.
pub returns-in-Some-clause-shorter : goal.returns-in-Some-clause-shorter
returns-in-Some-clause-shorter c = search rules
