use Rattle.std.proofs.Common.{sym}
use Rattle.script_words.specs.Lines.{is_no_space}
use Rattle.script_words.proofs.Cutting.{leaves_space, leaves_nothing}
use Rattle.script_words.proofs.Splitting.{not_found, only_spaces, next_word, final_word}
use Rattle.script_words.proofs.words.Words.next.Goals as goal

pub returns-in_default-clause-none : goal.returns-in_default-clause-none
returns-in_default-clause-none c _ = only_spaces c.args.self.now.rest.now (not_found is_no_space c.args.self.now.rest.now (sym c.in_default.ensures))

pub returns-in-Some-space_at-clause-some : goal.returns-in-Some-space_at-clause-some
returns-in-Some-space_at-clause-some c =
    next_word c.args.self.now.rest.now c.split_at.result.1.now c.split_at-in-Some-space_at.result.0.now c.split_at-in-Some-space_at.result.1.now c.in-Some.start c.in-Some-space_at.end
    c.in-Some.ensures c.split_at.ensures.back c.in-Some-space_at.ensures c.split_at-in-Some-space_at.ensures.front c.split_at-in-Some-space_at.ensures.back

pub returns-in-None-clause-some : goal.returns-in-None-clause-some
returns-in-None-clause-some c = final_word c.args.self.now.rest.now c.split_at.result.1.now c.in-Some.start c.in-Some.ensures c.split_at.ensures.back c.in-None.ensures

pub returns-in-Some-space_at-clause-between : goal.returns-in-Some-space_at-clause-between
returns-in-Some-space_at-clause-between c =
    leaves_space c.args.self.now.rest.now c.split_at.result.1.now c.split_at-in-Some-space_at.result.1.now c.in-Some.start c.in-Some-space_at.end
    c.split_at.ensures.back c.in-Some-space_at.ensures c.split_at-in-Some-space_at.ensures.back

pub returns-in-None-clause-between : goal.returns-in-None-clause-between
returns-in-None-clause-between c = leaves_nothing c.args.self.now.rest.now
