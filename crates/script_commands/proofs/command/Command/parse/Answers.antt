-- The command is among the keywords of as many letters.
use Rattle.std.proofs.Common.{sym, ◌∙◌}
use Rattle.script_commands.proofs.Keywords.{among, no_keyword}
use Rattle.script_commands.proofs.command.Command.parse.Goals as goal

pub returns-then-letters-eq3 : goal.returns-then-letters-eq3
returns-then-letters-eq3 c = c.of_three.ensures ∙ sym (among 3 c.args.first.now _ c.if-letters-eq3.true)

pub returns-then-letters-eq4 : goal.returns-then-letters-eq4
returns-then-letters-eq4 c = c.of_four.ensures ∙ sym (among 4 c.args.first.now _ c.if-letters-eq4.true)

pub returns-then-letters-eq5 : goal.returns-then-letters-eq5
returns-then-letters-eq5 c = c.of_five.ensures ∙ sym (among 5 c.args.first.now _ c.if-letters-eq5.true)

pub returns-then-letters-eq6 : goal.returns-then-letters-eq6
returns-then-letters-eq6 c = c.of_six.ensures ∙ sym (among 6 c.args.first.now _ c.if-letters-eq6.true)

pub returns-then-letters-eq7 : goal.returns-then-letters-eq7
returns-then-letters-eq7 c = c.of_seven.ensures ∙ sym (among 7 c.args.first.now _ c.if-letters-eq7.true)

pub returns-then-letters-eq8 : goal.returns-then-letters-eq8
returns-then-letters-eq8 c = c.of_eight.ensures ∙ sym (among 8 c.args.first.now _ c.if-letters-eq8.true)

pub returns-else-letters-eq8 : goal.returns-else-letters-eq8
returns-else-letters-eq8 c =
    no_keyword c.args.first.now _ c.if-letters-eq3.false c.if-letters-eq4.false c.if-letters-eq5.false c.if-letters-eq6.false c.if-letters-eq7.false c.if-letters-eq8.false
