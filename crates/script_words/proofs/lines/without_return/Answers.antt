use Rattle.std.proofs.Common.{◌-◌, ◌<◌, length, arith, sym, refl}
use Rattle.script_words.proofs.Splitting.{last_return, other_end, nonempty, none_there}
use Rattle.script_words.proofs.lines.without_return.Goals as goal
use Rattle.script_words.proofs.lines.without_return.Goals.{else-not-is_empty-via-then-not-is_empty+else-line-eq13, else-not-is_empty-via-else-not-is_empty}

pub returns-then-line-eq13 : goal.returns-then-line-eq13
returns-then-line-eq13 c =
    let some : 0 < length c.args.line.now = nonempty _ c.if-not-is_empty.ensures in
    sym (last_return c.args.line.now (length c.args.line.now - 1) (omega arith) c.if-line-eq13.true)

pub returns-else-not-is_empty : goal.returns-else-not-is_empty
returns-else-not-is_empty c =
    elim c.else-not-is_empty.branch [
      | else-not-is_empty-via-then-not-is_empty+else-line-eq13 w ↦ sym (other_end c.args.line.now (nonempty _ w.if-not-is_empty.ensures) w.if-line-eq13.false)
      | else-not-is_empty-via-else-not-is_empty w ↦ let h = none_there c.args.line.now w.if-not-is_empty.ensures in rw h refl
    ]
