use Rattle.std.proofs.Common.{◌≡◌, ◌<◌, length, drop, [], arith, sym, ap, ◌∙◌}
use Rattle.std.proofs.Math.ListN.{drop_of_length-le}
use Rattle.script_words.specs.Fields.{digits_from}
use Rattle.script_words.proofs.Digits.{overflows, number_is, is_number}
use Rattle.script_words.proofs.Splitting.{nonempty}
use Rattle.script_words.proofs.fields.number_of.Goals as goal

pub returns-in_err-number : goal.returns-in_err-number
returns-in_err-number c =
    let some : 0 < length c.args.word.now = nonempty _ c.if-is_empty.ensures in
    c.from_residual.ensures
    ∙ sym (number_is c.args.word.now some (omega arith)
    ∙ overflows c.loop-digit.number c.args.word.now c.loop-digit.digit-index (omega arith) (sym c.if-not-is_ascii_digit.ensures.value) (sym c.in_err-number.ensures) c.loop-digit.invariant.said)

pub returns : goal.returns
returns c =
    let some : 0 < length c.args.word.now = nonempty _ c.if-is_empty.ensures in
    let at_end : drop c.loop-digit.digit-index c.args.word.now ≡ [] = drop_of_length-le c.args.word.now (omega arith) in
    sym (is_number c.loop-digit.number c.args.word.now c.loop-digit.invariant.small some (omega arith) (sym c.loop-digit.invariant.said ∙ ap (digits_from c.loop-digit.number) at_end))
