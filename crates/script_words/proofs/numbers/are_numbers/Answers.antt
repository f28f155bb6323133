use Rattle.std.proofs.Common.{rules, tests}
use Rattle.std.proofs.lemmas.Iterator.Search.{all_from_yields_List}
use Rattle.std.proofs.lemmas.Iterator.Splits.{YieldsList-from_slice_split}
use Rattle.script_words.specs.Numbers.{is_number}
use Rattle.script_words.specs.Plans.{is_comma}
use Rattle.script_words.proofs.numbers.are_numbers.Goals as goal

pub returns : goal.returns
returns c =
    all_from_yields_List is_number _ _ _ c.all.ensures.ran
    (YieldsList-from_slice_split _ is_comma c.args.word.now c.split.ensures.rest c.split.ensures.done c.split.ensures.closure (λ x b q k. search (rules, tests)))
    (λ x b q k. search (rules, tests))
