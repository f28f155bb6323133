use Rattle.std.proofs.Common.{rules, tests}
use Rattle.std.proofs.lemmas.Iterator.Consumers.{YieldsList-from_filter_map, YieldsList-at, count_from_yields_List}
use Rattle.std.proofs.lemmas.Iterator.Splits.{YieldsList-from_slice_split}
use Rattle.script_words.specs.Fields.{number_of}
use Rattle.script_words.specs.Plans.{is_comma}
use Rattle.script_words.proofs.numbers.count_in.Goals as goal

pub returns : goal.returns
returns c =
    count_from_yields_List _ _ c.count.ensures.ran
    (YieldsList-from_filter_map _ number_of
    (YieldsList-at c.filter_map.ensures.source
    (YieldsList-from_slice_split _ is_comma c.args.word.now c.split.ensures.rest c.split.ensures.done c.split.ensures.closure (λ x b q k. search (rules, tests))))
    c.filter_map.ensures.closure (λ x r q k. search (rules, tests)))
