use Rattle.std.proofs.Common.{rules, tests}
use Rattle.std.proofs.lemmas.Iterator.Search.{all_from_yields_List}
use Rattle.std.proofs.lemmas.Iterator.Splits.{YieldsList-from_slice_split}
use Rattle.script_commands.specs.Items.{is_comma, is_item}
use Rattle.script_commands.proofs.items.is_list.Goals as goal

pub returns : goal.returns
returns c =
    all_from_yields_List is_item _ _ _ c.all.ensures.ran
    (YieldsList-from_slice_split _ is_comma c.args.word.now c.split.ensures.rest c.split.ensures.done c.split.ensures.closure (λ x b q k. search (rules, tests)))
    (λ x b q k. search (rules, tests))
