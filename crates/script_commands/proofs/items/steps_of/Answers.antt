use Rattle.std.proofs.Common.{rules, tests}
use Rattle.std.proofs.lemmas.Iterator.{items_from_collect, YieldsList-from_map}
use Rattle.std.proofs.lemmas.Iterator.Consumers.{YieldsList-from_filter_map, YieldsList-at}
use Rattle.std.proofs.lemmas.Iterator.Splits.{YieldsList-from_slice_split}
use Rattle.script_commands.specs.Items.{is_comma, item_of, step_in}
use Rattle.script_commands.proofs.items.steps_of.Goals as goal

pub returns : goal.returns
returns c =
    items_from_collect _ c.collect.ensures.ran
    (YieldsList-from_map _ step_in
    (YieldsList-at c.map.ensures.source
    (YieldsList-from_filter_map _ item_of
    (YieldsList-at c.filter_map.ensures.source
    (YieldsList-from_slice_split _ is_comma c.args.word.now c.split.ensures.rest c.split.ensures.done c.split.ensures.closure (λ x b q k. search (rules, tests))))
    c.filter_map.ensures.closure (λ x r q k. search (rules, tests))))
    c.map.ensures.closure (λ x r q k. search (rules, tests)))
