use Rattle.std.proofs.Common.{◌≡◌, ◌∙◌, ◌<◌, ◌≤◌, length, get_or, unwrap_or, arith, refl, ap, rules}
use Rattle.std.proofs.lemmas.List.{length-set, take_more, take_more_set}
use Rattle.std.proofs.lemmas.Option.{unwrap_or-slice_get}
use Rattle.script_words.specs.Numbers.{written}
use Rattle.script_run.proofs.subscriptions.numbers_in.Goals as goal

pub loop-index-preserved : goal.loop-index-preserved
loop-index-preserved c =
    let numbers = written c.args.numbers in
    let index = c.loop-index.index in
    let before = c.loop-index.invariant in
    let few : length numbers ≤ 16 = c.requires in
    let within : index < length numbers = rw (← c.count-index-end.ensures) c.loop-index-test.true in
    let room : index < length c.loop-index.values = rw before.places (grind arith) in
    let found : c.unwrap_or.result ≡ get_or numbers index 0 =
    c.unwrap_or.ensures ∙ ap (λ number. unwrap_or number 0) c.at.ensures ∙ unwrap_or-slice_get numbers index 0 in
    record {
      places = length-set c.loop-index.values index c.unwrap_or.result ∙ before.places;
      read = rw (take_more_set c.loop-index.values index c.unwrap_or.result room, take_more numbers index 0 within, before.read, found) refl;
    }
