use Rattle.std.proofs.Common.{◌≡◌, ◌∙◌, ◌<◌, length, get_or, unwrap_or, arith, refl, ap}
use Rattle.std.proofs.lemmas.List.{length-set, take_more, take_more_set}
use Rattle.std.proofs.lemmas.Option.{unwrap_or-slice_get}
use Rattle.flow_terms.specs.declared.command.Command.TheVariants.{Stop}
use Rattle.flow_terms.specs.declared.plan.Entry.{Entry}
use Rattle.script_words.specs.Plans.{entries_in}
use Rattle.script_words.proofs.start.Entries.plan.Goals as goal

abbrev no_entry : Entry
no_entry = record { at = 0; low = 0; high = 0; command = Stop }

pub loop-index-preserved : goal.loop-index-preserved
loop-index-preserved c =
    let entries = entries_in c.args.self.word.now in
    let index = c.loop-index.index in
    let before = c.loop-index.invariant in
    let within : index < length entries = rw (← c.count_in-count.ensures) c.loop-index-test.true in
    let room : index < length c.loop-index.entries = rw before.places (grind arith) in
    let found : c.unwrap_or.result ≡ get_or entries index no_entry =
    c.unwrap_or.ensures ∙ ap (λ entry. unwrap_or entry no_entry) c.entry_at.ensures ∙ unwrap_or-slice_get entries index no_entry in
    record {
      places = length-set c.loop-index.entries index c.unwrap_or.result ∙ before.places;
      read = rw (take_more_set c.loop-index.entries index c.unwrap_or.result room, take_more entries index no_entry within, before.read, found) refl;
    }
