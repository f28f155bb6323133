use Rattle.std.proofs.Common.{◌≡◌, ap, ◌∙◌, subst}
use Rattle.atomic_table.specs.Seated.{TableId}
use Rattle.shared_lane.specs.declared.view.View.{View}
use Rattle.shared_lane.specs.Readers.{TookNext}
use Rattle.shared_lane.specs.Views.{ReaderSeen}
use Rattle.shared_lane.proofs.Readings.{took_untold}
use Rattle.shared_lane.proofs.reader.look.Goals as goal

-- the reader whose seat has this view
abbrev at_table : TableId → View → ReaderSeen
at_table table v = record { table = table; shape = v.shape; place = v.reading.place; opening = v.reading.opening; start = v.reading.start; story = v.reading.story; seen = v.seen; told = v.told; loads = v.loads }

pub returns-clause-taken : goal.returns-clause-taken
returns-clause-taken g c = let accepted = c.copy_all-accepted.result.me.0.seen in took_untold c.args.reader.now accepted c.try_next.result c.try_next.new.self
    (subst (λ (r : ReaderSeen). TookNext r c.try_next.result c.try_next.new.self)
    ((λ i. at_table (c.hear.ensures.seat.0.0 i) (c.hear.ensures.seat.1 i)) ∙ ap (λ (r : ReaderSeen). record r { told = accepted }) c.reader.view_is) c.try_next.ensures.has)
