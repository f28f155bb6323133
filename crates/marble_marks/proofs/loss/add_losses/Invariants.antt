use Rattle.std.proofs.Common.{◌≡◌, ◌++◌, map, drop}
use Rattle.std.specs.List.{filter_map}
use Rattle.marble_marks.specs.Deeds.{done_in}
use Rattle.marble_marks.specs.Losses.{loss_mark}
use Rattle.marble_marks.specs.Marks.{mark_in}
use Rattle.marble_marks.proofs.loss.add_losses.Given as goal

abbrev pub invariant-loop-loss : goal.invariant-loop-loss
invariant-loop-loss l =
    let mark_of = loss_mark (map (λ known. known.now) l.guests.names.now) (map done_in l.guests.acts.now) in
    map mark_in l.marks.items ++ filter_map mark_of (drop l.loss-index l.losses) ≡ map mark_in l.fn.marks.items ++ filter_map mark_of l.losses
