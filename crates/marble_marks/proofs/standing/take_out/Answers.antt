use Rattle.std.proofs.Common.{◌==◌, ◌∙◌, not, rules}
use Rattle.std.proofs.lemmas.Fn.{filter_same}
use Rattle.marble_marks.proofs.Seats.{others_left}
use Rattle.marble_marks.proofs.standing.take_out.Goals as goal

pub returns : goal.returns
returns c = filter_same _ (λ it. not (it.row == c.args.row)) _ (λ x r f' k. search rules) _ _ c.retain.ensures.filtered ∙ others_left c.args.row c.args.seats.now.items
