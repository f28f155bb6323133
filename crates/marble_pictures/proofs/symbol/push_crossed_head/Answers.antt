use Rattle.std.proofs.Common.{string_bytes}
use Rattle.marble_pictures.specs.Symbols.{cross_text, bad_head}
use Rattle.marble_pictures.proofs.Appending.{after}
use Rattle.marble_pictures.proofs.symbol.push_crossed_head.Goals as goal

pub returns : goal.returns
returns c =
    after c.push_bad_head.result (string_bytes c.args.picture.now) (string_bytes c.push_cross.new.picture) (string_bytes c.push_bad_head.new.picture) (cross_text c.args.at c.args.half) (bad_head c.args.reason c.args.line.now c.args.said.now c.args.at)
    c.in_ok-push_cross.ensures c.push_bad_head.ensures
