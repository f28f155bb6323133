use Rattle.std.proofs.Common.{string_bytes}
use Rattle.marble_pictures.specs.Symbols.{left_wall, right_wall}
use Rattle.marble_pictures.proofs.Appending.{after}
use Rattle.marble_pictures.proofs.symbol.push_walls.Goals as goal

pub returns : goal.returns
returns c =
    after c.push_right_wall.result (string_bytes c.args.picture.now) (string_bytes c.push_left_wall.new.picture) (string_bytes c.push_right_wall.new.picture) (left_wall c.args.at c.args.half) (right_wall c.args.at c.args.half)
    c.in_ok-push_left_wall.ensures c.push_right_wall.ensures
