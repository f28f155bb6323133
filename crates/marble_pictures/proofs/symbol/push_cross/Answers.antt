use Rattle.std.proofs.Common.{string_bytes}
use Rattle.marble_pictures.specs.Symbols.{falling_text, rising_text}
use Rattle.marble_pictures.proofs.Appending.{after}
use Rattle.marble_pictures.proofs.symbol.push_cross.Goals as goal

pub returns : goal.returns
returns c =
    after c.push_rising.result (string_bytes c.args.picture.now) (string_bytes c.push_falling.new.picture) (string_bytes c.push_rising.new.picture) (falling_text c.args.at c.args.half) (rising_text c.args.at c.args.half)
    c.in_ok-push_falling.ensures c.push_rising.ensures
