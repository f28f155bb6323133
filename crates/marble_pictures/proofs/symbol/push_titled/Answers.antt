use Rattle.std.proofs.Common.{string_bytes}
use Rattle.marble_pictures.specs.Symbols.{heading_text, escaped}
use Rattle.marble_pictures.proofs.Appending.{after}
use Rattle.marble_pictures.proofs.symbol.push_titled.Goals as goal

pub returns : goal.returns
returns c =
    after c.push_escaped.result (string_bytes c.args.picture.now) (string_bytes c.push_heading.new.picture) (string_bytes c.push_escaped.new.picture) (heading_text c.args.said.now c.args.at) (escaped c.args.line.now)
    c.in_ok-push_heading.ensures c.push_escaped.ensures
