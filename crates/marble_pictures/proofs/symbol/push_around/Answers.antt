use Rattle.std.proofs.Common.{◌++◌, string_bytes}
use Rattle.marble_pictures.specs.Symbols.{look_in, edge_text, strike_text, framed_text}
use Rattle.marble_pictures.proofs.Appending.{after, both}
use Rattle.marble_pictures.proofs.symbol.push_around.Goals as goal

pub returns : goal.returns
returns c =
    let edge = edge_text (look_in c.args.frame) c.args.half c.args.at in
    let strike = strike_text c.args.frame.strike c.args.at c.args.half in
    after c.push_framed.result (string_bytes c.args.picture.now) (string_bytes c.push_strike.new.picture) (string_bytes c.push_framed.new.picture) (edge ++ strike) (framed_text c.args.said.now c.args.at)
    (both (string_bytes c.args.picture.now) (string_bytes c.push_edge.new.picture) (string_bytes c.push_strike.new.picture) edge strike c.in_ok-push_edge.ensures c.in_ok-push_strike.ensures) c.push_framed.ensures
