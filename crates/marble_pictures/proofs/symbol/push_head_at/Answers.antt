use Rattle.std.proofs.Common.{codes, string_bytes}
use Rattle.marble_pictures.specs.Symbols.{titled_text}
use Rattle.marble_pictures.proofs.Appending.{after_text}
use Rattle.marble_pictures.proofs.symbol.push_head_at.Goals as goal

pub returns : goal.returns
returns c =
    after_text c.push_str.result (string_bytes c.args.picture.now) (string_bytes c.push_titled.new.picture) (string_bytes c.push_str.new.self) (titled_text c.args.line.now c.args.said.now c.args.at) (codes "</title></text>\n")
    c.in_ok-push_titled.ensures c.push_str.ensures.bytes
