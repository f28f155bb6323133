use Rattle.std.proofs.Common.{◌++◌, codes, string_bytes}
use Rattle.marble_pictures.specs.Symbols.{titled_text, why_text}
use Rattle.marble_pictures.proofs.Appending.{after_text, both}
use Rattle.marble_pictures.proofs.symbol.push_bad_head_at.Goals as goal

pub returns : goal.returns
returns c =
    let head = titled_text c.args.line.now c.args.said.now c.args.at in
    let why = why_text c.args.reason in
    after_text c.push_str.result (string_bytes c.args.picture.now) (string_bytes c.push_why.new.picture) (string_bytes c.push_str.new.self) (head ++ why) (codes "</title></text>\n")
    (both (string_bytes c.args.picture.now) (string_bytes c.push_titled.new.picture) (string_bytes c.push_why.new.picture) head why c.in_ok-push_titled.ensures c.in_ok-push_why.ensures) c.push_str.ensures.bytes
