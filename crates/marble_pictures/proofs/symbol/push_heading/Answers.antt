use Rattle.std.proofs.Common.{◌++◌, codes, decimal, string_bytes}
use Rattle.marble_pictures.specs.Symbols.{heading_text}
use Rattle.marble_pictures.proofs.Appending.{text_before, number_before, text_last}
use Rattle.marble_pictures.proofs.symbol.push_heading.Goals as goal

pub returns : goal.returns
unfolding heading_text
returns c =
    let rest5 = codes "<title>" in
    let rest4 = (c.args.said.now) ++ rest5 in
    let rest3 = (codes "\">") ++ rest4 in
    let rest2 = (codes "\" y=\"") ++ ((decimal c.args.at.y) ++ rest3) in
    number_before c.push_str-3.result (string_bytes c.args.picture.now) (string_bytes c.push_numbered.new.text) (string_bytes c.push_str-3.new.self) (codes "<text class=\"head\" x=\"") (decimal c.args.at.x) rest2 c.in_ok-push_numbered.ensures
    (number_before c.push_str-3.result (string_bytes c.push_numbered.new.text) (string_bytes c.push_numbered-2.new.text) (string_bytes c.push_str-3.new.self) (codes "\" y=\"") (decimal c.args.at.y) rest3 c.in_ok-push_numbered-2.ensures
    (text_before c.push_str-3.result (string_bytes c.push_numbered-2.new.text) (string_bytes c.push_str.new.self) (string_bytes c.push_str-3.new.self) (codes "\">") rest4 c.in_ok-push_str.ensures.bytes
    (text_before c.push_str-3.result (string_bytes c.push_str.new.self) (string_bytes c.push_str-2.new.self) (string_bytes c.push_str-3.new.self) (c.args.said.now) rest5 c.in_ok-push_str-2.ensures.bytes
    (text_last c.push_str-3.result (string_bytes c.push_str-2.new.self) (string_bytes c.push_str-3.new.self) rest5 c.push_str-3.ensures.bytes))))
