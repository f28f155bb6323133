use Rattle.std.proofs.Common.{◌++◌, codes, decimal, string_bytes}
use Rattle.marble_pictures.specs.Symbols.{arrow_text}
use Rattle.marble_pictures.proofs.Appending.{number_before, text_last}
use Rattle.marble_pictures.proofs.symbol.push_arrow.Goals as goal

pub returns : goal.returns
unfolding arrow_text
returns c =
    let rest3 = codes "l-5-8h10z\"/>\n" in
    let rest2 = (codes " ") ++ ((decimal c.args.at.y) ++ rest3) in
    number_before c.push_str.result (string_bytes c.args.picture.now) (string_bytes c.push_numbered.new.text) (string_bytes c.push_str.new.self) (codes "<path d=\"M") (decimal c.args.at.x) rest2 c.in_ok-push_numbered.ensures
    (number_before c.push_str.result (string_bytes c.push_numbered.new.text) (string_bytes c.push_numbered-2.new.text) (string_bytes c.push_str.new.self) (codes " ") (decimal c.args.at.y) rest3 c.in_ok-push_numbered-2.ensures
    (text_last c.push_str.result (string_bytes c.push_numbered-2.new.text) (string_bytes c.push_str.new.self) rest3 c.push_str.ensures.bytes))
