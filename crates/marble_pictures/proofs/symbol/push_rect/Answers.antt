use Rattle.std.proofs.Common.{◌++◌, codes, decimal, string_bytes}
use Rattle.marble_pictures.specs.Symbols.{rect_text}
use Rattle.marble_pictures.proofs.Appending.{text_before, number_before, text_last}
use Rattle.marble_pictures.proofs.symbol.push_rect.Goals as goal

pub returns : goal.returns
unfolding rect_text
returns c =
    let rest7 = codes "\"/>\n" in
    let rest6 = (codes "\" height=\"22\" rx=\"") ++ ((decimal c.args.round) ++ rest7) in
    let rest5 = (codes "\" width=\"") ++ ((decimal c.args.width) ++ rest6) in
    let rest4 = (codes "\" y=\"") ++ ((decimal c.args.corner.y) ++ rest5) in
    let rest3 = (codes "\" x=\"") ++ ((decimal c.args.corner.x) ++ rest4) in
    let rest2 = (c.args.class.now) ++ rest3 in
    text_before c.push_str-3.result (string_bytes c.args.picture.now) (string_bytes c.push_str.new.self) (string_bytes c.push_str-3.new.self) (codes "<rect class=\"") rest2 c.in_ok-push_str.ensures.bytes
    (text_before c.push_str-3.result (string_bytes c.push_str.new.self) (string_bytes c.push_str-2.new.self) (string_bytes c.push_str-3.new.self) (c.args.class.now) rest3 c.in_ok-push_str-2.ensures.bytes
    (number_before c.push_str-3.result (string_bytes c.push_str-2.new.self) (string_bytes c.push_numbered.new.text) (string_bytes c.push_str-3.new.self) (codes "\" x=\"") (decimal c.args.corner.x) rest4 c.in_ok-push_numbered.ensures
    (number_before c.push_str-3.result (string_bytes c.push_numbered.new.text) (string_bytes c.push_numbered-2.new.text) (string_bytes c.push_str-3.new.self) (codes "\" y=\"") (decimal c.args.corner.y) rest5 c.in_ok-push_numbered-2.ensures
    (number_before c.push_str-3.result (string_bytes c.push_numbered-2.new.text) (string_bytes c.push_numbered-3.new.text) (string_bytes c.push_str-3.new.self) (codes "\" width=\"") (decimal c.args.width) rest6 c.in_ok-push_numbered-3.ensures
    (number_before c.push_str-3.result (string_bytes c.push_numbered-3.new.text) (string_bytes c.push_numbered-4.new.text) (string_bytes c.push_str-3.new.self) (codes "\" height=\"22\" rx=\"") (decimal c.args.round) rest7 c.in_ok-push_numbered-4.ensures
    (text_last c.push_str-3.result (string_bytes c.push_numbered-4.new.text) (string_bytes c.push_str-3.new.self) rest7 c.push_str-3.ensures.bytes))))))
