use Rattle.std.proofs.Common.{◌++◌, codes, decimal, string_bytes}
use Rattle.marble_pictures.specs.Drawings.{head_text}
use Rattle.marble_pictures.proofs.Appending.{text_before, number_before, text_last}
use Rattle.marble_pictures.proofs.svg.push_head.Goals as goal

pub returns : goal.returns
unfolding head_text
returns c =
    let rest6 = codes "\" role=\"img\" aria-labelledby=\"title about\">\n" in
    let rest5 = (codes " ") ++ ((decimal c.args.height) ++ rest6) in
    let rest4 = (codes "\" viewBox=\"0 0 ") ++ ((decimal c.args.width) ++ rest5) in
    let rest3 = (codes "\" height=\"") ++ ((decimal c.args.height) ++ rest4) in
    let rest2 = (codes "//www.w3.org/2000/svg\" width=\"") ++ ((decimal c.args.width) ++ rest3) in
    text_before c.push_str-2.result (string_bytes c.args.picture.now) (string_bytes c.push_str.new.self) (string_bytes c.push_str-2.new.self) (codes "<svg xmlns=\"http:") rest2 c.in_ok-push_str.ensures.bytes
    (number_before c.push_str-2.result (string_bytes c.push_str.new.self) (string_bytes c.push_numbered.new.text) (string_bytes c.push_str-2.new.self) (codes "//www.w3.org/2000/svg\" width=\"") (decimal c.args.width) rest3 c.in_ok-push_numbered.ensures
    (number_before c.push_str-2.result (string_bytes c.push_numbered.new.text) (string_bytes c.push_numbered-2.new.text) (string_bytes c.push_str-2.new.self) (codes "\" height=\"") (decimal c.args.height) rest4 c.in_ok-push_numbered-2.ensures
    (number_before c.push_str-2.result (string_bytes c.push_numbered-2.new.text) (string_bytes c.push_numbered-3.new.text) (string_bytes c.push_str-2.new.self) (codes "\" viewBox=\"0 0 ") (decimal c.args.width) rest5 c.in_ok-push_numbered-3.ensures
    (number_before c.push_str-2.result (string_bytes c.push_numbered-3.new.text) (string_bytes c.push_numbered-4.new.text) (string_bytes c.push_str-2.new.self) (codes " ") (decimal c.args.height) rest6 c.in_ok-push_numbered-4.ensures
    (text_last c.push_str-2.result (string_bytes c.push_numbered-4.new.text) (string_bytes c.push_str-2.new.self) rest6 c.push_str-2.ensures.bytes)))))
