use Rattle.std.proofs.Common.{◌++◌, ◌∙◌, ap, codes, string_bytes}
use Rattle.marble_pictures.specs.Symbols.{opening_text, escaped}
use Rattle.marble_pictures.proofs.Appending.{after_text, both}
use Rattle.marble_pictures.proofs.symbol.push_text.Goals as goal

pub returns : goal.returns
returns c =
    let more = c.in_ok-push_escaped.ensures ∙ ap (λ said. string_bytes c.push_opening.new.picture ++ escaped said) c.as_bytes.ensures.value in
    let open_text = opening_text c.args.class.now c.args.at in
    after_text c.push_str.result (string_bytes c.args.picture.now) (string_bytes c.push_escaped.new.picture) (string_bytes c.push_str.new.self) (open_text ++ escaped c.args.said.now) (codes "</text>\n")
    (both (string_bytes c.args.picture.now) (string_bytes c.push_opening.new.picture) (string_bytes c.push_escaped.new.picture) open_text (escaped c.args.said.now) c.in_ok-push_opening.ensures more) c.push_str.ensures.bytes
