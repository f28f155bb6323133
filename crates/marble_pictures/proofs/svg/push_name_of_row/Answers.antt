use Rattle.std.proofs.Common.{◌++◌, codes, string_bytes}
use Rattle.marble_pictures.specs.Symbols.{escaped}
use Rattle.marble_pictures.proofs.Appending.{after_text, both}
use Rattle.marble_pictures.proofs.svg.push_name_of_row.Goals as goal

pub returns : goal.returns
returns c =
    after_text c.push_str-2.result (string_bytes c.args.picture.now) (string_bytes c.push_escaped.new.picture) (string_bytes c.push_str-2.new.self) (codes " " ++ escaped c.args.words.now) (codes ".")
    (both (string_bytes c.args.picture.now) (string_bytes c.push_str.new.self) (string_bytes c.push_escaped.new.picture) (codes " ") (escaped c.args.words.now) c.in_ok-push_str.ensures.bytes c.in_ok-push_escaped.ensures) c.push_str-2.ensures.bytes
