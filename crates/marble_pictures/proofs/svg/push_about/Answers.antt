use Rattle.std.proofs.Common.{◌++◌, codes, string_bytes}
use Rattle.std.specs.List.{flat_map}
use Rattle.marble_pictures.specs.declared.svg.TheConstants.{ABOUT}
use Rattle.marble_pictures.specs.Drawings.{name_text}
use Rattle.marble_pictures.proofs.Appending.{after_text, both}
use Rattle.marble_pictures.proofs.svg.push_about.Goals as goal

pub returns : goal.returns
returns c =
    let names = flat_map name_text c.args.marks.now in
    after_text c.push_str-2.result (string_bytes c.args.picture.now) (string_bytes c.push_names.new.picture) (string_bytes c.push_str-2.new.self) (ABOUT.now ++ names) (codes "</desc>\n")
    (both (string_bytes c.args.picture.now) (string_bytes c.push_str.new.self) (string_bytes c.push_names.new.picture) ABOUT.now names c.in_ok-push_str.ensures.bytes c.in_ok-push_names.ensures) c.push_str-2.ensures.bytes
