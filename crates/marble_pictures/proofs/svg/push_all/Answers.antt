use Rattle.std.proofs.Common.{◌++◌, codes, string_bytes}
use Rattle.std.specs.List.{flat_map}
use Rattle.marble_pictures.specs.Symbols.{segment_text, symbol_text}
use Rattle.marble_pictures.specs.Drawings.{front_text}
use Rattle.marble_pictures.proofs.Appending.{after_text, both}
use Rattle.marble_pictures.proofs.svg.push_all.Goals as goal

pub returns : goal.returns
returns c =
    let front = front_text c.args.width c.args.height c.args.marks.now in
    let lines = flat_map segment_text c.args.segments.now in
    let symbols = flat_map (symbol_text c.args.sheet) c.args.placed.now in
    let begun = both (string_bytes c.args.picture.now) (string_bytes c.push_front.new.picture) (string_bytes c.push_segments.new.picture) front lines c.in_ok-push_front.ensures c.in_ok-push_segments.ensures in
    after_text c.push_str.result (string_bytes c.args.picture.now) (string_bytes c.push_symbols.new.picture) (string_bytes c.push_str.new.self) ((front ++ lines) ++ symbols) (codes "</svg>\n")
    (both (string_bytes c.args.picture.now) (string_bytes c.push_segments.new.picture) (string_bytes c.push_symbols.new.picture) (front ++ lines) symbols begun c.in_ok-push_symbols.ensures) c.push_str.ensures.bytes
