use Rattle.std.proofs.Common.{◌++◌, string_bytes}
use Rattle.marble_pictures.specs.declared.svg.TheConstants.{STYLE, SHEET}
use Rattle.marble_pictures.specs.Drawings.{head_text, about_text}
use Rattle.marble_pictures.proofs.Appending.{after_text, both}
use Rattle.marble_pictures.proofs.svg.push_front.Goals as goal

pub returns : goal.returns
returns c =
    let head = head_text c.args.width c.args.height in
    let about = about_text c.args.marks.now in
    let begun = both (string_bytes c.args.picture.now) (string_bytes c.push_head.new.picture) (string_bytes c.push_about.new.picture) head about c.in_ok-push_head.ensures c.in_ok-push_about.ensures in
    after_text c.push_str-2.result (string_bytes c.args.picture.now) (string_bytes c.push_str.new.self) (string_bytes c.push_str-2.new.self) ((head ++ about) ++ STYLE.now) SHEET.now
    (both (string_bytes c.args.picture.now) (string_bytes c.push_about.new.picture) (string_bytes c.push_str.new.self) (head ++ about) STYLE.now begun c.in_ok-push_str.ensures.bytes) c.push_str-2.ensures.bytes
