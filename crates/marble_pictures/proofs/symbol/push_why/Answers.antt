use Rattle.std.proofs.Common.{◌≡◌, ◌++◌, codes, string_bytes, is_ok, if◌then◌else◌, subst}
use Rattle.script_commands.specs.Reasons.{sentence_of}
use Rattle.marble_pictures.proofs.Appending.{after_text}
use Rattle.marble_pictures.proofs.symbol.push_why.Goals as goal

pub returns : goal.returns
returns c =
    let mid = string_bytes c.push_str.new.self in
    let new = string_bytes c.push_str-2.new.self in
    after_text c.push_str-2.result (string_bytes c.args.picture.now) mid new (codes "&#10;bad command: ") (sentence_of c.args.reason) c.in_ok-push_str.ensures.bytes
    (subst (λ said. new ≡ (if is_ok c.push_str-2.result then mid ++ said else mid)) c.sentence.ensures c.push_str-2.ensures.bytes)
