use Rattle.std.proofs.Common.{◌∙◌, sym, bytes_eq}
use Rattle.marble_marks.specs.Firsts.{noted_of}
use Rattle.marble_marks.proofs.Noting.{same_noted, gets}
use Rattle.marble_marks.proofs.firsts.Firsts.note.Goals as goal

pub returns : goal.returns
returns c = λ other.
    gets (noted_of c.args.self.now c.args.name.now) (noted_of c.args.self.now other) _ (bytes_eq c.args.name.now other) c.args.number
    (same_noted c.args.self.now c.args.name.now other) (sym c.contains_key.ensures ∙ c.if-contains_key.false)
    ((c.in_ok-insert.ensures.updates).0 (record { ref_ptr = (0, 0); now = other }))
