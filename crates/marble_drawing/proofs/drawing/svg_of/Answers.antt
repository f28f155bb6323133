use Rattle.marble_drawing.proofs.drawing.svg_of.Goals as goal

pub returns : goal.returns
returns c = record {
  marks = c.in_ok-marks.marks.items;
  in_rows = _;
  shows = c.in_ok-marks.ensures.marks;
  received = c.in_ok-marks.ensures.received;
  same = c.in_ok-picture.ensures.kept;
  drawn = c.in_ok-picture.ensures.drawn;
}
