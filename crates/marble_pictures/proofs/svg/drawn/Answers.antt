use Rattle.std.proofs.Common.{◌++◌, ◌∙◌, ap, ap₂}
use Rattle.marble_pictures.specs.Drawings.{svg_text}
use Rattle.marble_pictures.proofs.svg.drawn.Goals as goal

pub returns : goal.returns
returns c = record {
  width = c.width-width.result;
  height = c.height-height.result;
  sheet = c.of-sheet.result;
  segments = c.in_ok-segments.segments.items;
  placed = c.in_ok-placed.placed.items;
  each = c.in_ok-placed.ensures;
  text = c.in_ok-push_all.ensures
      ∙ ap (λ old. old ++ svg_text c.width-width.result c.height-height.result c.args.marks.now c.of-sheet.result c.as_slice.result.now c.as_slice-2.result.now) c.new-picture.ensures.bytes
      ∙ ap₂ (λ segments placed. svg_text c.width-width.result c.height-height.result c.args.marks.now c.of-sheet.result segments placed) c.as_slice.ensures.value c.as_slice-2.ensures.value;
}
