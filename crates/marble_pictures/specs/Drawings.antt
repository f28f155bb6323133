-- READ THIS FIRST: what a picture in SVG is.
use Rattle.std.specs.Prelude.{◌≡◌, ℕ, List, [], ◌++◌, Bool, true, false, map, codes, decimal, if◌then◌else◌}
use Rattle.std.specs.List.{flat_map}
use Rattle.marble_marks.specs.declared.mark.Kind.{Kind}
use Rattle.marble_marks.specs.declared.mark.Kind.TheVariants as kinds
use Rattle.marble_marks.specs.declared.mark.Mark.{Mark}
use Rattle.marble_pictures.specs.declared.sheet.Sheet.{Sheet}
use Rattle.marble_pictures.specs.declared.symbol.Placed.{Placed}
use Rattle.marble_pictures.specs.declared.symbol.Segment.{Segment}
use Rattle.marble_pictures.specs.declared.svg.TheConstants.{ABOUT, STYLE, SHEET}
use Rattle.marble_pictures.specs.Captions.{words_of}
use Rattle.marble_pictures.specs.Symbols.{escaped, segment_text, symbol_text}

unfoldable pub head_text : ℕ → ℕ → List ℕ
head_text width height =
    codes "<svg xmlns=\"http:" ++ (codes "//www.w3.org/2000/svg\" width=\"" ++ (decimal width ++ (codes "\" height=\"" ++ (decimal height
    ++ (codes "\" viewBox=\"0 0 " ++ (decimal width ++ (codes " " ++ (decimal height ++ codes "\" role=\"img\" aria-labelledby=\"title about\">\n"))))))))

abbrev pub is_name : Kind → Bool
is_name (kinds.Named row) = true
is_name _ = false

-- the name of a row
abbrev pub name_of_row : List ℕ → List ℕ
name_of_row words = (codes " " ++ escaped words) ++ codes "."

abbrev pub name_text : Mark → List ℕ
name_text mark = if is_name mark.kind then name_of_row (words_of mark.kind mark.text.now) else []

abbrev pub about_text : List Mark → List ℕ
about_text marks = (ABOUT.now ++ flat_map name_text marks) ++ codes "</desc>\n"

abbrev pub front_text : ℕ → ℕ → List Mark → List ℕ
front_text width height marks = ((head_text width height ++ about_text marks) ++ STYLE.now) ++ SHEET.now

-- after the head these lines, and then the symbol of each of these marks
abbrev pub svg_text : ℕ → ℕ → List Mark → Sheet → List Segment → List Placed → List ℕ
svg_text width height marks sheet segments placed =
    ((front_text width height marks ++ flat_map segment_text segments) ++ flat_map (symbol_text sheet) placed) ++ codes "</svg>\n"

-- THESE MARKS ARE DRAWN: after the head come lines, and then the symbol of each mark, once and in order, and nothing else.
pub record Draws (marks : List Mark) (picture : List ℕ) : Type 0 where
  pub width : ℕ
  pub height : ℕ
  pub sheet : Sheet
  pub segments : List Segment
  pub placed : List Placed
  pub each : map (λ p. p.mark) placed ≡ marks
  pub text : picture ≡ svg_text width height marks sheet segments placed
