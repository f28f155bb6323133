-- What marks look like in SVG.
use Rattle.std.specs.Prelude.{ℕ, ◌+◌, ◌-◌, ◌*◌, ◌/◌, List, [], ◌∷◌, ◌++◌, length, min, Option, Some, None, codes, decimal, ◌==◌, if◌then◌else◌}
use Rattle.std.specs.List.{flat_map}
use Rattle.marble_marks.specs.declared.mark.Kind.{Kind}
use Rattle.marble_marks.specs.declared.mark.Kind.TheVariants as kinds
use Rattle.marble_marks.specs.declared.mark.Mark.{Mark}
use Rattle.marble_marks.specs.declared.mark.Spot.{Spot}
use Rattle.marble_marks.specs.declared.mark.Row.{Row}
use Rattle.marble_marks.specs.declared.mark.Row.TheVariants as rows
use Rattle.script_commands.specs.declared.reason.Reason.{Reason}
use Rattle.script_commands.specs.Reasons.{sentence_of}
use Rattle.marble_pictures.specs.declared.sheet.Sheet.{Sheet}
use Rattle.marble_pictures.specs.declared.steps.Position.{Position}
use Rattle.marble_pictures.specs.declared.symbol.Frame.{Frame}
use Rattle.marble_pictures.specs.declared.symbol.Placed.{Placed}
use Rattle.marble_pictures.specs.declared.symbol.Segment.{Segment}
use Rattle.marble_pictures.specs.declared.symbol.Strike.{Strike}
use Rattle.marble_pictures.specs.declared.symbol.Strike.TheVariants as strikes
use Rattle.marble_pictures.specs.Captions.{plain_byte, words_of}
use Rattle.marble_pictures.specs.Widths.{spot_of}

-- ---- places

-- a sum or a product that is at most the largest number
abbrev pub bounded : ℕ → ℕ
bounded number = min number 18446744073709551615

abbrev pub place : ℕ → ℕ → Position
place x y = record { x = x; y = y }

abbrev pub left : ℕ → Position → Position
left by at = place (at.x - by) at.y

abbrev pub right : ℕ → Position → Position
right by at = place (bounded (at.x + by)) at.y

abbrev pub up : ℕ → Position → Position
up by at = place at.x (at.y - by)

abbrev pub down : ℕ → Position → Position
down by at = place at.x (bounded (at.y + by))

-- the middle of a column, and of a row
abbrev pub x_of : Sheet → ℕ → ℕ
x_of sheet column = bounded (bounded (bounded ((column - 1) * sheet.column) + sheet.names) + sheet.column / 2)

abbrev pub y_of : ℕ → ℕ
y_of row = bounded (bounded (row * 44) + 22)

-- where one line accepts several, they stand side by side in its column
abbrev pub beside : Sheet → Spot → Position → Position
beside sheet at middle = right (bounded (at.index * sheet.slot)) (left (bounded ((at.count - 1) * (sheet.slot / 2))) middle)

abbrev pub place_of : Sheet → Mark → Position
place_of sheet mark = beside sheet (spot_of mark.kind) (place (x_of sheet mark.column) (y_of mark.row))

-- ---- texts and lines

-- what has a meaning in SVG by its name
abbrev pub escaped_byte : ℕ → List ℕ
escaped_byte byte =
    if byte == 60 then codes "&lt;"
    else (if byte == 62 then codes "&gt;"
    else (if byte == 38 then codes "&amp;"
    else (if byte == 34 then codes "&quot;"
    else plain_byte byte ∷ [])))

abbrev pub escaped : List ℕ → List ℕ
escaped bytes = flat_map escaped_byte bytes

unfoldable pub line_text : List ℕ → Position → Position → List ℕ
line_text class from to =
    codes "<line class=\"" ++ (class ++ (codes "\" x1=\"" ++ (decimal from.x ++ (codes "\" y1=\"" ++ (decimal from.y
    ++ (codes "\" x2=\"" ++ (decimal to.x ++ (codes "\" y2=\"" ++ (decimal to.y ++ codes "\"/>\n")))))))))

abbrev pub segment_text : Segment → List ℕ
segment_text segment = line_text segment.class.now segment.from segment.to

-- the begin of a text at this place
unfoldable pub opening_text : List ℕ → Position → List ℕ
opening_text class at =
    codes "<text class=\"" ++ (class ++ (codes "\" x=\"" ++ (decimal at.x ++ (codes "\" y=\"" ++ (decimal at.y ++ codes "\">")))))

abbrev pub said_text : List ℕ → List ℕ → Position → List ℕ
said_text class said at = (opening_text class at ++ escaped said) ++ codes "</text>\n"

-- half the width of a frame round a text
abbrev pub half_width : List ℕ → ℕ
half_width said = bounded (bounded (length said * 4) + 7)

-- the two lines of a cross, which reaches a little less to both sides than a frame
abbrev pub falling_text : Position → ℕ → List ℕ
falling_text at half = line_text (codes "cross") (left (half - 2) (up 9 at)) (right (half - 2) (down 9 at))

abbrev pub rising_text : Position → ℕ → List ℕ
rising_text at half = line_text (codes "cross") (left (half - 2) (down 9 at)) (right (half - 2) (up 9 at))

abbrev pub cross_text : Position → ℕ → List ℕ
cross_text at half = falling_text at half ++ rising_text at half

-- a wall at each side of a frame, which is higher than that
abbrev pub left_wall : Position → ℕ → List ℕ
left_wall at half = line_text (codes "wall") (left half (up 14 at)) (left half (down 14 at))

abbrev pub right_wall : Position → ℕ → List ℕ
right_wall at half = line_text (codes "wall") (right half (up 14 at)) (right half (down 14 at))

abbrev pub walls_text : Position → ℕ → List ℕ
walls_text at half = left_wall at half ++ right_wall at half

unfoldable pub rect_text : List ℕ → Position → ℕ → ℕ → List ℕ
rect_text class corner width round =
    codes "<rect class=\"" ++ (class ++ (codes "\" x=\"" ++ (decimal corner.x ++ (codes "\" y=\"" ++ (decimal corner.y
    ++ (codes "\" width=\"" ++ (decimal width ++ (codes "\" height=\"22\" rx=\"" ++ (decimal round ++ codes "\"/>\n")))))))))

-- ---- frames

pub record Look : Type 0 where
  pub class : List ℕ
  pub round : ℕ
  pub strike : Strike

abbrev pub look : List ℕ → ℕ → Strike → Look
look class round strike = record { class = class; round = round; strike = strike }

-- with round corners and with square ones, round a value that went on
abbrev pub rounded : List ℕ → Look
rounded class = look class 11 strikes.None

abbrev pub squared : List ℕ → Look
squared class = look class 2 strikes.None

abbrev pub look_in : Frame → Look
look_in frame = look frame.class.now frame.round frame.strike

abbrev pub begun_look : Row → Option Look
begun_look (rows.Ticket value) = Some (rounded (codes "before"))
begun_look _ = None

-- the frame of a mark that has one
abbrev pub look_of : Kind → Option Look
look_of (kinds.Accepted value) = Some (rounded (codes "accepted"))
look_of (kinds.AcceptedLater value at) = Some (rounded (codes "accepted before"))
look_of (kinds.Received value) = Some (rounded (codes "received"))
-- square corners: no flow gave it
look_of (kinds.FromPrelude value) = Some (squared (codes "received prelude"))
-- a value that is lost, one that is dropped and one that found no room differ in shape: a cross, one line, two walls
look_of (kinds.Lost value) = Some (look (codes "lost") 11 strikes.Cross)
look_of (kinds.Dropped value) = Some (look (codes "dropped") 11 strikes.Stroke)
look_of (kinds.Full value) = Some (look (codes "full") 2 strikes.Walls)
look_of (kinds.Begun row) = begun_look row
look_of kinds.Done = Some (squared (codes "said"))
look_of kinds.Removed = Some (squared (codes "said"))
look_of kinds.Left = Some (squared (codes "said"))
look_of kinds.Gone = Some (squared (codes "said"))
look_of kinds.Said = Some (squared (codes "said"))
look_of _ = None

-- what shows that the value in a frame didn't go on
abbrev pub strike_text : Strike → Position → ℕ → List ℕ
strike_text strikes.None at half = []
strike_text strikes.Cross at half = cross_text at half
strike_text strikes.Stroke at half = rising_text at half
strike_text strikes.Walls at half = walls_text at half

-- the edge of a frame that reaches so far to both sides
abbrev pub edge_text : Look → ℕ → Position → List ℕ
edge_text frame half at = rect_text frame.class (left half (up 11 at)) (bounded (half * 2)) frame.round

abbrev pub framed_text : List ℕ → Position → List ℕ
framed_text said at = said_text (codes "framed") said (down 4 at)

abbrev pub frame_around : Look → ℕ → List ℕ → Position → List ℕ
frame_around frame half said at = (edge_text frame half at ++ strike_text frame.strike at half) ++ framed_text said at

abbrev pub frame_text : Look → List ℕ → Position → List ℕ
frame_text frame said at = frame_around frame (half_width said) said at

-- ---- marks that aren't a frame alone

-- the begin of the head of a line's column
unfoldable pub heading_text : List ℕ → Position → List ℕ
heading_text said at =
    codes "<text class=\"head\" x=\"" ++ (decimal at.x ++ (codes "\" y=\"" ++ (decimal at.y ++ (codes "\">" ++ (said ++ codes "<title>")))))

-- the begin of that head, with the line to it
abbrev pub titled_text : List ℕ → List ℕ → Position → List ℕ
titled_text line said at = heading_text said at ++ escaped line

abbrev pub head_at : List ℕ → List ℕ → Position → List ℕ
head_at line said at = titled_text line said at ++ codes "</title></text>\n"

abbrev pub head_text : List ℕ → List ℕ → Position → List ℕ
head_text line said at = head_at line said (down 4 at)

-- why a line is bad, on a line of its own after it
abbrev pub why_text : Reason → List ℕ
why_text reason = codes "&#10;bad command: " ++ sentence_of reason

abbrev pub bad_head_at : Reason → List ℕ → List ℕ → Position → List ℕ
bad_head_at reason line said at = (titled_text line said at ++ why_text reason) ++ codes "</title></text>\n"

abbrev pub bad_head : Reason → List ℕ → List ℕ → Position → List ℕ
bad_head reason line said at = bad_head_at reason line said (down 4 at)

abbrev pub crossed_head : Reason → List ℕ → ℕ → List ℕ → Position → List ℕ
crossed_head reason line half said at = cross_text at half ++ bad_head reason line said at

abbrev pub bar_text : Position → List ℕ
bar_text at = line_text (codes "bar") (up 10 at) (down 10 at)

unfoldable pub ring_text : Position → List ℕ
ring_text at = codes "<circle cx=\"" ++ (decimal at.x ++ (codes "\" cy=\"" ++ (decimal at.y ++ codes "\" r=\"4\"/>\n")))

-- a value of a state, so many steps above its lowest
abbrev pub value_text : ℕ → List ℕ → Position → List ℕ
value_text step said at = said_text (codes "value") said (up 5 (right 4 (up step (down 13 at))))

abbrev pub begun_text : Row → ℕ → List ℕ → Position → List ℕ
begun_text (rows.State value) step said at = value_text step said at
begun_text _ step said at = bar_text at

-- an arrowhead, whose point is here
unfoldable pub arrow_text : Position → List ℕ
arrow_text at = codes "<path d=\"M" ++ (decimal at.x ++ (codes " " ++ (decimal at.y ++ codes "l-5-8h10z\"/>\n")))

-- the answer to a tick, with what a tick is
abbrev pub ticked_words : List ℕ → Position → List ℕ
ticked_words said at =
    (opening_text (codes "framed") at ++ escaped said)
    ++ codes "<title>a tick: the flow takes what its upstream gives, if anything</title></text>\n"

-- a tick: its answer in a frame, and an arrowhead that points down at it
abbrev pub ticked_text : List ℕ → Position → List ℕ
ticked_text said at = (edge_text (squared (codes "said")) (half_width said) at ++ arrow_text (up 12 at)) ++ ticked_words said (down 4 at)

abbrev pub bare_text : Kind → List ℕ → ℕ → List ℕ → Position → List ℕ
bare_text (kinds.Line number) line step said at = head_text line said at
bare_text (kinds.Bad number reason) line step said at = crossed_head reason line (half_width said) said at
bare_text (kinds.Named row) line step said at = said_text (codes "name") said (place 8 (bounded (at.y + 4)))
bare_text (kinds.Number number spot) line step said at = said_text (codes "number") said (up 14 at)
bare_text (kinds.Set value) line step said at = value_text step said at
bare_text (kinds.Holds value) line step said at = value_text step said at
bare_text (kinds.Begun row) line step said at = begun_text row step said at
bare_text kinds.Cancelled line step said at = bar_text at
bare_text kinds.Ticked line step said at = ticked_text said at
bare_text _ line step said at = ring_text at

abbrev pub symbol_by : Option Look → Kind → List ℕ → ℕ → List ℕ → Position → List ℕ
symbol_by (Some frame) kind line step said at = frame_text frame said at
symbol_by None kind line step said at = bare_text kind line step said at

-- WHAT A MARK LOOKS LIKE on a sheet
abbrev pub symbol_text : Sheet → Placed → List ℕ
symbol_text sheet placed =
    symbol_by (look_of placed.mark.kind) placed.mark.kind placed.mark.text.now placed.step
    (words_of placed.mark.kind placed.mark.text.now) (place_of sheet placed.mark)
