-- READ THIS FIRST: what a picture of a script shows.
use Rattle.std.specs.Prelude.{◌≡◌, ℕ, List, Option, Result, String, map, string_bytes}
use Rattle.std.specs.List.Sorted.{IsPermutation}
use Rattle.marble_marks.specs.declared.mark.Mark.{Mark}
use Rattle.marble_marks.specs.AnsweredLines.{Asked, Saying, saying, asked_of}
use Rattle.marble_marks.specs.Marks.{mark_in}
use Rattle.marble_marks.specs.Showing.{Shows}
use Rattle.marble_marks.specs.Receivings.{receipts_in, receipts_of}
use Rattle.marble_pictures.specs.Drawings.{Draws}
use Rattle.flow_terms.specs.declared.refusal.Refusal.{Refusal}
use Rattle.script_commands.specs.declared.answer.Answer.{Answer}
use Rattle.script_commands.specs.declared.part.Part.{Part}
use Rattle.script_commands.specs.declared.request.Request.{Request}
use Rattle.script_commands.specs.Commands.{Made, Joining}
use Rattle.script_run.specs.declared.fault.ScriptFault.{ScriptFault}
use Rattle.script_run.specs.declared.line_answer.LineAnswer.{LineAnswer}
use Rattle.script_run.specs.Executing.{Joined}
use Rattle.script_run.specs.Scripts.{AnswersScript}
use Rattle.marble_drawing.specs.Ends.{Ends}
use Rattle.marble_drawing.specs.declared.drawing.Form.{Form}
use Rattle.marble_drawing.specs.declared.drawing.Form.TheVariants.{Svg, Text}

-- an answer beside its text
abbrev pub saying_of : LineAnswer → Saying
saying_of answered = saying answered.line answered.answer

-- It draws the marks of these lines with their answers, in the order of their rows: among them one of a received value for
-- each that was received, and none besides.
pub record DrawsLines (asked : List Asked) (picture : List ℕ) : Type 0 where
  pub marks : List Mark
  pub in_rows : List Mark
  pub shows : Shows asked (map mark_in marks)
  pub received : receipts_in (map mark_in marks) ≡ receipts_of asked
  pub same : IsPermutation marks in_rows
  pub drawn : Draws in_rows picture

-- WHAT A PICTURE SHOWS of these lines with their answers. Of a picture in characters nothing is said.
abbrev pub ShowsLines : Form → List Asked → List ℕ → Type 0
ShowsLines Svg asked picture = DrawsLines asked picture
ShowsLines Text asked picture = Unit {0}

module _ {O : Type 0} (makes : Made → Result O Refusal → Type 0)
    (asks : Part → Request → O → Option Answer → O → Type 0)
    (joins : Part → Joining → O → Option Joined → O → Type 0) where
  -- WHAT IS DRAWN of a script whose names stand for such objects: the answers of its lines, each of which is what these objects reply
  abbrev pub DrawnBy : {A : Type 0} → Form → List ℕ → Result (String A) ScriptFault → Type 0
  DrawnBy form script result = Ends script (λ picture. (answers : List LineAnswer) × AnswersScript makes asks joins script answers
      × ShowsLines form (asked_of script (map saying_of answers)) (string_bytes picture)) result
