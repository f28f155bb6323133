-- What running a script comes to, by its model.
use Rattle.std.specs.Prelude.{◌≡◌, ℕ, List, ◌++◌, length, Option, Result, Ok, Err, Vec, ◌<◌, ◌≤◌, ◌⊎◌}
use Rattle.std.specs.Io.KnownBytes.{Appends, Keeps, Consumes, IsAtEnd}
use Rattle.script_words.specs.Lines.{lines_of}
use Rattle.script_run.specs.declared.fault.ScriptFault.{ScriptFault}
use Rattle.script_run.specs.declared.fault.ScriptFault.TheVariants.{Read, TooLong, Write, NoMemory}
use Rattle.script_run.specs.declared.line_answer.LineAnswer.{LineAnswer}
use Rattle.script_run.specs.Output.{AppendsFront}
use Rattle.script_run.specs.Scripts.{text_of_answers}
use Rattle.script_model.specs.Findings.{Findings}
use Rattle.script_model.specs.Answering.{answers_of_lines, answers_of_script}

-- These are the answers of the script, which is within the limit; only one past the limit is too long, and nothing else fails but for want of memory.
abbrev pub GivesAnswers : {Y : Type 0} → List ℕ → Result (Vec LineAnswer Y) ScriptFault → Type 0
GivesAnswers script (Ok all) = (length script ≤ 1048576) × ((findings : Findings) × (all.items ≡ answers_of_script findings script))
GivesAnswers script (Err TooLong) = 1048576 < length script
GivesAnswers script (Err NoMemory) = Unit {0}
GivesAnswers script (Err Read) = ⊥
GivesAnswers script (Err Write) = ⊥

-- THE TEXT of lines, where they found this
abbrev pub text_of_lines : Findings → List (List ℕ) → List ℕ
text_of_lines findings lines = text_of_answers (answers_of_lines findings lines)

-- THE TEXT of a script, where its lines found this
abbrev pub text_of_script : Findings → List ℕ → List ℕ
text_of_script findings script = text_of_lines findings (lines_of script)

-- The whole text was written; where writing failed, a front of it; where memory was refused, the answers of the lines before.
abbrev pub WritesText : Option (List ℕ) → Option (List ℕ) → List ℕ → Result (Unit {0}) ScriptFault → Type 0
WritesText old new script (Ok done) = (findings : Findings) × Appends old new (text_of_script findings script)
WritesText old new script (Err Write) = (findings : Findings) × AppendsFront old new (text_of_script findings script)
WritesText old new script (Err NoMemory) = (findings : Findings) × (before : List (List ℕ)) × (after : List (List ℕ))
    × (lines_of script ≡ before ++ after) × Appends old new (text_of_lines findings before)
WritesText old new script (Err Read) = ⊥
WritesText old new script (Err TooLong) = ⊥

-- All of the input was read, a script within the limit, and this is what was written of its text.
abbrev pub ReadsAndWritesText : Option (List ℕ) → Option (List ℕ) → Option (List ℕ) → Option (List ℕ) → Result (Unit {0}) ScriptFault → Type 0
ReadsAndWritesText left rest old new result =
    (script : List ℕ) × Consumes left rest script × IsAtEnd rest × (length script ≤ 1048576) × WritesText old new script result

-- WHAT RUNNING A SCRIPT DOES, by what the reader had left and has left, and by what the writer held and holds.
-- All of the input was read, and its text was written, or a front of it, or the answers of the lines before
-- memory was refused. Past the limit, and where reading failed, nothing was written.
abbrev pub RunsByModel : Option (List ℕ) → Option (List ℕ) → Option (List ℕ) → Option (List ℕ) → Result (Unit {0}) ScriptFault → Type 0
RunsByModel left rest old new (Ok done) = ReadsAndWritesText left rest old new (Ok done)
RunsByModel left rest old new (Err Write) = ReadsAndWritesText left rest old new (Err Write)
RunsByModel left rest old new (Err NoMemory) = Keeps old new ⊎ ReadsAndWritesText left rest old new (Err NoMemory)
RunsByModel left rest old new (Err Read) = Keeps old new
RunsByModel left rest old new (Err TooLong) = Keeps old new × ((bytes : List ℕ) × Consumes left rest bytes × (1048576 < length bytes))
