-- What running a script does, and the text that is written of it.
use Rattle.std.specs.Prelude.{◌≡◌, ℕ, List, [], ◌∷◌, ◌++◌, length, Option, Some, None, Result, Ok, Err, Vec, ◌<◌, ◌≤◌, ◌⊎◌}
use Rattle.std.specs.Io.KnownBytes.{Appends, Keeps, Consumes, IsAtEnd}
use Rattle.flow_terms.specs.declared.refusal.Refusal.{Refusal}
use Rattle.script_commands.specs.declared.answer.Answer.{Answer}
use Rattle.script_commands.specs.declared.part.Part.{Part}
use Rattle.script_commands.specs.declared.request.Request.{Request}
use Rattle.script_commands.specs.Answers.{line_of}
use Rattle.script_commands.specs.Commands.{Made, Joining}
use Rattle.script_words.specs.Lines.{lines_of}
use Rattle.script_run.specs.declared.fault.ScriptFault.{ScriptFault}
use Rattle.script_run.specs.declared.fault.ScriptFault.TheVariants.{Read, TooLong, Write, NoMemory}
use Rattle.script_run.specs.declared.line_answer.LineAnswer.{LineAnswer}
use Rattle.script_run.specs.Output.{AppendsFront}
use Rattle.script_run.specs.Standings.{Standing, IsFresh}
use Rattle.script_run.specs.Executing.{Joined}
use Rattle.script_run.specs.Replying.{Answers}

-- THE TEXT of answers: a line for each
abbrev pub text_of_answers : List LineAnswer → List ℕ
text_of_answers [] = []
text_of_answers (answered ∷ rest) = line_of answered.answer ++ text_of_answers rest

module _ {O : Type 0} (makes : Made → Result O Refusal → Type 0)
    (asks : Part → Request → O → Option Answer → O → Type 0)
    (joins : Part → Joining → O → Option Joined → O → Type 0) where
  -- THE ANSWERS of these lines, of a script that has made nothing before them
  pub record AnswersLines (lines : List (List ℕ)) (all : List LineAnswer) : Type 0 where
    pub start : Standing O
    pub fresh : IsFresh start
    pub end : Standing O
    pub answered : Answers makes asks joins 1 lines start all end

  -- THE ANSWERS OF A SCRIPT
  abbrev pub AnswersScript : List ℕ → List LineAnswer → Type 0
  AnswersScript script all = AnswersLines (lines_of script) all

  -- the lines of the script up to some line were run, and these are their answers
  pub record AnswersFront (script : List ℕ) (all : List LineAnswer) : Type 0 where
    pub before : List (List ℕ)
    pub after : List (List ℕ)
    pub lines : lines_of script ≡ before ++ after
    pub answered : AnswersLines before all

  -- All answers were written; where writing failed, a front of the answers of the lines that were run; where memory was refused, the answers
  -- of the lines before.
  abbrev pub Writes : Option (List ℕ) → Option (List ℕ) → List ℕ → Result (Unit {0}) ScriptFault → Type 0
  Writes old new script (Ok done) = (all : List LineAnswer) × AnswersScript script all × Appends old new (text_of_answers all)
  Writes old new script (Err Write) = (all : List LineAnswer) × AnswersFront script all × AppendsFront old new (text_of_answers all)
  Writes old new script (Err NoMemory) = (all : List LineAnswer) × AnswersFront script all × Appends old new (text_of_answers all)
  Writes old new script (Err Read) = ⊥
  Writes old new script (Err TooLong) = ⊥

  -- These are the answers of the script, which is within the limit; only one past the limit is too long, and nothing else fails but for want of memory.
  abbrev pub Gives : {Y : Type 0} → List ℕ → Result (Vec LineAnswer Y) ScriptFault → Type 0
  Gives script (Ok all) = (length script ≤ 1048576) × AnswersScript script all.items
  Gives script (Err TooLong) = 1048576 < length script
  Gives script (Err NoMemory) = Unit {0}
  Gives script (Err Read) = ⊥
  Gives script (Err Write) = ⊥

  -- All of the input was read, a script within the limit, and this is what was written of its text.
  abbrev pub ReadsAndWrites : Option (List ℕ) → Option (List ℕ) → Option (List ℕ) → Option (List ℕ) → Result (Unit {0}) ScriptFault → Type 0
  ReadsAndWrites left rest old new result =
      (script : List ℕ) × Consumes left rest script × IsAtEnd rest × (length script ≤ 1048576) × Writes old new script result

  -- WHAT RUNNING A SCRIPT DOES, by what the reader had left and has left, and by what the writer held and holds.
  -- All of the input was read, and its answers were written, or a front of them, or those of the lines before
  -- memory was refused. Past the limit, and where reading failed, nothing was written.
  abbrev pub ReadsToEnd : Option (List ℕ) → Option (List ℕ) → Option (List ℕ) → Option (List ℕ) → Result (Unit {0}) ScriptFault → Type 0
  ReadsToEnd left rest old new (Ok done) = ReadsAndWrites left rest old new (Ok done)
  ReadsToEnd left rest old new (Err Write) = ReadsAndWrites left rest old new (Err Write)
  ReadsToEnd left rest old new (Err NoMemory) = Keeps old new ⊎ ReadsAndWrites left rest old new (Err NoMemory)
  ReadsToEnd left rest old new (Err Read) = Keeps old new
  ReadsToEnd left rest old new (Err TooLong) = Keeps old new × ((bytes : List ℕ) × Consumes left rest bytes × (1048576 < length bytes))

-- an answer's line was written, or a front of it, or none for want of memory
abbrev pub WritesAnswer : Option (List ℕ) → Option (List ℕ) → Answer → Result (Unit {0}) ScriptFault → Type 0
WritesAnswer old new answer (Ok done) = Appends old new (line_of answer)
WritesAnswer old new answer (Err Write) = AppendsFront old new (line_of answer)
WritesAnswer old new answer (Err NoMemory) = Keeps old new
WritesAnswer old new answer (Err Read) = ⊥
WritesAnswer old new answer (Err TooLong) = ⊥
