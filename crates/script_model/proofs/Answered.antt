-- What follows for a script whose objects stand for things.
use Rattle.std.proofs.Common.{◌≡◌, inl, inr, ℕ, List, ◌++◌, Option, Result, Ok, Err, Vec, sym, ap, subst, ◌∙◌, append_assoc}
use Rattle.std.specs.Io.KnownBytes.{Appends}
use Rattle.flow_terms.specs.declared.refusal.Refusal.{Refusal}
use Rattle.script_commands.specs.declared.answer.Answer.{Answer}
use Rattle.script_commands.specs.declared.part.Part.{Part}
use Rattle.script_commands.specs.declared.request.Request.{Request}
use Rattle.script_commands.specs.Commands.{Made, Joining}
use Rattle.script_words.specs.Lines.{lines_of}
use Rattle.script_run.specs.declared.fault.ScriptFault.{ScriptFault}
use Rattle.script_run.specs.declared.fault.ScriptFault.TheVariants.{Read, TooLong, Write, NoMemory}
use Rattle.script_run.specs.declared.line_answer.LineAnswer.{LineAnswer}
use Rattle.script_run.specs.Executing.{Joined}
use Rattle.script_run.specs.Output.{AppendsFront}
use Rattle.script_run.specs.Scripts.{text_of_answers, AnswersFront, Writes, Gives, ReadsAndWrites, ReadsToEnd}
use Rattle.script_model.specs.Findings.{Findings}
use Rattle.script_model.specs.Things.{Thing}
use Rattle.script_model.specs.Worlds.{empty_world}
use Rattle.script_model.specs.Answering.{answers_of_lines, answers_of_script}
use Rattle.script_model.specs.Running.{GivesAnswers, text_of_script, WritesText, ReadsAndWritesText, RunsByModel}
use Rattle.script_model.proofs.Lines.{front_of, text_append, answers_by_world}
use Rattle.script_model.proofs.Steps.{Meets}

module _ {O : Type 0} (makes : Made → Result O Refusal → Type 0)
    (asks : Part → Request → O → Option Answer → O → Type 0)
    (joins : Part → Joining → O → Option Joined → O → Type 0) where
  -- THE ANSWERS OF A SCRIPT ARE ITS MODEL'S
  pub gives_answers : {Y : Type 0} (script : List ℕ) (result : Result (Vec LineAnswer Y) ScriptFault) → Gives makes asks joins script result
      → (Stands : O → Thing → Type 0) → Meets Stands makes asks joins → GivesAnswers script result
  gives_answers script (Ok all) h Stands meets = (h.0, answers_by_world Stands makes asks joins meets (lines_of script) all.items h.1)
  gives_answers script (Err TooLong) h Stands meets = h
  gives_answers script (Err NoMemory) h Stands meets = tt
  gives_answers script (Err Read) h Stands meets = absurd h
  gives_answers script (Err Write) h Stands meets = absurd h

  module _ (Stands : O → Thing → Type 0) (meets : Meets Stands makes asks joins) where
    -- a front of the text of lines is one of the script's
    front_written : (old new : Option (List ℕ)) (script : List ℕ) (all : List LineAnswer) → AnswersFront makes asks joins script all → AppendsFront old new (text_of_answers all)
        → (findings : Findings) × AppendsFront old new (text_of_script findings script)
    front_written old new script all front written =
        let came = answers_by_world Stands makes asks joins meets front.before all front.answered in
        let later = front_of came.0 1 front.before front.after empty_world in
        let whole : answers_of_script came.0 script ≡ all ++ later.0 =
        ap (λ lines. answers_of_lines came.0 lines) front.lines ∙ later.1 ∙ ap (λ a. a ++ later.0) (sym came.1) in (
          came.0,
          record {
            front = written.front;
            rest = written.rest ++ text_of_answers later.0;
            splits = ap text_of_answers whole ∙ text_append all later.0 ∙ ap (λ text. text ++ text_of_answers later.0) written.splits
                ∙ append_assoc written.front written.rest (text_of_answers later.0);
            appended = written.appended;
          },
        )

    writes_text : (old new : Option (List ℕ)) (script : List ℕ) (result : Result (Unit {0}) ScriptFault) → Writes makes asks joins old new script result → WritesText old new script result
    writes_text old new script (Ok done) h =
        let came = answers_by_world Stands makes asks joins meets (lines_of script) h.0 h.1 in
        (came.0, subst (λ all. Appends old new (text_of_answers all)) came.1 h.2)
    writes_text old new script (Err Write) h = front_written old new script h.0 h.1 h.2
    writes_text old new script (Err NoMemory) h =
        let came = answers_by_world Stands makes asks joins meets h.1.before h.0 h.1.answered in
        (came.0, h.1.before, h.1.after, h.1.lines, subst (λ all. Appends old new (text_of_answers all)) came.1 h.2)
    writes_text old new script (Err Read) h = absurd h
    writes_text old new script (Err TooLong) h = absurd h

    reads_and_writes : (left rest old new : Option (List ℕ)) (result : Result (Unit {0}) ScriptFault) → ReadsAndWrites makes asks joins left rest old new result → ReadsAndWritesText left rest old new result
    reads_and_writes left rest old new result h = (h.0, h.1, h.2, h.3, writes_text old new h.0 result h.4)

  -- THE TEXT THAT IS WRITTEN OF A SCRIPT IS ITS MODEL'S
  pub runs_by_model : (left rest old new : Option (List ℕ)) (result : Result (Unit {0}) ScriptFault) → ReadsToEnd makes asks joins left rest old new result
      → (Stands : O → Thing → Type 0) → Meets Stands makes asks joins → RunsByModel left rest old new result
  runs_by_model left rest old new (Ok done) h Stands meets = reads_and_writes Stands meets left rest old new (Ok done) h
  runs_by_model left rest old new (Err Write) h Stands meets = reads_and_writes Stands meets left rest old new (Err Write) h
  runs_by_model left rest old new (Err NoMemory) (inl kept) Stands meets = inl kept
  runs_by_model left rest old new (Err NoMemory) (inr h) Stands meets = inr (reads_and_writes Stands meets left rest old new (Err NoMemory) h)
  runs_by_model left rest old new (Err Read) h Stands meets = h
  runs_by_model left rest old new (Err TooLong) h Stands meets = h
