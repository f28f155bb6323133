-- What a caller knows whose reader and writer show their bytes.
use Rattle.std.proofs.Common.{◌≡◌, ℕ, List, [], ◌++◌, Option, Some, Result, Ok, sym, ap, subst, ◌∙◌, append-nil}
use Rattle.flow_terms.specs.declared.refusal.Refusal.{Refusal}
use Rattle.script_commands.specs.declared.answer.Answer.{Answer}
use Rattle.script_commands.specs.declared.part.Part.{Part}
use Rattle.script_commands.specs.declared.request.Request.{Request}
use Rattle.script_commands.specs.Commands.{Made, Joining}
use Rattle.script_run.specs.declared.line_answer.LineAnswer.{LineAnswer}
use Rattle.script_run.specs.Executing.{Joined}
use Rattle.script_run.specs.Scripts.{ReadsToEnd, AnswersScript, text_of_answers}

module _ {O : Type 0} (makes : Made → Result O Refusal → Type 0)
    (asks : Part → Request → O → Option Answer → O → Type 0)
    (joins : Part → Joining → O → Option Joined → O → Type 0) where
  -- THE WHOLE TEXT WAS WRITTEN of all of the script
  pub whole_text : (script rest old text : List ℕ) → old ≡ [] → ReadsToEnd makes asks joins (Some script) (Some rest) (Some old) (Some text) (Ok tt)
      → (all : List LineAnswer) × AnswersScript makes asks joins script all × (text ≡ text_of_answers all)
  whole_text script rest old text none (read, took, over, short, written) =
      let same : read ≡ script = sym (append-nil read) ∙ ap (λ r. read ++ r) (sym over) ∙ sym took in (
        written.0,
        subst (λ s. AnswersScript makes asks joins s written.0) same written.1,
        written.2 ∙ ap (λ front. front ++ text_of_answers written.0) none,
      )
