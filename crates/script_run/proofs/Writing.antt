-- What is written so far.
use Rattle.std.proofs.Common.{◌≡◌, ℕ, List, [], ◌∷◌, ◌++◌, Option, Some, None, Result, Err, refl, sym, ap, ◌∙◌, append_assoc, append-nil, subst}
use Rattle.std.specs.Io.KnownBytes.{Appends, Keeps}
use Rattle.std.proofs.KnownBytes.{Appends-trans}
use Rattle.flow_terms.specs.declared.refusal.Refusal.{Refusal}
use Rattle.script_commands.specs.declared.answer.Answer.{Answer}
use Rattle.script_commands.specs.declared.part.Part.{Part}
use Rattle.script_commands.specs.declared.request.Request.{Request}
use Rattle.script_commands.specs.Answers.{line_of}
use Rattle.script_commands.specs.Commands.{Made, Joining}
use Rattle.script_run.specs.declared.fault.ScriptFault.{ScriptFault}
use Rattle.script_run.specs.declared.fault.ScriptFault.TheVariants.{Read, TooLong, Write, NoMemory}
use Rattle.script_run.specs.declared.line_answer.LineAnswer.{LineAnswer}
use Rattle.script_run.specs.Executing.{Joined}
use Rattle.script_run.specs.Scripts.{text_of_answers, AnswersFront, Writes, WritesAnswer}

text_more : (all : List LineAnswer) (answered : LineAnswer) → text_of_answers (all ++ answered ∷ []) ≡ text_of_answers all ++ line_of answered.answer
text_more [] answered = append-nil (line_of answered.answer)
text_more (first ∷ all) answered =
    ap (λ t. line_of first.answer ++ t) (text_more all answered) ∙ sym (append_assoc (line_of first.answer) (text_of_answers all) (line_of answered.answer))

-- one more answer was written
pub wrote_more : (old now new : Option (List ℕ)) (all : List LineAnswer) (answered : LineAnswer) → Appends old now (text_of_answers all)
    → Appends now new (line_of answered.answer) → Appends old new (text_of_answers (all ++ answered ∷ []))
wrote_more old now new all answered p q =
    rw (text_more all answered) (Appends-trans old now new (text_of_answers all) (line_of answered.answer) p q)

pub appends_kept : (old now new : Option (List ℕ)) (bytes : List ℕ) → Appends old now bytes → Keeps now new → Appends old new bytes
appends_kept None now new bytes p q = tt
appends_kept (Some x) None new bytes p q = absurd p
appends_kept (Some x) (Some y) None bytes p q = absurd q
appends_kept (Some x) (Some y) (Some z) bytes p q = q ∙ p

module _ {O : Type 0} (makes : Made → Result O Refusal → Type 0)
    (asks : Part → Request → O → Option Answer → O → Type 0)
    (joins : Part → Joining → O → Option Joined → O → Type 0) where
  -- writing the next answer failed
  pub stops : (old now new : Option (List ℕ)) (script : List ℕ) (all : List LineAnswer) (answered : LineAnswer) (fault : ScriptFault)
      → AnswersFront makes asks joins script all → AnswersFront makes asks joins script (all ++ answered ∷ []) → Appends old now (text_of_answers all)
      → WritesAnswer now new answered.answer (Err fault) → Writes makes asks joins old new script (Err fault)
  stops old now new script all answered Read before after p failed = absurd failed
  stops old now new script all answered TooLong before after p failed = absurd failed
  stops old now new script all answered NoMemory before after p failed = (all, before, appends_kept old now new (text_of_answers all) p failed)
  stops old now new script all answered Write before after p failed = (
    all ++ answered ∷ [],
    after,
    record {
      front = text_of_answers all ++ failed.front;
      rest = failed.rest;
      splits = text_more all answered ∙ ap (λ t. text_of_answers all ++ t) failed.splits ∙ sym (append_assoc (text_of_answers all) failed.front failed.rest);
      appended = Appends-trans old now new (text_of_answers all) failed.front p failed.appended;
    },
  )
