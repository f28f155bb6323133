-- Lines on objects that stand for things are answered as on the world.
use Rattle.std.proofs.Common.{◌≡◌, ℕ, ◌+◌, ◌<◌, Bool, true, false, List, [], ◌∷◌, ◌++◌, length, Option, Some, None, Result, nat_lt, unwrap_or, if◌then◌else◌, refl, sym, ap, ◌∙◌, append_assoc, arith}
use Rattle.std.proofs.lemmas.Bool.{eq-eqb, ne_eqb}
use Rattle.flow_terms.specs.declared.refusal.Refusal.{Refusal}
use Rattle.script_commands.specs.declared.answer.Answer.{Answer}
use Rattle.script_commands.specs.declared.answer.Answer.TheVariants.{BadCommand}
use Rattle.script_commands.specs.declared.part.Part.{Part}
use Rattle.script_commands.specs.declared.request.Request.{Request}
use Rattle.script_commands.specs.declared.reason.Reason.{Reason}
use Rattle.script_commands.specs.Answers.{line_of}
use Rattle.script_commands.specs.Commands.{Order, Made, Joining, command_of}
use Rattle.script_commands.specs.Commands as commands
use Rattle.script_commands.specs.Reasons.{against_words}
use Rattle.script_words.specs.Lines.{words_of, starts_with_hash}
use Rattle.script_run.specs.declared.line_answer.LineAnswer.{LineAnswer}
use Rattle.script_run.specs.Executing.{Joined, Executes, against_asking, against_joining, reason_of}
use Rattle.script_run.specs.Replying.{answer_at, RepliesUnless, RepliesTo, Replies, Answers}
use Rattle.script_run.specs.Scripts.{text_of_answers, AnswersLines}
use Rattle.script_run.specs.Standings.{Standing}
use Rattle.script_model.specs.Findings.{Finding, Findings, plain, found_at}
use Rattle.script_model.specs.Things.{Thing}
use Rattle.script_model.specs.Worlds.{World, empty_world, binding_of, step}
use Rattle.script_model.specs.Answering.{or_bad, reply_unless, reply_to, reply_of, answers_from, answers_of_lines}
use Rattle.script_model.proofs.Picturing.{Pictures, Comes, pictures_fresh, pictures_still}
use Rattle.script_model.proofs.Steps.{Meets, executes}

-- ---- findings

listed : (number : ℕ) (finding : Finding) (findings : Findings) → found_at number ((number, finding) ∷ findings) ≡ finding
listed number finding findings = ap (λ same. if same then finding else found_at number findings) (eq-eqb number number refl)

not_listed : (number before : ℕ) (finding : Finding) (findings : Findings) → (number ≡ before → ⊥) → found_at number ((before, finding) ∷ findings) ≡ found_at number findings
not_listed number before finding findings differs = ap (λ same. if same then finding else found_at number findings) (ne_eqb number before differs)

-- what a line before these found makes no difference to them
before_these : (findings : Findings) (finding : Finding) (before number : ℕ) (lines : List (List ℕ)) (world : World) → before < number
    → answers_from ((before, finding) ∷ findings) number lines world ≡ answers_from findings number lines world
before_these findings finding before number [] world earlier = refl
before_these findings finding before number (line ∷ lines) world earlier =
    let differs : number ≡ before → ⊥ = λ e. absurd (omega (arith, e, earlier)) in
    let more = (before, finding) ∷ findings in
    ap (λ f. answer_at number (reply_of f number line world).0 ++ answers_from more (number + 1) lines (reply_of f number line world).1) (not_listed number before finding findings differs)
    ∙ ap (λ rest. answer_at number (reply_of (found_at number findings) number line world).0 ++ rest)
    (before_these findings finding before (number + 1) lines (reply_of (found_at number findings) number line world).1 (omega (arith, earlier)))

-- the answers of lines go on with those of the lines after them
pub front_of : (findings : Findings) (number : ℕ) (before after : List (List ℕ)) (world : World)
    → (rest : List LineAnswer) × (answers_from findings number (before ++ after) world ≡ answers_from findings number before world ++ rest)
front_of findings number [] after world = (answers_from findings number after world, refl)
front_of findings number (line ∷ before) after world =
    let came = reply_of (found_at number findings) number line world in
    let later = front_of findings (number + 1) before after came.1 in (
      later.0,
      ap (λ rest. answer_at number came.0 ++ rest) later.1 ∙ sym (append_assoc (answer_at number came.0) (answers_from findings (number + 1) before came.1) later.0),
    )

pub text_append : (all later : List LineAnswer) → text_of_answers (all ++ later) ≡ text_of_answers all ++ text_of_answers later
text_append [] later = refl
text_append (first ∷ all) later =
    ap (λ text. line_of first.answer ++ text) (text_append all later) ∙ sym (append_assoc (line_of first.answer) (text_of_answers all) (text_of_answers later))

module _ {O : Type 0} (Stands : O → Thing → Type 0) (makes : Made → Result O Refusal → Type 0)
    (asks : Part → Request → O → Option Answer → O → Type 0)
    (joins : Part → Joining → O → Option Joined → O → Type 0)
    (meets : Meets Stands makes asks joins) where
  -- ---- a line

  -- a command has the same reason on objects as on the world
  same_reason : (order : Order) (old : Standing O) (world : World) → Pictures Stands old world → reason_of order old.bound ≡ reason_of order (binding_of world.names)
  same_reason (commands.make name made) old world p = refl
  same_reason (commands.join host name joiner) old world p =
      ap (λ binding. against_joining binding (old.bound name)) (p.names host) ∙ ap (λ taken. against_joining (binding_of world.names host) taken) (p.names name)
  same_reason (commands.ask name request) old world p = ap against_asking (p.names name)
  same_reason (commands.cold pipe) old world p = refl

  obeys : (number : ℕ) (order : Order) (old new : Standing O) (world : World) (answer came : Option Answer) → Pictures Stands old world → Executes makes asks joins order old came new
      → answer ≡ Some (unwrap_or came (BadCommand number (reason_of order old.bound)))
      → (finding : Finding) × Comes Stands (or_bad number (reason_of order (binding_of world.names)) (step finding order world)) new answer
  obeys number order old new world answer came p h is =
      let done = executes Stands makes asks joins meets old new world came p order h in (
        done.0,
        record {
          answered = is ∙ ap (λ reason. Some (unwrap_or came (BadCommand number reason))) (same_reason order old world p)
              ∙ ap (λ a. Some (unwrap_or a (BadCommand number (reason_of order (binding_of world.names))))) done.1.answered;
          pictured = done.1.pictured;
        },
      )

  replies_unless : (number : ℕ) (is_comment is_long : Bool) (unread : Reason) (order : Option Order) (old new : Standing O) (world : World) (answer : Option Answer) → Pictures Stands old world
      → RepliesUnless makes asks joins number is_comment is_long unread order old answer new → (finding : Finding) × Comes Stands (reply_unless finding number is_comment is_long unread order world) new answer
  replies_unless number true is_long unread order old new world answer p h = (plain, record { answered = h.0; pictured = pictures_still Stands old new world p h.1 })
  replies_unless number false true unread order old new world answer p h = (plain, record { answered = h.0; pictured = pictures_still Stands old new world p h.1 })
  replies_unless number false false unread None old new world answer p h = (plain, record { answered = h.0; pictured = pictures_still Stands old new world p h.1 })
  replies_unless number false false unread (Some order) old new world answer p h = obeys number order old new world answer h.0 p h.1 h.2

  replies_to : (number size : ℕ) (words : List (List ℕ)) (old new : Standing O) (world : World) (answer : Option Answer) → Pictures Stands old world
      → RepliesTo makes asks joins number size words old answer new → (finding : Finding) × Comes Stands (reply_to finding number size words world) new answer
  replies_to number size [] old new world answer p h = (plain, record { answered = h.0; pictured = pictures_still Stands old new world p h.1 })
  replies_to number size (first ∷ words) old new world answer p h =
      replies_unless number (starts_with_hash first) (nat_lt 1024 size) (against_words first) (command_of first words) old new world answer p h

  replies : (number : ℕ) (line : List ℕ) (old new : Standing O) (world : World) (answer : Option Answer) → Pictures Stands old world
      → Replies makes asks joins number line old answer new → (finding : Finding) × Comes Stands (reply_of finding number line world) new answer
  unfolding Replies reply_of
  replies number line old new world answer p h = replies_to number (length line) (words_of line) old new world answer p h

  -- ---- lines

  pub answers_come : (lines : List (List ℕ)) (number : ℕ) (old new : Standing O) (world : World) (all : List LineAnswer) → Pictures Stands old world
      → Answers makes asks joins number lines old all new → (findings : Findings) × (all ≡ answers_from findings number lines world)
  answers_come [] number old new world all p h = ([], h.0)
  answers_come (line ∷ lines) number old new world all p h =
      let one = replies number line old h.1 world h.0 p h.3 in
      let finding = one.0 in
      let came = reply_of finding number line world in
      let later = answers_come lines (number + 1) h.1 new came.1 h.2 one.1.pictured h.5 in
      let findings = (number, finding) ∷ later.0 in (
        findings,
        h.4 ∙ ap (λ a. answer_at number a ++ h.2) one.1.answered
            ∙ ap (λ rest. answer_at number came.0 ++ rest) (later.1 ∙ sym (before_these later.0 finding number (number + 1) lines came.1 (omega arith)))
            ∙ ap (λ f. answer_at number (reply_of f number line world).0 ++ answers_from findings (number + 1) lines (reply_of f number line world).1) (sym (listed number finding later.0)),
      )

  -- THE ANSWERS OF LINES, of a script that has made nothing before them
  pub answers_by_world : (lines : List (List ℕ)) (all : List LineAnswer) → AnswersLines makes asks joins lines all → (findings : Findings) × (all ≡ answers_of_lines findings lines)
  answers_by_world lines all a = answers_come lines 1 a.start a.end empty_world all (pictures_fresh Stands a.start a.fresh) a.answered
