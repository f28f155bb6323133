-- Lines, and then more lines.
use Rattle.std.proofs.Common.{◌≡◌, ℕ, ◌+◌, List, [], ◌∷◌, ◌++◌, length, length-append, Option, Result, refl, sym, ap, ◌∙◌, append_assoc, append-nil, arith, subst}
use Rattle.flow_terms.specs.declared.refusal.Refusal.{Refusal}
use Rattle.script_commands.specs.declared.answer.Answer.{Answer}
use Rattle.script_commands.specs.declared.part.Part.{Part}
use Rattle.script_commands.specs.declared.request.Request.{Request}
use Rattle.script_commands.specs.Commands.{Made, Joining}
use Rattle.script_words.specs.Lines.{lines_of}
use Rattle.script_run.specs.declared.line_answer.LineAnswer.{LineAnswer}
use Rattle.script_run.specs.Standings.{Standing, IsFresh}
use Rattle.script_run.specs.Executing.{Joined}
use Rattle.script_run.specs.Replying.{RunState, first_state, answer_at, Replies, Answers, Comes}
use Rattle.script_run.specs.Scripts.{AnswersScript, AnswersFront}

module _ {O : Type 0} (makes : Made → Result O Refusal → Type 0)
    (asks : Part → Request → O → Option Answer → O → Type 0)
    (joins : Part → Joining → O → Option Joined → O → Type 0) where
  answers_more : (m k : ℕ) (xs ys : List (List ℕ)) (all later : List LineAnswer) (old between new : Standing O) → m + length xs ≡ k
      → Answers makes asks joins m xs old all between → Answers makes asks joins k ys between later new → Answers makes asks joins m (xs ++ ys) old (all ++ later) new
  answers_more m k [] ys all later old between new e (none, same) more =
      let index : k ≡ m = omega (arith, e) in
      rw none (rw (index, same) at more)
  answers_more m k (x ∷ xs) ys all later old between new e (answer, next, rest, replies, is, answers) more = (
    answer,
    next,
    rest ++ later,
    replies,
    ap (λ l. l ++ later) is ∙ append_assoc (answer_at m answer) rest later,
    answers_more (m + 1) k xs ys rest later next between new (omega (arith, e)) answers more,
  )

  -- no line was run yet
  pub comes_none : (here : RunState O) → Comes makes asks joins here [] here
  comes_none here = record { passed = []; lines = refl; counted = omega arith; answered = (refl, refl) }

  -- a line was run
  pub comes_line : (old new : RunState O) (line : List ℕ) (answer : Option Answer) → lines_of old.rest ≡ line ∷ lines_of new.rest → new.number ≡ old.number + 1
      → Replies makes asks joins (old.number + 1) line old.stands answer new.stands → Comes makes asks joins old (answer_at (old.number + 1) answer) new
  comes_line old new line answer lines counted replies = record {
    passed = line ∷ [];
    lines = lines;
    counted = counted;
    answered = (answer, new.stands, [], replies, sym (append-nil (answer_at (old.number + 1) answer)), (refl, refl));
  }

  -- some lines were run, and then some more
  pub comes_more : (old between new : RunState O) (all later : List LineAnswer) → Comes makes asks joins old all between → Comes makes asks joins between later new
      → Comes makes asks joins old (all ++ later) new
  comes_more old between new all later p q = record {
    passed = p.passed ++ q.passed;
    lines = p.lines ∙ ap (λ l. p.passed ++ l) q.lines ∙ sym (append_assoc p.passed q.passed (lines_of new.rest));
    counted = (let first : between.number ≡ old.number + length p.passed = p.counted in
        let second : new.number ≡ between.number + length q.passed = q.counted in
        simp length-append (omega (arith, first, second)));
    answered = answers_more (old.number + 1) (between.number + 1) p.passed q.passed all later old.stands between.stands new.stands
        (let first : between.number ≡ old.number + length p.passed = p.counted in omega (arith, first)) p.answered q.answered;
  }

  -- one more line was run, the first of them that may have an answer
  pub next_line : (start old new : RunState O) (line : List ℕ) (answer : Option Answer) → Comes makes asks joins start [] old → lines_of old.rest ≡ line ∷ lines_of new.rest
      → new.number ≡ old.number + 1 → Replies makes asks joins (old.number + 1) line old.stands answer new.stands → Comes makes asks joins start (answer_at (old.number + 1) answer) new
  next_line start old new line answer p lines counted replies =
      comes_more start old new [] (answer_at (old.number + 1) answer) p (comes_line old new line answer lines counted replies)

  -- some lines were run, and then some without an answer
  pub comes_end : (start old new : RunState O) (all : List LineAnswer) → Comes makes asks joins start all old → Comes makes asks joins old [] new → Comes makes asks joins start all new
  comes_end start old new all p q = rw (append-nil all) at (comes_more start old new all [] p q)

  -- the lines so far
  pub front_came : (script : List ℕ) (start : Standing O) (all : List LineAnswer) (now : RunState O) → IsFresh start → Comes makes asks joins (first_state script start) all now
      → AnswersFront makes asks joins script all
  front_came script start all now fresh p = record {
    before = p.passed;
    after = lines_of now.rest;
    lines = p.lines;
    answered = record { start = start; fresh = fresh; end = now.stands; answered = p.answered };
  }

  -- all lines
  pub whole_came : (script : List ℕ) (start : Standing O) (all : List LineAnswer) (now : RunState O) → IsFresh start → Comes makes asks joins (first_state script start) all now
      → lines_of now.rest ≡ [] → AnswersScript makes asks joins script all
  whole_came script start all now fresh p none = record {
    start = start;
    fresh = fresh;
    end = now.stands;
    answered = (let lines : lines_of script ≡ p.passed = p.lines ∙ ap (λ l. p.passed ++ l) none ∙ append-nil p.passed in
        rw lines p.answered);
  }
