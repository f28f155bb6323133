-- A command that makes one call, and answers what that replied.
use Rattle.std.specs.Prelude.{◌≡◌, Option, Some, None}
use Rattle.script_commands.specs.declared.answer.Answer.{Answer}
use Rattle.script_commands.specs.declared.part.Part.{Part}

-- what a party's joining came to: the answer, and what the party's name is of the object, if anything was made
abbrev pub Joined : Type 0
Joined = Answer × Option Part

module _ {S : Type 0} where
  -- the call was made, and its reply is the answer
  abbrev pub Replied : {R : Type 0} → (S → R → S → Type 0) → (R → Answer) → S → Option Answer → S → Type 0
  Replied {R} call answer_of old answer new = (reply : R) × call old reply new × (answer ≡ Some (answer_of reply))

  -- the call was made, and its reply is the answer, and what the party's name is
  abbrev pub Joins : {R : Type 0} → (S → R → S → Type 0) → (R → Answer) → (R → Option Part) → S → Option Joined → S → Type 0
  Joins {R} call answer_of part_of old joined new = (reply : R) × call old reply new × (joined ≡ Some (answer_of reply, part_of reply))

  -- there is no answer, and nothing changed
  abbrev pub NoAnswer : {A : Type 0} → S → Option A → S → Type 0
  NoAnswer old answer new = (answer ≡ None) × (new ≡ old)
