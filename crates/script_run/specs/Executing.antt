-- What a command does: the call that it makes of the object that its name stands for, what that call replied, and what changed.
use Rattle.std.specs.Prelude.{◌≡◌, ℕ, List, [], ◌∷◌, ◌++◌, length, set, slice_get, Option, Some, None, Result, Ok, Err, Bool}
use Rattle.std.specs.Option.{option_map}
use Rattle.flow_terms.specs.declared.refusal.Refusal.{Refusal}
use Rattle.script_commands.specs.declared.answer.Answer.{Answer}
use Rattle.script_commands.specs.declared.answer.Answer.TheVariants as answers
use Rattle.script_commands.specs.declared.part.Part.{Part}
use Rattle.script_commands.specs.declared.part.Part.TheVariants.{Whole}
use Rattle.script_commands.specs.declared.reason.Reason.{Reason}
use Rattle.script_commands.specs.declared.reason.Reason.TheVariants as reasons
use Rattle.script_commands.specs.declared.request.Request.{Request}
use Rattle.script_commands.specs.Commands.{Order, Made, Joining}
use Rattle.script_commands.specs.Commands as commands
use Rattle.script_commands.specs.Pipes.{Pipe}
use Rattle.script_commands.specs.Piping.{pipe_answer}
use Rattle.script_run.specs.declared.binding.Binding.{Binding}
use Rattle.script_run.specs.Standings.{Standing, Binds, KeepsNames, Stays, part_of}

-- what a party's joining came to: the answer, and what the party's name is of the object, if anything was made
abbrev pub Joined : Type 0
Joined = Answer × Option Part

abbrev pub answer_in : Option Joined → Option Answer
answer_in joined = option_map (λ j. j.0) joined

abbrev pub part_in : Option Joined → Option Part
part_in None = None
part_in (Some joined) = joined.1

module _ {O : Type 0} where
  -- there is no answer, and nothing changed
  abbrev pub NoAnswer : Standing O → Option Answer → Standing O → Type 0
  NoAnswer old answer new = (answer ≡ None) × Stays old new

  -- what making replied is answered: what was made is the last of all, and the name stands for it; or nothing changed
  abbrev pub TellsMaking : List ℕ → Result O Refusal → Standing O → Option Answer → Standing O → Type 0
  TellsMaking name (Ok object) old answer new =
      (answer ≡ Some answers.Ok) × Binds old new name (Some (part_of (length old.objects) Whole)) × (new.objects ≡ old.objects ++ object ∷ [])
  TellsMaking name (Err refusal) old answer new = (answer ≡ Some (answers.Refused refusal)) × Stays old new

-- ---- why a command has no answer, where it has none

-- a question, by what its name stands for
abbrev pub against_asking : Option Binding → Reason
against_asking None = reasons.Unbound
against_asking (Some binding) = reasons.OtherKind

-- a joining, by what the host's name stands for, and the party's
abbrev pub against_joining : Option Binding → Option Binding → Reason
against_joining None taken = reasons.Unbound
against_joining (Some binding) (Some taken) = reasons.Bound
against_joining (Some binding) None = reasons.OtherKind

-- THE REASON, by what names stand for. A making has no answer only where its name is bound, and a pipe always has one
abbrev pub reason_of : Order → (List ℕ → Option Binding) → Reason
reason_of (commands.make name made) bound = reasons.Bound
reason_of (commands.join host name joining) bound = against_joining (bound host) (bound name)
reason_of (commands.ask name request) bound = against_asking (bound name)
reason_of (commands.cold pipe) bound = reasons.OtherKind

-- What the calls on an object do (`ScriptObject` of script_commands): making, a command to a part, and a party's joining a part
module _ {O : Type 0} (makes : Made → Result O Refusal → Type 0)
    (asks : Part → Request → O → Option Answer → O → Type 0)
    (joins : Part → Joining → O → Option Joined → O → Type 0) where
  -- ---- a making, by what its name stands for: it is made once, where the name is free

  abbrev pub MakesFor : List ℕ → Made → Option Binding → Standing O → Option Answer → Standing O → Type 0
  MakesFor name made (Some binding) old answer new = NoAnswer old answer new
  MakesFor name made None old answer new = (reply : Result O Refusal) × makes made reply × TellsMaking name reply old answer new

  -- ---- a question

  -- the object with this index was asked, it alone changed, and its answer is the answer
  abbrev pub AsksObject : ℕ → Part → Request → Option O → Standing O → Option Answer → Standing O → Type 0
  AsksObject index part request None old answer new = NoAnswer old answer new
  AsksObject index part request (Some before) old answer new =
      (after : O) × asks part request before answer after × KeepsNames old new × (new.objects ≡ set old.objects index after)

  -- by what the name stands for
  abbrev pub AsksOf : Request → Option Binding → Standing O → Option Answer → Standing O → Type 0
  AsksOf request None old answer new = NoAnswer old answer new
  AsksOf request (Some binding) old answer new =
      AsksObject binding.object_index binding.part request (slice_get old.objects binding.object_index) old answer new

  -- ---- a joining

  -- a party joined the object with this index, which alone changed; the answer is the object's, and the name stands for the part
  -- that it says
  abbrev pub JoinsObject : List ℕ → ℕ → Part → Joining → Option O → Standing O → Option Answer → Standing O → Type 0
  JoinsObject name index part joining None old answer new = NoAnswer old answer new
  JoinsObject name index part joining (Some before) old answer new =
      (reply : Option Joined) × (after : O) × joins part joining before reply after × (answer ≡ answer_in reply)
      × Binds old new name (option_map (part_of index) (part_in reply)) × (new.objects ≡ set old.objects index after)

  -- by what the host's name stands for, and the party's, which has to be free
  abbrev pub JoinsAt : List ℕ → Joining → Option Binding → Option Binding → Standing O → Option Answer → Standing O → Type 0
  JoinsAt name joining None taken old answer new = NoAnswer old answer new
  JoinsAt name joining (Some binding) (Some taken) old answer new = NoAnswer old answer new
  JoinsAt name joining (Some binding) None old answer new =
      JoinsObject name binding.object_index binding.part joining (slice_get old.objects binding.object_index) old answer new

  -- ---- a pipe: it is collected whole, and nothing changed

  abbrev pub Collects : Pipe → Standing O → Option Answer → Standing O → Type 0
  Collects pipe old answer new = (refused : Bool) × (answer ≡ Some (pipe_answer refused pipe)) × Stays old new

  -- WHAT A COMMAND DOES AND ANSWERS; nothing where a name stands in its way or stands for what doesn't know the command
  abbrev pub Executes : Order → Standing O → Option Answer → Standing O → Type 0
  Executes (commands.make name made) old answer new = MakesFor name made (old.bound name) old answer new
  Executes (commands.join host name joining) old answer new = JoinsAt name joining (old.bound host) (old.bound name) old answer new
  Executes (commands.ask name request) old answer new = AsksOf request (old.bound name) old answer new
  Executes (commands.cold pipe) old answer new = Collects pipe old answer new
