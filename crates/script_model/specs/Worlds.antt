-- What the names of a script stand for, and what each command answers and changes.
use Rattle.std.specs.Prelude.{ℕ, List, [], ◌∷◌, ◌++◌, length, set, Option, Some, None, bytes_eq, slice_get, if◌then◌else◌}
use Rattle.std.specs.Option.{option_map}
use Rattle.flow_terms.specs.declared.refusal.Refusal.{Refusal}
use Rattle.script_commands.specs.declared.answer.Answer.{Answer}
use Rattle.script_commands.specs.declared.answer.Answer.TheVariants as answers
use Rattle.script_commands.specs.declared.part.Part.{Part}
use Rattle.script_commands.specs.declared.part.Part.TheVariants.{Whole}
use Rattle.script_commands.specs.declared.request.Request.{Request}
use Rattle.script_commands.specs.Commands.{Order, Made, Joining}
use Rattle.script_commands.specs.Commands as commands
use Rattle.script_commands.specs.Piping.{pipe_answer}
use Rattle.script_run.specs.declared.binding.Binding.{Binding}
use Rattle.script_run.specs.Executing.{Joined, answer_in, part_in}
use Rattle.script_run.specs.Standings.{part_of}
use Rattle.script_model.specs.Findings.{Finding, was_refused}
use Rattle.script_model.specs.Things.{Thing, ask, join, reason_against, refusal_by, thing_of}

abbrev pub Bound : Type 0
Bound = List ℕ × Binding

-- what a script has made so far
pub record World : Type 0 where
  -- each name with what it stands for
  pub names : List Bound
  -- all that was made
  pub things : List Thing

abbrev pub empty_world : World
empty_world = record { names = []; things = [] }

-- what a name stands for
abbrev pub binding_of : List Bound → List ℕ → Option Binding
binding_of [] name = None
binding_of (entry ∷ entries) name = if bytes_eq entry.0 name then Some entry.1 else binding_of entries name

-- a name stands for what was made, if anything was
abbrev pub bound : List ℕ → Option Binding → List Bound → List Bound
bound name None names = names
bound name (Some binding) names = (name, binding) ∷ names

-- an answer, if there is one, and the world after it
abbrev pub Outcome : Type 0
Outcome = Option Answer × World

-- ---- a making, by what its name stands for: it has to be free

abbrev pub made_unless : Option Refusal → List ℕ → Thing → World → Outcome
made_unless (Some refusal) name thing world = (Some (answers.Refused refusal), world)
made_unless None name thing world =
    (Some answers.Ok, record { names = (name, part_of (length world.things) Whole) ∷ world.names; things = world.things ++ thing ∷ [] })

abbrev pub make_for : Finding → List ℕ → Made → Option Binding → World → Outcome
make_for finding name made (Some binding) world = (None, world)
make_for finding name made None world = made_unless (refusal_by (reason_against made) (was_refused finding)) name (thing_of made) world

-- ---- a command to the thing with this index

-- the thing answered so, and stands so now
abbrev pub asked : ℕ → Option Answer × Thing → World → Outcome
asked index came world = (came.0, record world { things = set world.things index came.1 })

abbrev pub ask_thing : Finding → ℕ → Part → Request → Option Thing → World → Outcome
ask_thing finding index part request None world = (None, world)
ask_thing finding index part request (Some thing) world = asked index (ask finding part request thing) world

-- by what the name stands for
abbrev pub ask_for : Finding → Request → Option Binding → World → Outcome
ask_for finding request None world = (None, world)
ask_for finding request (Some binding) world =
    ask_thing finding binding.object_index binding.part request (slice_get world.things binding.object_index) world

-- ---- a party that joins the thing with this index

-- the thing answered so, and stands so now; the party's name stands for what was made, if anything was
abbrev pub joined_by : List ℕ → ℕ → Option Joined × Thing → World → Outcome
joined_by name index came world = (
  answer_in came.0,
  record { names = bound name (option_map (part_of index) (part_in came.0)) world.names; things = set world.things index came.1 },
)

abbrev pub join_thing : Finding → List ℕ → ℕ → Part → Joining → Option Thing → World → Outcome
join_thing finding name index part joining None world = (None, world)
join_thing finding name index part joining (Some thing) world = joined_by name index (join finding part joining thing) world

-- by what the host's name stands for, and the party's, which has to be free
abbrev pub join_for : Finding → List ℕ → Joining → Option Binding → Option Binding → World → Outcome
join_for finding name joining None taken world = (None, world)
join_for finding name joining (Some binding) (Some taken) world = (None, world)
join_for finding name joining (Some binding) None world =
    join_thing finding name binding.object_index binding.part joining (slice_get world.things binding.object_index) world

-- WHAT A COMMAND ANSWERS AND CHANGES; there is no answer where a name stands in its way or stands for what doesn't know the command
abbrev pub step : Finding → Order → World → Outcome
step finding (commands.make name made) world = make_for finding name made (binding_of world.names name) world
step finding (commands.join host name joining) world = join_for finding name joining (binding_of world.names host) (binding_of world.names name) world
step finding (commands.ask name request) world = ask_for finding request (binding_of world.names name) world
step finding (commands.cold pipe) world = (Some (pipe_answer (was_refused finding) pipe), world)
