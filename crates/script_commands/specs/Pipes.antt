-- A pipe: a source and the stages after it.
use Rattle.std.specs.Prelude.{ℕ, List, [], ◌∷◌, Option, Some, None, if◌then◌else◌}
use Rattle.std.specs.List.{list_all, filter_map}
use Rattle.script_commands.specs.declared.pipe.Pipe as declared
use Rattle.script_words.specs.Words.{◌>>=◌}
use Rattle.script_words.specs.Segments.{segments_of, segments_left}
use Rattle.script_commands.specs.Sources.{Origin, origin_in, origin_of}
use Rattle.script_commands.specs.Stages.{Operation, operation_of, is_stage}

pub record Pipe : Type 0 where
  pub origin : Origin
  pub operations : List Operation

-- the pipe that was written, its stages not read yet
abbrev pub pipe_in : declared.Pipe → Pipe
pipe_in pipe = record { origin = origin_in pipe.source; operations = filter_map operation_of (segments_left pipe.stages) }

-- a pipe of these stages, if each of them is one
abbrev pub with_stages : List (List (List ℕ)) → Origin → Option Pipe
with_stages stages origin =
    if list_all is_stage stages then Some (record { origin = origin; operations = filter_map operation_of stages }) else None

abbrev pub pipe_by : List (List (List ℕ)) → Option Pipe
pipe_by [] = None
pipe_by (source ∷ stages) = do
  origin ← origin_of source
  with_stages stages origin

-- the pipe that these words say: a source, and any number of stages, each after a bar
abbrev pub pipe_of : List (List ℕ) → Option Pipe
pipe_of words = pipe_by (segments_of words)
