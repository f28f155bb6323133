use Rattle.std.proofs.Common.{◌≡◌, Ok, length}
use Rattle.std.specs.List.{filter_map}
use Rattle.script_commands.specs.Pipes.{pipe_in}
use Rattle.script_commands.specs.Piping.{after_stages, outcome_of, trace_of}
use Rattle.script_words.specs.Segments.{segments_left}
use Rattle.script_commands.specs.Stages.{operation_of}
use Rattle.script_commands.proofs.pipe.Pipe.run.Given as goal

-- the stages that are left, after what was gathered so far, come to what the pipe comes to
abbrev pub invariant-loop-words : goal.invariant-loop-words
invariant-loop-words l = after_stages (filter_map operation_of (segments_left l.stages)) (Ok (trace_of l.gathered)) ≡ outcome_of (pipe_in l.self)

abbrev pub decreases-loop-words : goal.decreases-loop-words
decreases-loop-words l = length (segments_left l.stages)
