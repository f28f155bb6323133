use Rattle.std.proofs.Common.{◌≡◌, length}
use Rattle.std.specs.List.{list_all}
use Rattle.script_words.specs.Segments.{segments_left}
use Rattle.script_commands.specs.Stages.{is_stage}
use Rattle.script_commands.proofs.pipe.are_stages.Given as goal

abbrev pub invariant-loop-words : goal.invariant-loop-words
invariant-loop-words l = list_all is_stage (segments_left l.segments) ≡ list_all is_stage (segments_left l.initial.segments)

abbrev pub decreases-loop-words : goal.decreases-loop-words
decreases-loop-words l = length (segments_left l.segments)
