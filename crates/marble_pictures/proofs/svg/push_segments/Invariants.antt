use Rattle.std.proofs.Common.{◌≡◌, ◌++◌, drop, string_bytes}
use Rattle.std.specs.List.{flat_map}
use Rattle.marble_pictures.specs.Symbols.{segment_text}
use Rattle.marble_pictures.proofs.svg.push_segments.Given as goal

abbrev pub invariant-loop-segment : goal.invariant-loop-segment
invariant-loop-segment l = string_bytes l.picture ++ flat_map segment_text (drop l.segment-index l.segments) ≡ string_bytes l.fn.picture ++ flat_map segment_text l.segments
