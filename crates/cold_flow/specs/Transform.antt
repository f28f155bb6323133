-- What `transform` makes of a source.
use Rattle.std.specs.Prelude.{◌++◌}
use Rattle.std.specs.List.{flat_map}
use Rattle.flow_terms.specs.declared.few.Few.{Few}
use Rattle.flow_terms.specs.Few.{values_of}
use Rattle.cold_flow.specs.Trace.{Trace}

-- the answers of g joined in order
abbrev pub transform_trace : {A B E : Type 0} → (A → Few B) → Trace A E → Trace B E
transform_trace g t = (flat_map (λ x. values_of (g x)) t.0, t.1)

-- what is held, and then the answers of g joined in order
abbrev pub held_then : {A B E : Type 0} → (A → Few B) → Few B → Trace A E → Trace B E
held_then g held t = (values_of held ++ flat_map (λ x. values_of (g x)) t.0, t.1)
