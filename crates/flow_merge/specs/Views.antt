-- What contracts name of a flow of `flat_map_concat`. A caller needs to know no more of it.
use Rattle.std.specs.Prelude.{◌≡◌}
use Rattle.cold_flow.specs.declared.apply.Apply as actions
use Rattle.cold_flow.specs.declared.flow.Flow as flows
use Rattle.cold_flow.specs.declared.run.Run as runs
use Rattle.flow_merge.specs.declared.flows.bound.Bound as bounds
use Rattle.flow_merge.specs.declared.flows.flat_map_concat.Concatenated.{Concatenated}

module _ {S F G N A D U B E V : Type 0} {outer : flows.Ghosts S A D U} {outer_run : runs.Ghosts U A D} {inner : flows.Ghosts F B E V}
    {inner_run : runs.Ghosts V B E} {action : actions.Ghosts G A F} {bound : bounds.Ghosts N} where
  -- the flow whose values it answers by inner flows
  abbrev pub outer_of : Concatenated S F G N A D U B E V outer outer_run inner inner_run action bound → S
  outer_of flow = flow.outer

  -- what answers them
  abbrev pub function_of : Concatenated S F G N A D U B E V outer outer_run inner inner_run action bound → G
  function_of flow = flow.function

  -- it was made of these
  abbrev pub IsMadeOf : S → G → Concatenated S F G N A D U B E V outer outer_run inner inner_run action bound → Type 0
  IsMadeOf made_of function flow = (flow.outer ≡ made_of) × (flow.function ≡ function)
