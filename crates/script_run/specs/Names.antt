-- What a table of names has at a name.
use Rattle.std.specs.Prelude.{ℕ, List, Option, Some, None, bytes_eq, if◌then◌else◌}
use Rattle.std.specs.HashMap.{get_by, spare}
use Rattle.script_run.specs.declared.names.Names.{Names}
use Rattle.script_run.specs.declared.binding.Binding.{Binding}

-- what the name of these bytes is bound to
abbrev pub bound_to : Names → List ℕ → Option Binding
bound_to names name = get_by (λ key. bytes_eq name key.now) names.bindings

-- what a name is bound to after this one was bound to what was made, if anything was
abbrev pub bound_over : List ℕ → Option Binding → Option Binding → List ℕ → Option Binding
bound_over name None before other = before
bound_over name (Some binding) before other = if bytes_eq name other then Some binding else before

-- how many more names there is room for
abbrev pub room : Names → ℕ
room names = spare names.bindings
