-- What a script has made so far.
use Rattle.std.specs.Prelude.{◌≡◌, ℕ, List, [], Option, None}
use Rattle.script_commands.specs.declared.part.Part.{Part}
use Rattle.script_run.specs.declared.binding.Binding.{Binding}
use Rattle.script_run.specs.declared.runner.Runner.{Runner}
use Rattle.script_run.specs.Names.{bound_to, bound_over}

pub record Standing (O : Type 0) : Type 0 where
  -- what each name stands for
  pub bound : List ℕ → Option Binding
  -- all that was made, in its order
  pub objects : List O

-- how a runner stands
abbrev pub standing : {O M : Type 0} → Runner O M → Standing O
standing runner = record { bound = bound_to runner.names; objects = runner.objects.items }

-- this part of the object with this index
abbrev pub part_of : ℕ → Part → Binding
part_of index part = record { object_index = index; part = part }

module _ {O : Type 0} where
  -- nothing was made, and no name stands for anything
  abbrev pub IsFresh : Standing O → Type 0
  IsFresh start = ((name : List ℕ) → start.bound name ≡ None) × (start.objects ≡ [])

  -- each name stands for what it stood for, but for this one, which stands for what was made, if anything was
  abbrev pub Binds : Standing O → Standing O → List ℕ → Option Binding → Type 0
  Binds old new name made = (other : List ℕ) → new.bound other ≡ bound_over name made (old.bound other) other

  -- each name stands for what it stood for
  abbrev pub KeepsNames : Standing O → Standing O → Type 0
  KeepsNames old new = (other : List ℕ) → new.bound other ≡ old.bound other

  -- nothing changed
  abbrev pub Stays : Standing O → Standing O → Type 0
  Stays old new = KeepsNames old new × (new.objects ≡ old.objects)
