-- What follows on either engine.
use Rattle.script_words.specs.declared.engine.Engine.{Engine}
use Rattle.script_words.specs.declared.engine.Engine.TheVariants.{Core, Lane}
use Rattle.flow_script.specs.Running.{On}

pub on_each : {A B X Y : Type 0} (engine : Engine) → (A → X) → (B → Y) → On engine A B → On engine X Y
on_each Core one other holds = one holds
on_each Lane one other holds = other holds

pub on_both : {A B X : Type 0} (engine : Engine) → (A → X) → (B → X) → On engine A B → X
on_both Core one other holds = one holds
on_both Lane one other holds = other holds
