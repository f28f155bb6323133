-- What is so on an engine.
use Rattle.script_words.specs.declared.engine.Engine.{Engine}
use Rattle.script_words.specs.declared.engine.Engine.TheVariants.{Core, Lane}

-- the one with the engine `core`, the other with `lane`
abbrev pub On : Engine → Type 0 → Type 0 → Type 0
On Core core lane = core
On Lane core lane = lane
