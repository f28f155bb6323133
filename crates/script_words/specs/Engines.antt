-- The engines, and their names.
use Rattle.std.specs.Prelude.{ℕ, List, Option, Some, None, codes, bytes_eq, if◌then◌else◌}
use Rattle.script_words.specs.declared.engine.Engine.{Engine}
use Rattle.script_words.specs.declared.engine.Engine.TheVariants.{Core, Lane}

abbrev pub engine_of : List ℕ → Option Engine
engine_of word =
    if bytes_eq word (codes "core") then Some Core
    else (if bytes_eq word (codes "lane") then Some Lane else None)
