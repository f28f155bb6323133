-- The words of lights.
use Rattle.std.specs.Prelude.{◌≡◌, ℕ, zero, suc, refl}
use Rattle.hot_callers.specs.declared.state_calling.Light.{Light}
use Rattle.hot_callers.specs.declared.state_calling.Light.TheVariants.{Off, On}

abbrev pub word_of : Light → ℕ
word_of Off = 0
word_of On = 1

abbrev pub light_of : ℕ → Light
light_of zero = Off
light_of (suc n) = On

pub light_of-word_of : (x : Light) → light_of (word_of x) ≡ x
light_of-word_of Off = refl
light_of-word_of On = refl
