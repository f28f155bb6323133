-- The comparison of lights is that of their words.
use Rattle.std.specs.Prelude.{◌≡◌, ◌↔◌, true, refl}
use denote.Enum.Bare.{sameb}
use Rattle.hot_callers.specs.contracts.state_calling.Light.{the_type}
use Rattle.hot_callers.specs.declared.state_calling.Light.{Light}
use Rattle.hot_callers.specs.declared.state_calling.Light.TheVariants.{Off, On}
use Rattle.hot_callers.specs.Lights.{word_of}

pub tells : (x y : Light) → (sameb the_type x y ≡ true) ↔ (word_of x ≡ word_of y)
tells Off Off = ((λ _. refl), λ _. refl)
tells Off On = ((λ e. cc), λ e. cc)
tells On Off = ((λ e. cc), λ e. cc)
tells On On = ((λ _. refl), λ _. refl)
