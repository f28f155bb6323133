-- What each call does to what lies under the lock.
use Rattle.std.specs.Prelude.{◌≡◌, ◌+◌}
use Rattle.value_states.specs.declared.round.Round.{Round}
use Rattle.value_states.specs.declared.round.Round.TheVariants as round
use Rattle.value_states.specs.declared.versioned.Versioned.{Versioned}

module _ {T : Type 0} where
  -- a new state has its first value
  abbrev pub IsFirst : Versioned T → Type 0
  IsFirst s = s.version ≡ 0

  -- a read leaves all as it was; a write counts one version more, whatever the value; who is given the value is given this version
  abbrev pub Does : Versioned T → Round → Versioned T → Type 0
  Does s round.Read t = t ≡ s
  Does s round.Write t = t.version ≡ s.version + 1
  Does s (round.Give version) t = (t ≡ s) × (version ≡ s.version)
