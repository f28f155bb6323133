-- Asks of a wait, one after another.
use Rattle.std.proofs.Common.{◌≡◌, ℕ, subst}
use Rattle.std.specs.Prelude.{Option, Some, None, MatchOption}
use Rattle.round_lock.specs.Locking.{Locking}
use Rattle.value_states.specs.declared.round.Round.{Round}
use Rattle.value_states.specs.declared.versioned.Versioned.{Versioned}
use Rattle.value_states.specs.declared.collected.Awaited.{Awaited}
use Rattle.value_states.specs.declared.collected.Awaited.TheVariants as awaited
use Rattle.value_states.specs.declared.collected.Attempt.{Attempt}
use Rattle.value_states.specs.declared.collected.Attempt.TheVariants as attempt
use Rattle.value_states.specs.Watching.{AwaitsNothing, Comes, ComesTo, MissedOn, not_once, once_more}

module _ {T : Type 0} where
  -- after asks that gave nothing come more that gave nothing
  pub missed_on : (v m w : Locking (Versioned T) Round) → MissedOn v m → MissedOn m w → MissedOn v w
  missed_on v m w before (not_once x) = before
  missed_on v m w before (once_more x n y more last) = once_more v n w (missed_on v m n before more) last

  pub nothing_on : (v m w : Locking (Versioned T) Round) → MissedOn v m → AwaitsNothing m w → AwaitsNothing v w
  nothing_on v m w before nothing = (nothing.0, missed_on v m nothing.0 before nothing.1, nothing.2)

  -- asks that gave nothing come before a wait
  pub comes_on : (v m w : Locking (Versioned T) Round) (a : Awaited T) → MissedOn v m → ComesTo m a w → ComesTo v a w
  comes_on v m w (awaited.News guarded) before came = (came.0, missed_on v m came.0 before came.1, came.2)
  comes_on v m w awaited.Stopped before came = nothing_on v m w before came

  pub comes_within : (v m w : Locking (Versioned T) Round) (a : Option (Awaited T)) → MissedOn v m → MatchOption a (AwaitsNothing m w) (λ (x : Awaited T). ComesTo m x w) → MatchOption a (AwaitsNothing v w) (λ (x : Awaited T). ComesTo v x w)
  comes_within v m w None before came = nothing_on v m w before came
  comes_within v m w (Some a) before came = comes_on v m w a before came

  -- asks that gave nothing, and the turn that ends the wait
  pub is_over : (v m w : Locking (Versioned T) Round) (a : Awaited T) → MissedOn v m → Comes m (attempt.Over a) w → ComesTo v a w
  is_over v m w (awaited.News guarded) before came = (m, before, came)
  is_over v m w awaited.Stopped before came = (m, before, came)

  -- one turn more of a wait: the thread sleeps after it
  pub goes_on : (v m w : Locking (Versioned T) Round) (n : ℕ) (turn : Attempt T) → turn ≡ attempt.Asleep n → MissedOn v m → Comes m turn w → MissedOn v w
  goes_on v m w n turn is before came = once_more v m w before (subst (λ (t : Attempt T). Comes m t w) is came)

  -- or the wait ends by it
  pub ends_so : (v m w : Locking (Versioned T) Round) (a : Awaited T) (turn : Attempt T) → turn ≡ attempt.Over a → MissedOn v m → Comes m turn w → ComesTo v a w
  ends_so v m w a turn is before came = is_over v m w a before (subst (λ (t : Attempt T). Comes m t w) is came)
