-- Laws of a run that stands, and of questions.
use Rattle.std.specs.Prelude.{◌≡◌, ◌+◌, ◌<◌, ◌≤◌, ◌&&◌, Bool, true, false, IsTrue, [], Option, Some, None, cond, T, refl}
use Rattle.std.specs.Iterator.{Count, IsFinite, size, at_most, count_add}
use Rattle.std.proofs.Common.{subst, inl, inr, arith}
use Rattle.futures.specs.declared.task.Poll.{Poll}
use Rattle.futures.specs.declared.task.Poll.TheVariants.{Ready, Pending}
use Rattle.cold_flow.specs.declared.cause.Cause.{Cause}
use Rattle.cold_flow.specs.declared.cause.Cause.TheVariants.{Finished}
use Rattle.cold_flow.specs.declared.event.Event.{Event}
use Rattle.cold_flow.specs.declared.event.Event.TheVariants.{Value, End}
use Rattle.cold_flow.specs.Trace.{Trace, so_far, ended_by, led_by}
use Rattle.cold_flow.specs.Poll.{Traces, Within, Narrows, Approaches, IsWithinPolls, Unless}
use Rattle.flow_merge.specs.Asking.{Asks}
use Rattle.flow_merge.specs.Concat.{MayStand}
use Rattle.flow_merge.specs.Counting.{IsFewer, with_end, standing_polls}
use Rattle.more_merges.specs.Standing.{IsLetGo, StandsOrLetGo}

-- a run may have given nothing yet, where one stands; else there is nothing more of it
pub standing_begins : {B E R : Type 0} (may : R → Traces B E) → ((r : R) → may r (so_far [])) → (standing : Option R)
    → (t : Trace B E) × MayStand may standing t
standing_begins may each None = (ended_by [] Finished, refl)
standing_begins may each (Some r) = (so_far [], each r)

module _ {R : Type 0} (cancelled : R → R → Type 0) (stopped : R → Bool) where
  -- another stands in place of what stands, or of what stood before that
  pub let_go_later : (first old : Option R) → StandsOrLetGo cancelled stopped first old → IsLetGo cancelled stopped old
      → IsLetGo cancelled stopped first
  let_go_later first old (inl same) gone = subst (IsLetGo cancelled stopped) same gone
  let_go_later first old (inr gone) now = gone

module _ {A E : Type 0} (old new : Traces A E) where
  -- what a question brought is what a poll gives
  pub asks-narrows : (event : Event A E) → Asks old (Ready (Some event)) new → Narrows old (Ready event) new
  asks-narrows (Value v) asked = asked
  asks-narrows (End k) asked = asked

module _ {A E : Type 0} (old mid new : Traces A E) where
  -- a question after one that brought nothing
  pub asks-within : (answer : Poll (Option (Event A E))) → Within old mid → Asks mid answer new → Asks old answer new
  asks-within (Ready (Some (Value v))) within asked = λ t h. within (led_by v t) (asked t h)
  asks-within (Ready (Some (End k))) within asked = within (ended_by [] k) asked
  asks-within (Ready None) within asked = λ t h. within t (asked t h)
  asks-within Pending within asked = λ t h. within t (asked t h)

-- a question to a run that has not ended
pub asks-going : {A E : Type 0} (ended : Option (Cause E)) (old new : Traces A E) (answer : Poll (Option (Event A E))) → ended ≡ None
    → Asks old answer new → Asks (Unless ended old) answer (Unless ended new)
asks-going None old new answer going asked = asked
asks-going (Some k) old new answer going asked = absurd (cc)

-- ---- how many polls are left

both-true : (a b : Bool) → T a → T b → T (cond a b false)
both-true true b h g = g
both-true false b h g = h

both-first : (a b : Bool) → T (cond a b false) → T a
both-first true b h = tt
both-first false b h = elim h [ ]

both-second : (a b : Bool) → T (cond a b false) → T b
both-second true b h = h
both-second false b h = elim h [ ]

-- of a run, with its end
pub fewer_end : (old new : Count) → IsFewer old new → IsFewer (with_end old) (with_end new)
fewer_end old new fewer h = let now = fewer h in (now.0, omega arith)

pub within_end : (old new : Count) → IsWithinPolls old new → IsWithinPolls (with_end old) (with_end new)
within_end old new within h = let now = within h in (now.0, omega arith)

pub none_left : (old : Count) → IsWithinPolls old (at_most 0)
none_left old h = (tt, omega arith)

fewer_within : (old new : Count) → IsFewer old new → IsWithinPolls old new
fewer_within old new fewer h = let now = fewer h in (now.0, omega arith)

pub standing_finite : {R : Type 0} (polls : R → Count) → ((r : R) → IsFinite (polls r)) → (standing : Option R) → IsFinite (standing_polls polls standing)
standing_finite polls each None = tt
standing_finite polls each (Some r) = each r

-- of two
module _ (f g s t : Count) where
  pub both_within : IsWithinPolls f g → IsWithinPolls s t → IsWithinPolls (count_add f s) (count_add g t)
  both_within first second h =
      let a = first (both-first f.bounded s.bounded h) in
      let b = second (both-second f.bounded s.bounded h) in (both-true g.bounded t.bounded a.0 b.0, omega arith)

  pub first_fewer : IsFewer f g → IsWithinPolls s t → IsFewer (count_add f s) (count_add g t)
  first_fewer first second h =
      let a = first (both-first f.bounded s.bounded h) in
      let b = second (both-second f.bounded s.bounded h) in (both-true g.bounded t.bounded a.0 b.0, omega arith)

  pub second_fewer : IsWithinPolls f g → IsFewer s t → IsFewer (count_add f s) (count_add g t)
  second_fewer first second h =
      let a = first (both-first f.bounded s.bounded h) in
      let b = second (both-second f.bounded s.bounded h) in (both-true g.bounded t.bounded a.0 b.0, omega arith)

  pub each_fewer : IsFewer f g → IsFewer s t → IsFewer (count_add f s) (count_add g t)
  each_fewer first second = first_fewer first (fewer_within s t second)

  -- which of the two is the first makes no difference
  fewer_swap : IsFewer (count_add f s) (count_add g t) → IsFewer (count_add s f) (count_add t g)
  fewer_swap fewer h =
      let now = fewer (both-true f.bounded s.bounded (both-second s.bounded f.bounded h) (both-first s.bounded f.bounded h)) in
      (both-true t.bounded g.bounded (both-second g.bounded t.bounded now.0) (both-first g.bounded t.bounded now.0), omega arith)

  pub approaches_swap : {A E : Type 0} (answer : Poll (Event A E)) → Approaches (count_add f s) answer (count_add g t)
      → Approaches (count_add s f) answer (count_add t g)
  approaches_swap (Ready (Value v)) fewer = fewer_swap fewer
  approaches_swap (Ready (End k)) fewer = tt
  approaches_swap Pending fewer = fewer_swap fewer

-- ---- whether both never answer pending

pub and_true : (a b : Bool) → IsTrue a → IsTrue b → IsTrue (a && b)
and_true true b h g = g
and_true false b h g = h

pub and_first : (a b : Bool) → IsTrue (a && b) → IsTrue a
and_first true b h = refl
and_first false b h = h

pub and_second : (a b : Bool) → IsTrue (a && b) → IsTrue b
and_second true b h = h
and_second false b h = absurd (let wrong : false ≡ true = h in cc)
