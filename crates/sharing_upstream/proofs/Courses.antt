-- What an upstream gave, one event after another.
use Rattle.std.proofs.Common.{◌≡◌, refl, sym, subst, List, [], ◌++◌, ◌∷◌, Option, Some, None}
use Rattle.futures.specs.declared.task.Poll.{Poll}
use Rattle.futures.specs.declared.task.Poll.TheVariants.{Ready, Pending}
use Rattle.cold_flow.specs.declared.cause.Cause.{Cause}
use Rattle.cold_flow.specs.declared.event.Event.{Event}
use Rattle.cold_flow.specs.Trace.{Trace, so_far}
use Rattle.cold_flow.specs.Poll.{Traces, Within, After}
use Rattle.cold_flow.specs.Gather.{Gathered}
use Rattle.cold_flow.specs.GatherLaws.{gathers_value, gathers_end, gathers_so_far, gathers_within}
use Rattle.sharing_upstream.specs.declared.upstream.Course.{Course}
use Rattle.sharing_upstream.specs.declared.upstream.Course.TheVariants.{Idle, Running, Broken}
use Rattle.sharing_upstream.specs.Courses.{Asked, AnsweredPending, GoesOn, Ends, GaveAll, Gave, GaveNothing}

module _ {U T E : Type 0} (may : U → Traces T E) (ended : U → Option (Cause E)) where
  -- no event yet
  pub goes_on_none : (from : Course U E) → GoesOn may ended from [] from
  goes_on_none Idle = (refl, refl)
  goes_on_none (Broken cause) = (refl, refl)
  goes_on_none (Running from) = (from, refl, λ t h. let P : Trace T E → Type 0 = may from in subst P (sym h.is) h.came)

  gave_run : (from : U) (values : List T) (between : U) (x : T) (to : Course U E)
      → Within (may from) (Gathered values (may between)) → Gave may ended between x to → GoesOn may ended (Running from) (values ++ x ∷ []) to
  gave_run from values between x Idle within gave = absurd gave
  gave_run from values between x (Broken cause) within gave = absurd gave
  gave_run from values between x (Running to) within gave =
      (to, refl, λ t h. within t (gathers_value values (values ++ x ∷ []) (may between) (may to) x gave.0 refl t h))

  waited_run : (from : U) (values : List T) (between : U) (to : Course U E)
      → Within (may from) (Gathered values (may between)) → GaveNothing may ended between to → GoesOn may ended (Running from) values to
  waited_run from values between Idle within waited = absurd waited
  waited_run from values between (Broken cause) within waited = absurd waited
  waited_run from values between (Running to) within waited =
      (to, refl, λ t h. within t (gathers_within values (may between) (may to) waited.0 t h))

  -- one value more
  pub goes_on_value : (from : Course U E) (values : List T) (between : Course U E) (x : T) (to : Course U E)
      → GoesOn may ended from values between → Asked may ended between (Ready (Some x)) to → GoesOn may ended from (values ++ x ∷ []) to
  goes_on_value Idle values between x to goes asked =
      let was : Asked may ended Idle (Ready (Some x)) to = subst (λ (m : Course U E). Asked may ended m (Ready (Some x)) to) goes.1 asked in
      let wrong = was.0 in cc
  goes_on_value (Broken cause) values between x to goes asked =
      let was : Asked may ended (Broken cause) (Ready (Some x)) to = subst (λ (m : Course U E). Asked may ended m (Ready (Some x)) to) goes.1 asked in
      let wrong = was.0 in cc
  goes_on_value (Running from) values between x to goes asked =
      gave_run from values goes.0 x to goes.2 (subst (λ (m : Course U E). Asked may ended m (Ready (Some x)) to) goes.1 asked)

  -- a pending answer
  pub goes_on_pending : (from : Course U E) (values : List T) (between to : Course U E)
      → GoesOn may ended from values between → Asked may ended between Pending to → GoesOn may ended from values to
  goes_on_pending Idle values between to goes asked =
      let was : Asked may ended Idle Pending to = subst (λ (m : Course U E). Asked may ended m Pending to) goes.1 asked in
      let wrong = was.0 in cc
  goes_on_pending (Broken cause) values between to goes asked =
      let was : Asked may ended (Broken cause) Pending to = subst (λ (m : Course U E). Asked may ended m Pending to) goes.1 asked in
      let wrong = was.0 in cc
  goes_on_pending (Running from) values between to goes asked =
      waited_run from values goes.0 to goes.2 (subst (λ (m : Course U E). Asked may ended m Pending to) goes.1 asked)

  -- the end
  pub ends_after : (from : Course U E) (values : List T) (between to : Course U E)
      → GoesOn may ended from values between → Asked may ended between (Ready None) to → Ends may ended from values to
  ends_after Idle values between to goes asked =
      let was : Asked may ended Idle (Ready None) to = subst (λ (m : Course U E). Asked may ended m (Ready None) to) goes.1 asked in
      (goes.0, was.1)
  ends_after (Broken cause) values between to goes asked =
      let was : Asked may ended (Broken cause) (Ready None) to = subst (λ (m : Course U E). Asked may ended m (Ready None) to) goes.1 asked in
      (goes.0, was.1)
  ends_after (Running from) values between to goes asked =
      let was : Asked may ended (Running goes.0) (Ready None) to = subst (λ (m : Course U E). Asked may ended m (Ready None) to) goes.1 asked in
      (was.0, goes.2 _ (gathers_end values (may goes.0) was.0 was.1), was.2)

  -- all that was given, where a run may always have given nothing yet
  pub gave_all : ((run : U) → may run (so_far [])) → (from : Course U E) (values : List T) (to : Course U E)
      → GoesOn may ended from values to → GaveAll may ended from values
  gave_all begins Idle values to goes = goes.0
  gave_all begins (Broken cause) values to goes = goes.0
  gave_all begins (Running from) values to goes = goes.2 _ (gathers_so_far values (may goes.0) (begins goes.0))

  -- one event of a run that goes on
  pub asked_value : (from : Course U E) (x : T) (to : Course U E) (was is : U) → from ≡ Running was → to ≡ Running is
      → After (may was) x (may is) → ended is ≡ None → Asked may ended from (Ready (Some x)) to
  asked_value from x to was is was_from is_to after going =
      let gave : Gave may ended was x to = subst (λ (c : Course U E). Gave may ended was x c) (sym is_to) (after, going) in
      subst (λ (c : Course U E). Asked may ended c (Ready (Some x)) to) (sym was_from) gave

  pub asked_pending : (from to : Course U E) (was is : U) → from ≡ Running was → to ≡ Running is
      → Within (may was) (may is) → ended is ≡ None → Asked may ended from Pending to
  asked_pending from to was is was_from is_to within going =
      let waited : GaveNothing may ended was to = subst (λ (c : Course U E). GaveNothing may ended was c) (sym is_to) (within, going) in
      subst (λ (c : Course U E). Asked may ended c Pending to) (sym was_from) waited

-- the runs that a pending answer tells of
pub runs_of : {U T E : Type 0} (polled : U → Poll (Event T E) → U → Type 0) (from to : Course U E) → AnsweredPending polled from to
    → (was : U) × (is : U) × (from ≡ Running was) × polled was Pending is × (to ≡ Running is)
runs_of polled (Running was) (Running is) h = (was, is, refl, h, refl)
runs_of polled (Running was) Idle h = absurd h
runs_of polled (Running was) (Broken cause) h = absurd h
runs_of polled Idle to h = absurd h
runs_of polled (Broken cause) to h = absurd h
