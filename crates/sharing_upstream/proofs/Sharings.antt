-- How a poll comes to its answer and to what it did.
use Rattle.std.proofs.Common.{◌≡◌, refl, ℕ, ◌+◌, ◌<◌, Bool, true, false, List, [], ◌++◌, ◌∷◌, length, Option, Some, None, is_some, arith, length-append, ◌∙◌, ap, subst}
use Rattle.std.specs.Prelude.{IsTrue}
use Rattle.futures.specs.declared.task.Poll.{Poll}
use Rattle.futures.specs.declared.task.Poll.TheVariants.{Ready, Pending}
use Rattle.cold_flow.specs.declared.cause.Cause.{Cause}
use Rattle.cold_flow.specs.declared.cause.Cause.TheVariants.{Finished, Failed, Cancelled, Refused}
use Rattle.cold_flow.specs.declared.event.Event.{Event}
use Rattle.flow_terms.specs.declared.refusal.Refusal.{Refusal}
use Rattle.cold_flow.specs.Trace.{so_far}
use Rattle.cold_flow.specs.Poll.{Traces}
use Rattle.flow_terms.specs.declared.command.Command.{Command}
use Rattle.sharing_upstream.specs.declared.upstream.Course.{Course}
use Rattle.sharing_upstream.specs.declared.upstream.Course.TheVariants.{Idle, Running, Broken}
use Rattle.sharing_upstream.specs.Courses.{Asked, AnsweredPending, GoesOn, is_running, after_end}
use Rattle.sharing_upstream.specs.Destinations.{Steps, AcceptsEach}
use Rattle.sharing_upstream.specs.Sharings.{Takes, Obeys, Shares, Acts}
use Rattle.sharing_upstream.proofs.Courses.{goes_on_value, goes_on_pending, runs_of, ends_after, gave_all}

ended_is_off : (U : Type 0) {E : Type 0} (cause : Cause E) → is_running (after_end {U = U} cause) ≡ false
ended_is_off U Finished = refl
ended_is_off U (Failed fault) = refl
ended_is_off U Cancelled = refl
ended_is_off U (Refused refusal) = refl

pub not_some : {A : Type 0} (o : Option A) → is_some o ≡ false → o ≡ None
not_some None off = refl
not_some (Some x) off = cc

pub one_more : {T : Type 0} (values : List T) (x : T) (n : ℕ) → length values ≡ n → length (values ++ x ∷ []) ≡ n + 1
one_more values x n h = simp length-append (omega arith)

module _ {T S : Type 0} (steps : Steps T S) where
  -- one value more
  pub accepts_more : (before : S) (values : List T) (between : S) (x : T) (after : S)
      → AcceptsEach steps before values between → steps.Accepts between x after → AcceptsEach steps before (values ++ x ∷ []) after
  accepts_more before [] between x after each accepts =
      (after, subst (λ (s : S). steps.Accepts s x after) each accepts, refl)
  accepts_more before (y ∷ values) between x after each accepts =
      (each.0, each.1, accepts_more each.0 values between x after each.2 accepts)

module _ {U T E : Type 0} (may : U → Traces T E) (ended : U → Option (Cause E)) where
  -- where nothing more is given, no run is going
  pub over_is_off : (from to : Course U E) → Asked may ended from (Ready None) to → is_running to ≡ false
  over_is_off Idle to asked = ap is_running asked.1
  over_is_off (Broken cause) to asked = ap is_running asked.1
  over_is_off (Running from) to asked = ap is_running asked.2 ∙ ended_is_off U asked.0

  pub over_unarmed : (from to : Course U E) (P : Type 0) → Asked may ended from (Ready None) to → IsTrue (is_running to) → P
  over_unarmed from to P asked running = let off = over_is_off from to asked in cc

module _ {T S : Type 0} (steps : Steps T S) {U E : Type 0} (may : U → Traces T E) (ended : U → Option (Cause E))
    (polled : U → Poll (Event T E) → U → Type 0) where
  pub takes_end : (from : Course U E) (before : S) (values : List T) (middle to : Course U E) (after : S) → length values < 32
      → GoesOn may ended from values middle → AcceptsEach steps before values after → Asked may ended middle (Ready None) to
      → Takes steps may ended polled from before to after
  takes_end from before values middle to after few goes each asked = Takes.ends values few (ends_after may ended from values middle to goes asked) each

  pub takes_pending : (from : Course U E) (before : S) (values : List T) (middle to : Course U E) (after : S) → length values < 32
      → GoesOn may ended from values middle → AcceptsEach steps before values after → Asked may ended middle Pending to
      → AnsweredPending polled middle to → Takes steps may ended polled from before to after
  takes_pending from before values middle to after few goes each asked answered =
      let runs = runs_of polled middle to answered in
      let goes_was : GoesOn may ended from values (Running runs.0) = subst (λ (c : Course U E). GoesOn may ended from values c) runs.2 goes in
      Takes.is_pending values runs.0 runs.1 few goes_was runs.3 runs.4 (goes_on_pending may ended from values middle to goes asked) each

  pub takes_waiting : (from : Course U E) (before : S) (values : List T) (middle : Course U E) (between : S) (x : T) (to : Course U E) (after : S)
      → length values < 32 → GoesOn may ended from values middle → AcceptsEach steps before values between → Asked may ended middle (Ready (Some x)) to
      → steps.Delays between x after → Takes steps may ended polled from before to after
  takes_waiting from before values middle between x to after few goes each asked delays =
      Takes.last_waits values x between few (goes_on_value may ended from values middle x to goes asked) each delays

  pub takes_refused : ((run : U) → may run (so_far [])) → (from : Course U E) (before : S) (values : List T) (middle : Course U E) (between : S) (x : T)
      (asked_to to : Course U E) (after : S) (refusal : Refusal)
      → length values < 32 → GoesOn may ended from values middle → AcceptsEach steps before values between
      → Asked may ended middle (Ready (Some x)) asked_to
      → steps.Refuses between x refusal after → to ≡ Broken (Refused refusal) → Takes steps may ended polled from before to after
  takes_refused begins from before values middle between x asked_to to after refusal few goes each asked refuses broken =
      Takes.is_refused values x between refusal few
      (gave_all may ended begins from (values ++ x ∷ []) asked_to (goes_on_value may ended from values middle x asked_to goes asked)) each refuses broken

  pub takes_all : (from : Course U E) (before : S) (values : List T) (to : Course U E) (after : S) → length values ≡ 32
      → GoesOn may ended from values to → AcceptsEach steps before values after → Takes steps may ended polled from before to after
  takes_all from before values to after all goes each = Takes.is_full values all goes each

  pub shares_on : (on : Bool) (from : Course U E) (before : S) (to : Course U E) (after : S) → on ≡ true
      → Shares steps may ended polled true from before to after → Shares steps may ended polled on from before to after
  shares_on true from before to after h shares = shares
  shares_on false from before to after h shares = cc

  pub shares_off : (on : Bool) (from : Course U E) (before : S) (to : Course U E) (after : S) → on ≡ false → to ≡ from → after ≡ before
      → Shares steps may ended polled on from before to after
  shares_off true from before to after h same as_before = cc
  shares_off false from before to after h same as_before = (same, as_before)

  pub acts_not : (fault : Option (Cause E)) (new_run : Traces T E) (IsCommand : Option Command → Type 0) (on : Bool)
      (from : Course U E) (before : S) (to : Course U E) (after : S)
      → is_some fault ≡ true → to ≡ from → after ≡ before → Acts steps may ended polled fault new_run IsCommand on from before to after
  acts_not None new_run IsCommand on from before to after h same as_before = let wrong = h in cc
  acts_not (Some cause) new_run IsCommand on from before to after h same as_before = (same, as_before)

  pub acts_so : (fault : Option (Cause E)) (new_run : Traces T E) (IsCommand : Option Command → Type 0) (on : Bool)
      (from : Course U E) (before : S) (to : Course U E) (after : S)
      → is_some fault ≡ false → (command : Option Command) → IsCommand command → (between : Course U E) (middle : S)
      → Obeys steps may ended new_run command from before between middle → Shares steps may ended polled on between middle to after
      → Acts steps may ended polled fault new_run IsCommand on from before to after
  acts_so None new_run IsCommand on from before to after h command is between middle obeys shares = (command, is, (between, middle, obeys, shares))
  acts_so (Some cause) new_run IsCommand on from before to after h command is between middle obeys shares = let wrong = h in cc
