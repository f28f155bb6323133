-- What holds of every state that some list of calls leaves.
use Rattle.std.proofs.Common.{◌≡◌, ℕ, zero, suc, ◌+◌, Bool, true, false, cond, ◌&&◌, ◌==◌, List, [], ◌∷◌, ◌++◌, length, map, Some, slice_get, subst, arith, length-append}
use Rattle.std.specs.List.{AllByRecursion}
use Rattle.shared_core.specs.Flow.{cache_start, State, Subscription, Standing, Parameters, empty, accept, greet, receive, lose_oldest, open_next, close_at, change, greeted, received_next, lost_next, pending, capacity}
use Rattle.shared_core.specs.Calls.{reset, Call, after}
use Rattle.shared_core.specs.Story.{IsTold}
use Rattle.shared_core.specs.Accepting.{IsSound}
use Rattle.shared_core.proofs.Pending.{IsTold-later, IsTold-opened, IsTold-greeted, IsTold-received_next, IsTold-lost_next}
use Rattle.shared_core.proofs.Walks.{OverEvents, after_over}

-- ---- lists of subscriptions

pub all_changed : {X : Type 0} (P : X → Type 0) (f : X → X) → ((x : X) → P x → P (f x)) → (k : ℕ) (xs : List X) → AllByRecursion P xs → AllByRecursion P (change k f xs)
all_changed P f keeps k [] all = tt
all_changed P f keeps zero (x ∷ xs) all = (keeps x all.0, all.1)
all_changed P f keeps (suc k) (x ∷ xs) all = (all.0, all_changed P f keeps k xs all.1)

pub all_mapped : {X : Type 0} (P : X → Type 0) (f : X → X) → ((x : X) → P x → P (f x)) → (xs : List X) → AllByRecursion P xs → AllByRecursion P (map f xs)
all_mapped P f keeps [] all = tt
all_mapped P f keeps (x ∷ xs) all = (keeps x all.0, all_mapped P f keeps xs all.1)

pub all_pushed : {X : Type 0} (P : X → Type 0) (xs : List X) (x : X) → AllByRecursion P xs → P x → AllByRecursion P (xs ++ x ∷ [])
all_pushed P [] x all this = (this, tt)
all_pushed P (y ∷ xs) x all this = (all.0, all_pushed P xs x all.1 this)

pub all_weaker : {X : Type 0} (P Q : X → Type 0) → ((x : X) → P x → Q x) → (xs : List X) → AllByRecursion P xs → AllByRecursion Q xs
all_weaker P Q f [] all = tt
all_weaker P Q f (x ∷ xs) all = (f x all.0, all_weaker P Q f xs all.1)

pub all_at : {X : Type 0} (P : X → Type 0) (xs : List X) (k : ℕ) (x : X) → AllByRecursion P xs → slice_get xs k ≡ Some x → P x
all_at P [] k x all gets = absurd (cc)
all_at P (y ∷ xs) zero x all gets = let same : y ≡ x = cc in subst P same all.0
all_at P (y ∷ xs) (suc k) x all gets = all_at P xs k x all.1 gets

told-cond : {T : Type 0} (b : Bool) (total : ℕ) (s : Subscription T) → IsTold total s → IsTold total (cond b (lost_next total s) s)
told-cond true total s told = IsTold-lost_next total s told
told-cond false total s told = told

-- ---- events keep a state sound

module _ {T : Type 0} where
  pub sound-empty : (p : Parameters) → IsSound {T = T} (empty p)
  sound-empty p = record { told = tt; reset = omega arith }

  pub sound-accept : (emitter : ℕ) (v : T) (M : State T) → IsSound M → IsSound (accept emitter v M)
  sound-accept emitter v M sound =
      let longer : length (M.accepted ++ (emitter, v) ∷ []) ≡ length M.accepted + 1 = length-append M.accepted ((emitter, v) ∷ []) in
      record {
        told = all_weaker (IsTold (length M.accepted)) (IsTold (length (M.accepted ++ (emitter, v) ∷ []))) (λ s. IsTold-later (length M.accepted) _ s (omega (arith, longer))) M.subscriptions sound.told;
        reset = omega (arith, longer, sound.reset);
      }

  pub sound-greet : (k : ℕ) (M : State T) → IsSound M → IsSound (greet k M)
  sound-greet k M sound = record {
    told = all_changed (IsTold (length M.accepted)) greeted (IsTold-greeted (length M.accepted)) k M.subscriptions sound.told;
    reset = sound.reset;
  }

  pub sound-receive : (k : ℕ) (M : State T) → IsSound M → IsSound (receive k M)
  sound-receive k M sound = record {
    told = all_changed (IsTold (length M.accepted)) (received_next (length M.accepted)) (IsTold-received_next (length M.accepted)) k M.subscriptions sound.told;
    reset = sound.reset;
  }

  pub sound-lose_oldest : (M : State T) → IsSound M → IsSound (lose_oldest M)
  sound-lose_oldest M sound = record {
    told = all_mapped (IsTold (length M.accepted)) _ (λ s told. told-cond (s.live && (length (pending (length M.accepted) s) == capacity M.parameters)) (length M.accepted) s told) M.subscriptions sound.told;
    reset = sound.reset;
  }

  pub sound-open : (prelude : List T) (M : State T) → IsSound M → IsSound (open_next prelude M)
  sound-open prelude M sound = record {
    told = all_pushed (IsTold (length M.accepted)) M.subscriptions _ sound.told (IsTold-opened prelude (length M.accepted) (cache_start M) (omega (arith, sound.reset)));
    reset = sound.reset;
  }

  pub sound-close : (k : ℕ) (M : State T) → IsSound M → IsSound (close_at k M)
  sound-close k M sound = record {
    told = all_changed (IsTold (length M.accepted)) (λ s. record s { live = false }) (λ s told. record { together = told.together; within = told.within; prelude_first = told.prelude_first }) k M.subscriptions sound.told;
    reset = sound.reset;
  }

  -- tickets are no part of it
  pub sound-tickets : (M : State T) (tickets : List (Standing T)) → IsSound M → IsSound (record M { tickets = tickets })
  sound-tickets M tickets sound = record { told = sound.told; reset = sound.reset }

  pub sound-reset : (M : State T) → IsSound M → IsSound (reset M)
  sound-reset M sound = record { told = sound.told; reset = omega arith }

  sound-events : OverEvents {T = T} (λ M N. IsSound M → IsSound N)
  sound-events = record {
    quiet = record {
      same = λ M sound. sound;
      then = λ first second sound. second (first sound);
      accepts = λ emitter v M _ sound. sound-accept emitter v M sound;
      pushes = λ emitter v M _ sound. sound-accept emitter v (lose_oldest M) (sound-lose_oldest M sound);
      opens = sound-open;
      closes = sound-close;
      tickets = sound-tickets;
    };
    greets = sound-greet;
    receives = sound-receive;
    resets = sound-reset;
  }

  pub sound-after : (calls : List (Call T)) (M : State T) → IsSound M → IsSound (after calls M)
  sound-after = after_over sound-events
