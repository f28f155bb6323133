-- What a state's sharing set, after each part of a poll.
use Rattle.std.proofs.Common.{◌≡◌, ◌⊎◌, ⊎_elim, inl, inr, refl, sym, subst, ℕ, Bool, true, false, List, [], ◌∷◌, Option, Some, None}
use Rattle.futures.specs.declared.task.Poll.{Poll}
use Rattle.flow_terms.specs.declared.command.Command.{Command}
use Rattle.flow_terms.specs.declared.command.Command.TheVariants.{Start, Stop, StopAndReset}
use Rattle.cold_flow.specs.declared.cause.Cause.{Cause}
use Rattle.cold_flow.specs.declared.event.Event.{Event}
use Rattle.cold_flow.specs.Poll.{Traces}
use Rattle.state_flow.specs.declared.view.View.{View}
use Rattle.state_flow.specs.Calls.{Counts, Sets}
use Rattle.sharing_upstream.specs.declared.upstream.Course.{Course}
use Rattle.sharing_upstream.specs.Courses.{stopped}
use Rattle.sharing_upstream.specs.Destinations.{AcceptsEach}
use Rattle.sharing_upstream.specs.Sharings.{Obeys, Takes, Shares, Acts}
use Rattle.flow_sharing.specs.StateDestinations.{setting}
use Rattle.flow_sharing.specs.Taken.{Took}
use Rattle.flow_sharing.specs.StateShared.{SetsEach, SetsTaken}
use Rattle.flow_sharing.proofs.Taken.{TookOn, took_on, took_last, took_same, took_new, took_none}

module _ {T : Type 0} (initial : T) where
  sets_each : (s : View T) (values : List T) (t : View T) → AcceptsEach (setting initial) s values t → SetsEach s values t
  sets_each s [] t each = each
  sets_each s (x ∷ values) t each = (each.0, each.1, sets_each each.0 values t each.2)

  module _ {E U : Type 0} (may : U → Traces T E) (over : U → Option (Cause E)) (polled : U → Poll (Event T E) → U → Type 0) where
    -- what a part of a poll took, and set
    abbrev Part : Course U E → View T → Course U E → View T → Type 0
    Part from s to t = (taken : List T) × TookOn may from taken to × SetsEach s taken t

    takes : (from : Course U E) (s : View T) (to : Course U E) (t : View T) → Takes (setting initial) may over polled from s to t → Part from s to t
    takes from s to t (Takes.is_full values count goes each) = (values, took_on may over from values to goes, sets_each s values t each)
    takes from s to t (Takes.is_pending values was is few goes_was answered to_is goes each) = (values, took_on may over from values to goes, sets_each s values t each)
    takes from s to t (Takes.ends values few ends each) = (values, took_last may over from values to ends, sets_each s values t each)
    takes from s to t (Takes.last_waits values last between few goes each delays) = absurd delays
    takes from s to t (Takes.is_refused values last between refusal few gave each refuses broken) = absurd refuses

    shares : (on : Bool) (from : Course U E) (s : View T) (to : Course U E) (t : View T) → Shares (setting initial) may over polled on from s to t → Part from s to t
    shares false from s to t did = ([], inr (refl, did.0), did.1)
    shares true from s to t did = ⊎_elim
        (λ still. let no = still.1.0 in cc)
        (λ free. takes from s to t (subst (λ (v : View T). Takes (setting initial) may over polled from v to t) free.1.1 free.2))
        did

    module _ (new_run : Traces T E) where
      -- after a stop nothing is taken
      by_stop : (on : Bool) (from between : Course U E) (old : View T) (count : ℕ) (counted begun : View T) (to : Course U E) (t : View T) → Counts old count counted
          → between ≡ stopped from → (begun ≡ counted) ⊎ Sets counted initial begun → Shares (setting initial) may over polled on between begun to t
          → SetsTaken may new_run initial from old to t
      by_stop on from between old count counted begun to t counts is reset did =
          let part = shares on between begun to t did in
          let off = took_none may from between part.0 to is part.1 in record {
            taken = part.0;
            of_upstream = Took.was_stopped off.0 off.1;
            count = count;
            counted = counted;
            counts = counts;
            begun = begun;
            reset = reset;
            each_once_in_order = part.2;
          }

      obeys : (command : Option Command) (on : Bool) (from between : Course U E) (old : View T) (count : ℕ) (counted begun : View T) (to : Course U E) (t : View T)
          → Counts old count counted → Obeys (setting initial) may over new_run command from counted between begun
          → Shares (setting initial) may over polled on between begun to t → SetsTaken may new_run initial from old to t
      obeys None on from between old count counted begun to t counts obeyed did =
          let part = shares on from begun to t (subst (λ (c : Course U E). Shares (setting initial) may over polled on c begun to t) obeyed.0 did) in record {
            taken = part.0;
            of_upstream = took_same may new_run from part.0 to part.1;
            count = count;
            counted = counted;
            counts = counts;
            begun = begun;
            reset = inl obeyed.1;
            each_once_in_order = part.2;
          }
      obeys (Some Start) on from between old count counted begun to t counts obeyed did =
          let part = shares on between begun to t did in record {
            taken = part.0;
            of_upstream = took_new may over new_run from between part.0 to obeyed.0 part.1;
            count = count;
            counted = counted;
            counts = counts;
            begun = begun;
            reset = inl obeyed.1;
            each_once_in_order = part.2;
          }
      obeys (Some Stop) on from between old count counted begun to t counts obeyed did =
          by_stop on from between old count counted begun to t counts obeyed.0 (inl obeyed.1) did
      obeys (Some StopAndReset) on from between old count counted begun to t counts obeyed did =
          by_stop on from between old count counted begun to t counts obeyed.0
          (inr (subst (λ (v : View T). Sets v initial begun) obeyed.1.1 obeyed.1.2)) did

      -- where it only counted
      pub by_count : (from : Course U E) (old : View T) (count : ℕ) (to : Course U E) (t : View T) → Counts old count t → to ≡ from
          → SetsTaken may new_run initial from old to t
      by_count from old count to t counts same = record {
        taken = [];
        of_upstream = Took.nothing refl same;
        count = count;
        counted = t;
        counts = counts;
        begun = t;
        reset = inl refl;
        each_once_in_order = refl;
      }

      pub acts : (fault : Option (Cause E)) (IsCommand : Option Command → Type 0) (on : Bool) (from : Course U E) (old : View T) (count : ℕ) (counted : View T)
          (to : Course U E) (t : View T) → Counts old count counted → Acts (setting initial) may over polled fault new_run IsCommand on from counted to t
          → SetsTaken may new_run initial from old to t
      acts None IsCommand on from old count counted to t counts did = obeys did.0 on from did.2.0 old count counted did.2.1 to t counts did.2.2 did.2.3
      acts (Some cause) IsCommand on from old count counted to t counts did =
          by_count from old count to t (subst (λ (v : View T). Counts old count v) (sym did.1) counts) did.0
