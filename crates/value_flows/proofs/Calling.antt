-- What a call under the lock comes to.
use Rattle.std.proofs.Common.{◌≡◌, ◌≢◌, ℕ, ◌+◌, ◌≤◌, Option, Some, None, slice_get, List, [], ◌∷◌, ◌++◌, length, refl, sym, ap, ◌∙◌, subst}
use Rattle.std.specs.Prelude.{is_none}
use Rattle.std.specs.List.{position}
use Rattle.round_lock.specs.Locking.{Locking}
use Rattle.round_lock.specs.History.{Saw}
use Rattle.flow_terms.specs.declared.policy.Policy.{Policy}
use Rattle.flow_terms.specs.declared.policy.Policy.TheVariants as policy
use Rattle.value_flows.specs.declared.round.Round.{Round}
use Rattle.value_flows.specs.declared.round.Round.TheVariants as round
use Rattle.value_flows.specs.declared.ring.Ring.{Ring}
use Rattle.value_flows.specs.Does.{IsFirst, Does, HaveRoom, cache_start, moved, with_value}
use Rattle.value_flows.specs.Accepted.{accepted_in, accepted_by, IsLatest}
use Rattle.value_flows.specs.Calls.{accepted, Finds, Holds, holding, giving, after_call, Accepts, FindsFull, Makes, Opens, Refuses}
use Rattle.value_flows.proofs.Histories.{accepted_more, accepted_stays, counted, left_latest, newest_is}

module _ {T : Type 0} where
  pub holds : (before taken : Locking (Ring T) Round) (ring : Ring T) → taken ≡ holding ring taken.log.seen before → Saw IsFirst Does before.pass before.log ring taken.log.seen → Holds before ring taken
  holds before taken ring took saw = record {
    finds = record {
      seen = saw.seen_on;
      own = saw.own_is;
      latest = left_latest saw.made taken.log.seen ring saw.after;
      taken_in = saw.taken_in;
    };
    only = took;
  }

  pub held_is : (before : Locking (Ring T) Round) (ring : Ring T) (taken : Locking (Ring T) Round) → Holds before ring taken → taken.log.held ≡ Some ring
  held_is before ring taken has = ap (λ (o : Locking (Ring T) Round). o.log.held) has.only

  pub count_within : (before : Locking (Ring T) Round) (ring : Ring T) (taken : Locking (Ring T) Round) → Holds before ring taken → length ring.values.items ≤ ring.next
  count_within before ring taken has = counted (accepted_in taken.log.seen) ring has.finds.latest

  -- taken, and given back
  pub gave : (before : Locking (Ring T) Round) (ring : Ring T) (taken after : Locking (Ring T) Round) (left : Ring T) (call : Round) → Holds before ring taken → after ≡ giving call left taken → after ≡ after_call taken.log.seen call left before
  gave before ring taken after left call has given = given ∙ ap (giving call left) has.only

  -- by a call that had the flow accept nothing
  pub same_values : (before : Locking (Ring T) Round) (ring : Ring T) (taken after : Locking (Ring T) Round) (left : Ring T) (call : Round) → accepted_by call left ≡ [] → Holds before ring taken → after ≡ giving call left taken → accepted after ≡ accepted_in taken.log.seen
  same_values before ring taken after left call none has given = ap accepted (gave before ring taken after left call has given) ∙ accepted_stays taken.log.seen (before.pass, call, left) none

  pub accepts : (before : Locking (Ring T) Round) (ring : Ring T) (taken after : Locking (Ring T) Round) (value : T) → (ring.policy ≢ policy.DropOldest → HaveRoom ring) → Holds before ring taken → after ≡ giving round.Emit (with_value value ring) taken → Accepts before ring.next value after
  accepts before ring taken after value room has given =
      let left = with_value value ring in
      let only = gave before ring taken after left round.Emit has given in record {
        calls = taken.log.seen;
        ring = ring;
        finds = has.finds;
        number_is = has.finds.latest.number;
        room = room;
        only = only;
        joins =
            ap accepted only
            ∙ accepted_more taken.log.seen (before.pass, round.Emit, left)
            ∙ ap (λ (l : List T). accepted_in taken.log.seen ++ l) (newest_is (accepted_in taken.log.seen) ring value has.finds.latest);
      }

  pub refuses : (before : Locking (Ring T) Round) (ring : Ring T) (taken after : Locking (Ring T) Round) (p : Policy) → ring.policy ≡ p → ¬ HaveRoom ring → Holds before ring taken → after ≡ giving round.Look ring taken → Refuses p before after
  refuses before ring taken after p is none has given = record {
    calls = taken.log.seen;
    ring = ring;
    finds = has.finds;
    policy_is = is;
    no_room = none;
    only = gave before ring taken after ring round.Look has given;
    same = same_values before ring taken after ring round.Look refl has given;
  }

  pub finds_full : (before : Locking (Ring T) Round) (ring : Ring T) (taken after : Locking (Ring T) Round) → position is_none ring.cursors ≡ None → Holds before ring taken → after ≡ giving round.Look ring taken → FindsFull before after
  finds_full before ring taken after none has given = record {
    calls = taken.log.seen;
    ring = ring;
    finds = has.finds;
    none_free = none;
    only = gave before ring taken after ring round.Look has given;
    same = same_values before ring taken after ring round.Look refl has given;
  }

  pub opens : (before : Locking (Ring T) Round) (ring : Ring T) (taken after : Locking (Ring T) Round) (place start : ℕ) → start ≡ cache_start ring → slice_get ring.cursors place ≡ Some None → Holds before ring taken → after ≡ giving (round.Begin place start) (moved place (Some start) ring) taken → Opens before place start after
  opens before ring taken after place start is free has given = record {
    calls = taken.log.seen;
    ring = ring;
    finds = has.finds;
    start_is = is;
    was_free = free;
    only = gave before ring taken after (moved place (Some start) ring) (round.Begin place start) has given;
    same = same_values before ring taken after (moved place (Some start) ring) (round.Begin place start) refl has given;
  }

  pub forgets : (before now : Locking (Ring T) Round) → before ≡ now → (ring : Ring T) (taken after : Locking (Ring T) Round) → Holds before ring taken → after ≡ giving round.Forget (record ring { forgotten = ring.next }) taken → Makes round.Forget (λ (r : Ring T). record r { forgotten = r.next }) now after
  forgets before now is ring taken after has given =
      let left : Ring T = record ring { forgotten = ring.next } in
      let made : Makes round.Forget (λ (r : Ring T). record r { forgotten = r.next }) before after = record {
        calls = taken.log.seen;
        ring = ring;
        finds = has.finds;
        only = gave before ring taken after left round.Forget has given;
        same = same_values before ring taken after left round.Forget refl has given;
      } in
      subst (λ (o : Locking (Ring T) Round). Makes round.Forget (λ (r : Ring T). record r { forgotten = r.next }) o after) is made
