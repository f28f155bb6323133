-- What a subscription passed: the numbers from its start on, in order and once.
use Rattle.std.proofs.Common.{◌≡◌, ◌≢◌, ℕ, Option, None, ◌+◌, ◌-◌, ◌<◌, ◌≤◌, Some, List, [], ◌∷◌, ◌++◌, length, slice_get, get_or, unwrap_or, refl, sym, ap, ◌∙◌, subst, arith, append_assoc, append-nil}
use Rattle.std.specs.List.{range_with_len}
use Rattle.flow_terms.specs.declared.policy.Policy.TheVariants as policy
use Rattle.round_lock.specs.Locking.{Locking}
use Rattle.value_flows.specs.declared.round.Round.{Round}
use Rattle.value_flows.specs.declared.round.Round.TheVariants as round
use Rattle.value_flows.specs.declared.ring.Ring.{Ring}
use Rattle.value_flows.specs.Accepted.{accepted_by, accepted_in, IsLatest}
use Rattle.value_flows.specs.Does.{IsKept, moved, oldest_of}
use Rattle.value_flows.specs.Cursors.{Reaches}
use Rattle.value_flows.specs.Calls.{accepted, Holds, holding, giving, Opens, after_call}
use Rattle.value_flows.specs.Keeping.{Fits, KeepsTo, standing, stands}
use Rattle.value_flows.specs.Receiving.{all_by, begun_by, passed_by, Ends, HasPassed, Keeps, Gives, Tells, FindsNone, LeavesIt, Takes}
use Rattle.value_flows.proofs.Lists.{holds_at, is_there, length-range, range-append}
use Rattle.value_flows.proofs.Histories.{accepted_prefix, accepted_stays, counted, oldest_is, start_within, value_at}
use Rattle.value_flows.proofs.Calling.{gave, same_values}

all_more : (did : Round → List ℕ) (calls : List Round) (r : Round) → all_by did (calls ++ r ∷ []) ≡ all_by did calls ++ did r
all_more did [] r = append-nil (did r)
all_more did (s ∷ calls) r = ap (λ (l : List ℕ). did s ++ l) (all_more did calls r) ∙ sym (append_assoc (did s) (all_by did calls) (did r))

all_stay : (did : Round → List ℕ) (calls : List Round) (r : Round) → did r ≡ [] → all_by did (calls ++ r ∷ []) ≡ all_by did calls
all_stay did calls r none = all_more did calls r ∙ ap (λ (l : List ℕ). all_by did calls ++ l) none ∙ append-nil (all_by did calls)

keeps_push : (at : Option (ℕ × ℕ)) (calls : List Round) (r : Round) → KeepsTo at calls → Fits (stands at calls) r → KeepsTo at (calls ++ r ∷ [])
keeps_push at [] r keeps fits = (fits, tt)
keeps_push at (s ∷ calls) r keeps fits = (keeps.0, keeps_push (standing at s) calls r keeps.1 fits)

pub stands_push : (at : Option (ℕ × ℕ)) (calls : List Round) (r : Round) → stands at (calls ++ r ∷ []) ≡ standing (stands at calls) r
stands_push at [] r = refl
stands_push at (s ∷ calls) r = stands_push (standing at s) calls r

-- a call that passed so many more
passed_on : (own : List Round) (r : Round) (place n k m : ℕ) → begun_by r ≡ [] → Fits (Some (place, n)) r → standing (Some (place, n)) r ≡ Some (place, m) → passed_by r ≡ range_with_len n k → n + k ≡ m → HasPassed own place n → HasPassed (own ++ r ∷ []) place m
passed_on own r place n k m none fits goes is sum h =
    let low = h.reached in
    let split : (n - h.start) + k ≡ m - h.start = omega (arith, low, sum) in
    let from : h.start + (n - h.start) ≡ n = omega (arith, low) in record {
      start = h.start;
      begun = all_stay begun_by own r none ∙ h.begun;
      reached = omega (arith, low, sum);
      passed =
          all_more passed_by own r
          ∙ ap (λ (l : List ℕ). all_by passed_by own ++ l) is
          ∙ ap (λ (l : List ℕ). l ++ range_with_len n k) h.passed
          ∙ ap (λ (a : ℕ). range_with_len h.start (n - h.start) ++ range_with_len a k) (sym from)
          ∙ sym (range-append h.start (n - h.start) k)
          ∙ ap (range_with_len h.start) split;
      keeps_to = keeps_push None own r h.keeps_to (subst (λ o. Fits o r) (sym h.at) fits);
      at = stands_push None own r ∙ ap (λ o. standing o r) h.at ∙ goes;
    }

-- who began, and made no other call
passed_first : (own : List Round) (place start : ℕ) → own ≡ [] → HasPassed (own ++ round.Begin place start ∷ []) place start
passed_first own place start none =
    let nothing : 0 ≡ start - start = omega arith in
    let first : HasPassed (round.Begin place start ∷ []) place start = record {
      start = start;
      begun = refl;
      reached = omega arith;
      passed = ap (range_with_len start) nothing;
      keeps_to = (refl, tt);
      at = refl;
    } in
    subst (λ (l : List Round). HasPassed (l ++ round.Begin place start ∷ []) place start) (sym none) first

-- there is one next number
pub passed_once : (own : List Round) (p q a b : ℕ) → HasPassed own p a → HasPassed own q b → a ≡ b
passed_once own p q a b h k =
    let one : h.start ≡ k.start = ap (λ (l : List ℕ). get_or l 0 0) (sym h.begun ∙ k.begun) in
    let as_many = sym (ap length h.passed ∙ length-range h.start (a - h.start)) ∙ ap length k.passed ∙ length-range k.start (b - k.start) in
    let low = h.reached in
    let low_too = k.reached in
    omega (arith, one, as_many, low, low_too)

module _ {T : Type 0} where
  -- who takes the lock keeps what it knew
  pub keeps_taken : (before taken : Locking (Ring T) Round) (ring : Ring T) (place next : ℕ) → Keeps before place next → Holds before ring taken → Keeps taken place next
  keeps_taken before taken ring place next keeps has =
      let le = accepted_prefix taken.log.seen before.log.seen has.finds.seen in
      let low = keeps.within in
      let held : Keeps (holding ring taken.log.seen before) place next = record { passed = keeps.passed; within = omega (arith, le, low) } in
      subst (λ (o : Locking (Ring T) Round). Keeps o place next) (sym has.only) held

  -- and goes on by what its call passed
  keeps_called : (taken after : Locking (Ring T) Round) (left : Ring T) (call : Round) (place n k m : ℕ) → begun_by call ≡ [] → Fits (Some (place, n)) call → standing (Some (place, n)) call ≡ Some (place, m) → passed_by call ≡ range_with_len n k → accepted_by call left ≡ [] → n + k ≡ m → m ≤ length (accepted taken) → Keeps taken place n → after ≡ giving call left taken → Keeps after place m
  keeps_called taken after left call place n k m none fits goes is adds sum within keeps given =
      let gone_on : Keeps (giving call left taken) place m = record {
        passed = passed_on taken.log.own call place n k m none fits goes is sum keeps.passed;
        within = subst (λ (l : List T). m ≤ length l) (sym (accepted_stays taken.log.seen (taken.pass, call, left) adds)) within;
      } in
      subst (λ (o : Locking (Ring T) Round). Keeps o place m) (sym given) gone_on

  -- who looked, and passed nothing
  pub keeps_looked : (taken after : Locking (Ring T) Round) (ring : Ring T) (place next : ℕ) → Keeps taken place next → after ≡ giving round.Look ring taken → Keeps after place next
  keeps_looked taken after ring place next keeps given = keeps_called taken after ring round.Look place next 0 next refl tt refl refl refl (omega arith) keeps.within keeps given

  -- who began, by its first call
  pub keeps_opened : (fresh after : Locking (Ring T) Round) (place start : ℕ) → fresh.log.own ≡ [] → Opens fresh place start after → Keeps after place start
  keeps_opened fresh after place start none opens =
      let left : HasPassed (after_call opens.calls (round.Begin place start) (moved place (Some start) opens.ring) fresh).log.own place start = passed_first fresh.log.own place start none in
      let low : start ≤ length (accepted_in opens.calls) = subst (λ (n : ℕ). n ≤ length (accepted_in opens.calls)) (sym opens.start_is) (start_within (accepted_in opens.calls) opens.ring opens.finds.latest) in record {
        passed = subst (λ (o : Locking (Ring T) Round). HasPassed o.log.own place start) (sym opens.only) left;
        within = subst (λ (l : List T). start ≤ length l) (sym opens.same) low;
      }

  -- a value that is kept is there, and the lock is taken for it
  pub takes : (before taken : Locking (Ring T) Round) (ring : Ring T) (place next : ℕ) → Keeps before place next → Holds before ring taken → IsKept ring next → (value : T) × Takes before ring value taken
  takes before taken ring place next keeps has kept =
      let count = counted (accepted_in taken.log.seen) ring has.finds.latest in
      let low = kept.0 in
      let high = kept.1 in
      let got = is_there ring.values.items (next - oldest_of ring) (omega (arith, count, low, high)) in
      (got.0, record { place = place; number = next; holds = has; next = keeps.passed; kept = kept; value_is = got.1 })

  -- the number of what the lock was taken for
  next_is : (before taken : Locking (Ring T) Round) (ring : Ring T) (value : T) (place next : ℕ) → Keeps taken place next → (takes : Takes before ring value taken) → next ≡ takes.number
  next_is before taken ring value place next keeps takes =
      let own : taken.log.own ≡ before.log.own = ap (λ (o : Locking (Ring T) Round). o.log.own) takes.holds.only in
      passed_once before.log.own place takes.place next takes.number (subst (λ (l : List Round). HasPassed l place next) own keeps.passed) takes.next

  before_passed : (before taken : Locking (Ring T) Round) (ring : Ring T) (value : T) (place next : ℕ) → Keeps taken place next → Takes before ring value taken → HasPassed before.log.own place next
  before_passed before taken ring value place next keeps takes =
      let own : taken.log.own ≡ before.log.own = ap (λ (o : Locking (Ring T) Round). o.log.own) takes.holds.only in
      subst (λ (l : List Round). HasPassed l place next) own keeps.passed

  pub kept_is : (before taken : Locking (Ring T) Round) (ring : Ring T) (value : T) (place next : ℕ) → Keeps taken place next → Takes before ring value taken → IsKept ring next
  kept_is before taken ring value place next keeps takes = subst (IsKept ring) (sym (next_is before taken ring value place next keeps takes)) takes.kept

  -- what is found under the number is the value that the lock was taken for
  pub value_is : (before taken : Locking (Ring T) Round) (ring : Ring T) (value found : T) (place next : ℕ) → Keeps taken place next → Takes before ring value taken → slice_get ring.values.items (next - oldest_of ring) ≡ Some found → found ≡ value
  value_is before taken ring value found place next keeps takes got =
      let same = next_is before taken ring value place next keeps takes in
      let is = subst (λ (n : ℕ). slice_get ring.values.items (n - oldest_of ring) ≡ Some value) (sym same) takes.value_is in
      ap (λ o. unwrap_or o value) (sym got ∙ is)

  found_is : (before taken : Locking (Ring T) Round) (ring : Ring T) (value : T) (place next : ℕ) → Keeps taken place next → Takes before ring value taken → slice_get (accepted_in taken.log.seen) next ≡ Some value
  found_is before taken ring value place next keeps takes =
      let same = next_is before taken ring value place next keeps takes in
      let is = subst (λ (n : ℕ). slice_get ring.values.items (n - oldest_of ring) ≡ Some value) (sym same) takes.value_is in
      sym (value_at (accepted_in taken.log.seen) ring next takes.holds.finds.latest (kept_is before taken ring value place next keeps takes)) ∙ is

  pub keeps_gave : (before taken after : Locking (Ring T) Round) (ring : Ring T) (value : T) (place next : ℕ) → Keeps taken place next → Takes before ring value taken → after ≡ giving (round.Give place next) (moved place (Some (next + 1)) ring) taken → Keeps after place (next + 1)
  keeps_gave before taken after ring value place next keeps takes given =
      let high = (kept_is before taken ring value place next keeps takes).1 in
      let number = takes.holds.finds.latest.number in
      keeps_called taken after (moved place (Some (next + 1)) ring) (round.Give place next) place next 1 (next + 1) refl refl refl refl refl refl (omega (arith, high, number)) keeps given

  pub gives : (before taken after : Locking (Ring T) Round) (ring : Ring T) (value : T) (place next : ℕ) → Keeps taken place next → Takes before ring value taken → after ≡ giving (round.Give place next) (moved place (Some (next + 1)) ring) taken → Gives before value after
  gives before taken after ring value place next keeps takes given = record {
    calls = taken.log.seen;
    ring = ring;
    place = place;
    number = next;
    finds = takes.holds.finds;
    next = before_passed before taken ring value place next keeps takes;
    value_is = found_is before taken ring value place next keeps takes;
    only = gave before ring taken after (moved place (Some (next + 1)) ring) (round.Give place next) takes.holds given;
    same = same_values before ring taken after (moved place (Some (next + 1)) ring) (round.Give place next) refl takes.holds given;
    passed = (keeps_gave before taken after ring value place next keeps takes given).passed;
  }

  pub leaves_it : (before taken after : Locking (Ring T) Round) (ring : Ring T) (value : T) (place next : ℕ) → Keeps taken place next → Takes before ring value taken → after ≡ giving round.Look ring taken → LeavesIt before value after
  leaves_it before taken after ring value place next keeps takes given = record {
    calls = taken.log.seen;
    ring = ring;
    place = place;
    number = next;
    finds = takes.holds.finds;
    next = before_passed before taken ring value place next keeps takes;
    value_is = found_is before taken ring value place next keeps takes;
    only = gave before ring taken after ring round.Look takes.holds given;
    same = same_values before ring taken after ring round.Look refl takes.holds given;
  }

  pub keeps_told : (before taken after : Locking (Ring T) Round) (ring : Ring T) (place from count next : ℕ) → Keeps before place from → Holds before ring taken → from + count ≡ oldest_of ring → next ≡ oldest_of ring → after ≡ giving (round.Miss place from count) (moved place (Some (from + count)) ring) taken → Keeps after place next
  keeps_told before taken after ring place from count next keeps has sum is given =
      let number = has.finds.latest.number in
      keeps_called taken after (moved place (Some (from + count)) ring) (round.Miss place from count) place from count next refl refl (ap (λ n. Some (place, n)) (sum ∙ sym is)) refl refl (sum ∙ sym is) (omega (arith, is, number)) (keeps_taken before taken ring place from keeps has) given

  -- but under `DropOldest`, nothing was let go of a place that stands there
  pub drops_none : (ring : Ring T) (accepted : List T) (place from count : ℕ) → IsLatest accepted ring → from + count ≡ oldest_of ring → 0 < count → ring.policy ≢ policy.DropOldest → slice_get ring.cursors place ≢ Some (Some from)
  drops_none ring accepted place from count is sum some keeps stands =
      let oldest = oldest_is accepted ring is in
      let number = is.number in
      let reaches : Reaches ring.next ring.values.capacity (Some from) = holds_at (Reaches ring.next ring.values.capacity) ring.cursors place (Some from) stands (is.listed keeps) in
      absurd (omega (arith, sum, some, oldest, number, reaches))

  pub tells : (before taken after : Locking (Ring T) Round) (ring : Ring T) (place from count : ℕ) → Keeps before place from → Holds before ring taken → from + count ≡ oldest_of ring → 0 < count → after ≡ giving (round.Miss place from count) (moved place (Some (from + count)) ring) taken → Tells before count after
  tells before taken after ring place from count keeps has sum some given =
      let oldest = oldest_is (accepted_in taken.log.seen) ring has.finds.latest in
      let told = keeps_told before taken after ring place from count (oldest_of ring) keeps has sum refl given in record {
        calls = taken.log.seen;
        ring = ring;
        place = place;
        from = from;
        finds = has.finds;
        next = keeps.passed;
        some = some;
        let_go = omega (arith, sum, some, oldest);
        drops = drops_none ring (accepted_in taken.log.seen) place from count has.finds.latest sum some;
        only = gave before ring taken after (moved place (Some (from + count)) ring) (round.Miss place from count) has given;
        same = same_values before ring taken after (moved place (Some (from + count)) ring) (round.Miss place from count) refl has given;
        passed = subst (HasPassed after.log.own place) (sym sum) told.passed;
      }

  pub finds_none : (before taken after : Locking (Ring T) Round) (ring : Ring T) (place next : ℕ) → Keeps before place next → Holds before ring taken → ring.next ≤ next → after ≡ giving round.Look ring taken → FindsNone before after
  finds_none before taken after ring place next keeps has none given =
      let le = accepted_prefix taken.log.seen before.log.seen has.finds.seen in
      let low = keeps.within in
      let number = has.finds.latest.number in
      let all : next ≡ length (accepted_in taken.log.seen) = omega (arith, le, low, number, none) in record {
        calls = taken.log.seen;
        ring = ring;
        finds = has.finds;
        place = place;
        passed_all = subst (HasPassed before.log.own place) all keeps.passed;
        only = gave before ring taken after ring round.Look has given;
        same = same_values before ring taken after ring round.Look refl has given;
      }

  pub ends : (before taken after : Locking (Ring T) Round) (ring : Ring T) (place next : ℕ) → Keeps before place next → Holds before ring taken → after ≡ giving (round.End place) (moved place None ring) taken → Ends before after
  ends before taken after ring place next keeps has given = record {
    calls = taken.log.seen;
    ring = ring;
    place = place;
    next = next;
    finds = has.finds;
    passed = keeps.passed;
    only = gave before ring taken after (moved place None ring) (round.End place) has given;
    same = same_values before ring taken after (moved place None ring) (round.End place) refl has given;
  }
