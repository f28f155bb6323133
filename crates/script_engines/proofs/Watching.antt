-- The places of a state's collectors, where one is added, asked or taken away.
use Rattle.std.proofs.Common.{◌≡◌, ℕ, false, zero, suc, ◌+◌, ◌-◌, ◌<◌, ◌≤◌, true, List, [], ◌∷◌, ◌++◌, length, set, get_or, map, slice_get, Option, Some, None, is_some, refl, sym, ap, ◌∙◌, subst, arith}
use Rattle.std.proofs.lemmas.Option.{slice_get_past, slice_get-get_or}
use Rattle.std.proofs.Math.Seq.{map-set_same}
use Rattle.state_flow.specs.declared.seat.collecting.SeatCollector.{SeatCollector}
use Rattle.state_flow.specs.Views.{SeatSeen}
use Rattle.state_flow.specs.Calls as seats
use Rattle.flow_terms.specs.declared.answers.Next.TheVariants.{Closed}
use Rattle.script_engines.specs.Keeping.{collecting}
use Rattle.script_engines.specs.Watching.{IsWatch, NextsAt, CancelsAt, next_of}

-- an index that nothing is found at
pub past_end : (index size : ℕ) → (index < size → false ≡ true) → size ≤ index
past_end index size none = grind arith

pub within : (index size count : ℕ) → size ≡ count → index < size → index < count
within index size count same small = omega arith

module _ {A : Type 0} where
  -- one more collector
  one_more : (places : List (Option A)) (place : A) → collecting (map is_some (places ++ (Some place ∷ []))) ≡ suc (collecting (map is_some places))
  one_more [] place = refl
  one_more (None ∷ rest) place = one_more rest place
  one_more (Some first ∷ rest) place = ap suc (one_more rest place)

  none_more : (places : List (Option A)) → collecting (map is_some (places ++ (None ∷ []))) ≡ collecting (map is_some places)
  none_more [] = refl
  none_more (None ∷ rest) = none_more rest
  none_more (Some first ∷ rest) = ap suc (none_more rest)

  less : (x : Option A) (rest : List (Option A)) (index : ℕ) → suc index < length (x ∷ rest) → index < length rest
  less x rest index small = omega arith

  -- a collector was taken away
  one_fewer : (places : List (Option A)) (index : ℕ) (place : A) → index < length places → Some place ≡ get_or places index (Some place) → suc (collecting (map is_some (set places index None))) ≡ collecting (map is_some places)
  one_fewer [] index place small is = absurd (omega arith)
  one_fewer (None ∷ rest) zero place small is = cc
  one_fewer (Some first ∷ rest) zero place small is = refl
  one_fewer (None ∷ rest) (suc index) place small is = one_fewer rest index place (less None rest index small) is
  one_fewer (Some first ∷ rest) (suc index) place small is = ap suc (one_fewer rest index place (less (Some first) rest index small) is)

  -- a collector that was asked collects as before
  still : (places : List (Option A)) (index : ℕ) (place place' : A) (now : Option A) → now ≡ get_or places index now → Some place ≡ now → map is_some (set places index (Some place')) ≡ map is_some places
  still places index place place' now is held = map-set_same is_some places index (Some place') now (ap is_some held ∙ ap is_some is)

  set_same : (xs : List A) (index : ℕ) (x : A) → x ≡ get_or xs index x → set xs index x ≡ xs
  set_same [] index x is = refl
  set_same (y ∷ ys) zero x is = ap (λ first. first ∷ ys) is
  set_same (y ∷ ys) (suc index) x is = ap (λ rest. y ∷ rest) (set_same ys index x is)

abbrev Places : Type 0
Places = List (Option SeatCollector)

-- the seat made a step on the value, or looked how many collect
pub stepped : (seat seat' : SeatSeen ℕ) (places : Places) → IsWatch seat places → seat'.view.share ≡ seat.view.share → seat'.view.runs ≡ seat.view.runs → IsWatch seat' places
stepped seat seat' places watch share runs = record { shares = share ∙ watch.shares; runs = runs ∙ watch.runs }

-- a collector was launched
pub added : (seat seat' : SeatSeen ℕ) (places : Places) (place : SeatCollector) → IsWatch seat places → seat'.view.share ≡ seat.view.share → seat'.view.runs ≡ seat.view.runs + 1 → IsWatch seat' (places ++ (Some place ∷ []))
added seat seat' places place watch share runs =
    let more = one_more places place in
    let all = watch.runs in
    record { shares = share ∙ watch.shares; runs = omega arith }

-- a collector was asked
pub asked : (seat seat' : SeatSeen ℕ) (places : Places) (index : ℕ) (place place' : SeatCollector) (now : Option SeatCollector) → IsWatch seat places → now ≡ get_or places index now → Some place ≡ now → seat'.view.share ≡ seat.view.share → seat'.view.runs ≡ seat.view.runs
    → IsWatch seat' (set places index (Some place'))
asked seat seat' places index place place' now watch is held share runs =
    record { shares = share ∙ watch.shares; runs = runs ∙ (watch.runs ∙ sym (ap collecting (still places index place place' now is held))) }

-- a collector was taken away, which the seat ran
pub runs_one : (seat : SeatSeen ℕ) (places : Places) (index : ℕ) (place : SeatCollector) (now : Option SeatCollector) → IsWatch seat places → index < length places → now ≡ get_or places index now → Some place ≡ now → 0 < seat.view.runs
runs_one seat places index place now watch small is held =
    let fewer = one_fewer places index place small (rw held is) in
    let all = watch.runs in
    omega arith

pub taken_away : (seat seat' : SeatSeen ℕ) (places : Places) (index : ℕ) (place : SeatCollector) (now left : Option SeatCollector) → IsWatch seat places → index < length places → now ≡ get_or places index now → Some place ≡ now → left ≡ None → seat'.view.share ≡ seat.view.share → seat'.view.runs ≡ seat.view.runs - 1
    → IsWatch seat' (set places index left)
taken_away seat seat' places index place now left watch small is held none share runs =
    let fewer = one_fewer places index place small (rw held is) in
    let all = watch.runs in
    rw none (record { shares = share ∙ watch.shares; runs = omega arith })

-- ---- what a call says

-- a collector was asked, and gave what was found
pub nexts : (seat seat' : SeatSeen ℕ) (places : Places) (index : ℕ) (place place' : SeatCollector) (given found : Option ℕ) (now : Option SeatCollector) → index < length places → now ≡ get_or places index now → Some place ≡ now → seat'.flow ≡ seat.flow → given ≡ found → seats.Asks (λ word. word) seat.view place.last given place'.last seat'.view
    → NextsAt (slice_get places index) (record { seat = seat; collectors = places }) index (next_of found) (record { seat = seat'; collectors = set places index (Some place') })
nexts seat seat' places index place place' given found now small is held same gave asks =
    rw (slice_get-get_or places index now small ∙ ap (λ o. Some o) (sym is ∙ sym held)) (place', record { given = found; replied = refl; same_flow = same; asked = subst (λ g. seats.Asks (λ word. word) seat.view place.last g place'.last seat'.view) gave asks }, refl)

-- it had been cancelled
pub closed : (seat : SeatSeen ℕ) (places : Places) (index : ℕ) (now : Option SeatCollector) → index < length places → now ≡ get_or places index now → now ≡ None
    → NextsAt (slice_get places index) (record { seat = seat; collectors = places }) index Closed (record { seat = seat; collectors = set places index now })
closed seat places index now small is none = rw (slice_get-get_or places index now small ∙ ap (λ o. Some o) (sym is ∙ none)) (refl, ap (λ all. record { seat = seat; collectors = all }) (set_same places index now is))

-- it never was
pub never : (seat : SeatSeen ℕ) (places : Places) (index size : ℕ) → size ≡ length places → (index < size → false ≡ true) → NextsAt (slice_get places index) (record { seat = seat; collectors = places }) index Closed (record { seat = seat; collectors = places })
never seat places index size same past =
    let end : size ≤ index = past_end index size past in
    rw (slice_get_past places index (omega arith)) (refl, refl)

-- it ended
pub cancels : (seat seat' : SeatSeen ℕ) (places : Places) (index : ℕ) (place : SeatCollector) (now left : Option SeatCollector) → index < length places → now ≡ get_or places index now → Some place ≡ now → left ≡ None → seats.Cancels seat.view seat'.view → seat'.flow ≡ seat.flow
    → CancelsAt (slice_get places index) (record { seat = seat; collectors = places }) index true (record { seat = seat'; collectors = set places index left })
cancels seat seat' places index place now left small is held none ends same =
    rw (slice_get-get_or places index now small ∙ ap (λ o. Some o) (sym is ∙ sym held)) (refl, same, ends, ap (set places index) none)

-- it had ended
pub ended : (seat : SeatSeen ℕ) (places : Places) (index : ℕ) (now left : Option SeatCollector) → index < length places → now ≡ get_or places index now → None ≡ now → left ≡ None
    → CancelsAt (slice_get places index) (record { seat = seat; collectors = places }) index false (record { seat = seat; collectors = set places index left })
ended seat places index now left small is held none =
    rw (slice_get-get_or places index now small ∙ ap (λ o. Some o) (sym is ∙ sym held)) (refl, ap (λ all. record { seat = seat; collectors = all }) (ap (set places index) (none ∙ held) ∙ set_same places index now is))

-- ---- the last place

pub last_runs : (seat : SeatSeen ℕ) (all places : Places) (last : Option SeatCollector) (place : SeatCollector) → IsWatch seat all → all ≡ places ++ (last ∷ []) → last ≡ Some place → 0 < seat.view.runs
last_runs seat all places last place watch ends is =
    let more = one_more places place in
    let runs : seat.view.runs ≡ collecting (map is_some (places ++ (Some place ∷ []))) = watch.runs ∙ ap (λ xs. collecting (map is_some xs)) (ends ∙ ap (λ o. places ++ (o ∷ [])) is) in
    omega arith

-- the last collector ended
pub last_ended : (seat seat' : SeatSeen ℕ) (all places : Places) (last : Option SeatCollector) (place : SeatCollector) → IsWatch seat all → all ≡ places ++ (last ∷ []) → last ≡ Some place → seat'.view.share ≡ seat.view.share → seat'.view.runs ≡ seat.view.runs - 1 → IsWatch seat' places
last_ended seat seat' all places last place watch ends is share fewer =
    let more = one_more places place in
    let runs : seat.view.runs ≡ collecting (map is_some (places ++ (Some place ∷ []))) = watch.runs ∙ ap (λ xs. collecting (map is_some xs)) (ends ∙ ap (λ o. places ++ (o ∷ [])) is) in
    record { shares = share ∙ watch.shares; runs = omega arith }

-- the last place was empty
pub last_left_out : (seat : SeatSeen ℕ) (all places : Places) (last : Option SeatCollector) → IsWatch seat all → all ≡ places ++ (last ∷ []) → last ≡ None → IsWatch seat places
last_left_out seat all places last watch ends is =
    record { shares = watch.shares; runs = watch.runs ∙ (ap (λ xs. collecting (map is_some xs)) (ends ∙ ap (λ o. places ++ (o ∷ [])) is) ∙ none_more places) }
