-- The live subscriptions of a flow.
use Rattle.std.proofs.Common.{◌≡◌, ◌≤◌, ◌+◌, ◌∙◌, ◌==◌, ◌∷◌, ℕ, Bool, true, false, cond, not, min, List, [], length, drop, if◌then◌else◌, Some, None, refl, sym, ap, subst, arith, add-zero}
use Rattle.std.specs.List.{filter, filter_map, cons_option}
use Rattle.marble_marks.specs.declared.standing.Seat.{Seat}
use Rattle.marble_marks.specs.Standings.{Stand, not_on, free, room_for, accepted_later, settled}

with_or_without : (is_its : Bool) (it : Seat) (kept : List Seat) → cond (not is_its) (it ∷ kept) kept ≡ cons_option (if is_its then None else Some it) kept
with_or_without true it kept = refl
with_or_without false it kept = refl

-- those on other rows are those that aren't on this one
pub others_left : (row : ℕ) (seats : List Seat) → filter (λ it. not (it.row == row)) seats ≡ filter_map (not_on row) seats
others_left row [] = refl
others_left row (it ∷ seats) =
    with_or_without (it.row == row) it (filter (λ other. not (other.row == row)) seats) ∙ ap (cons_option (not_on row it)) (others_left row seats)

-- where nobody waits, nobody is accepted
none_accepted_later : (places accepted most : ℕ) (seats : List Seat) → most ≡ 0 → room_for places accepted most seats ≡ 0
none_accepted_later places accepted most [] none = none
none_accepted_later places accepted most (it ∷ seats) none =
    let fewer : min most (free places accepted it) ≡ 0 = omega (arith, none) in
    none_accepted_later places accepted (min most (free places accepted it)) seats fewer

so_many_accepted_later : (stand : Stand) (count : ℕ) → count ≡ 0 → stand ≡ record stand { accepted = stand.accepted + count; waiting = drop count stand.waiting }
so_many_accepted_later stand count none =
    let same : stand.accepted ≡ stand.accepted + 0 = omega arith in
    subst (λ n. stand ≡ record stand { accepted = stand.accepted + n; waiting = drop n stand.waiting }) (sym none) (ap (λ n. record stand { accepted = n }) same)

pub as_it_stood : (stand : Stand) → length stand.waiting ≡ 0 → stand ≡ settled stand
as_it_stood stand none = so_many_accepted_later stand (accepted_later stand) (none_accepted_later stand.places stand.accepted (length stand.waiting) stand.seats none)
