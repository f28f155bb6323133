-- Marks are made line by line, by what earlier lines told of names.
use Rattle.std.proofs.Common.{◌≡◌, ◌<◌, ◌+◌, ◌++◌, ◌∷◌, ◌∙◌, if◌then◌else◌, ℕ, Bool, true, false, List, map, drop, length, get_or, Option, Some, sym, ap, ap₂, append_assoc}
use Rattle.std.specs.Prelude.{unwrap_or}
use Rattle.std.specs.Option.{option_map}
use denote.Ref.{Bor}
use Rattle.marble_marks.specs.declared.answered.AnsweredLine.{AnsweredLine}
use Rattle.std.specs.List.{filter_map}
use Rattle.marble_marks.specs.declared.loss.Loss.{Loss}
use Rattle.marble_marks.specs.AnsweredLines.{Asked, asked_in}
use Rattle.marble_marks.specs.Deeds.{Done, done_by}
use Rattle.marble_marks.specs.Numbers.{numbered_in, numbers_of}
use Rattle.marble_marks.specs.Losses.{loss_mark, losses_of}
use Rattle.marble_marks.specs.Homes.{home_after}
use Rattle.marble_marks.specs.Preludes.{left_after}
use Rattle.marble_marks.specs.Marks.{Seen, shown, names_in, marks_at, marks_from, marks_on, marks_of}
use Rattle.marble_marks.proofs.Placing.{drop_step}

-- the flow that is noted of an emission is its own from then on
pub home_noted : (is_its : Bool) (before after : Option (Bor (List ℕ))) (host : Bor (List ℕ)) → after ≡ (if is_its then Some host else before)
    → option_map (λ (h : Bor (List ℕ)). h.now) after ≡ (if is_its then Some host.now else option_map (λ (h : Bor (List ℕ)). h.now) before)
home_noted true before after host given = ap (option_map (λ (h : Bor (List ℕ)). h.now)) given
home_noted false before after host given = ap (option_map (λ (h : Bor (List ℕ)). h.now)) given

-- what is noted as left to a subscription is left to it
pub left_noted : (is_its : Bool) (before after : Option ℕ) (count : ℕ) → after ≡ (if is_its then Some count else before)
    → unwrap_or after 0 ≡ (if is_its then count else unwrap_or before 0)
left_noted true before after count given = ap (λ left. unwrap_or left 0) given
left_noted false before after count given = ap (λ left. unwrap_or left 0) given

-- THE MARKS OF ONE MORE LINE, and those of the lines after it
pub marks_more : (names : List (List ℕ)) (home home_then : List ℕ → Option (List ℕ)) (left left_then : List ℕ → ℕ) (answered_lines : List AnsweredLine) (i : ℕ) (answered : AnsweredLine) (before after whole : List Seen) → i < length answered_lines
    → answered ≡ get_or answered_lines i answered
    → ((name : List ℕ) → home_then name ≡ home_after (home name) name (asked_in answered))
    → ((name : List ℕ) → left_then name ≡ left_after (left name) name (shown (asked_in answered)) (asked_in answered))
    → after ≡ before ++ marks_at names home left (asked_in answered)
    → before ++ marks_from names home left (map asked_in (drop i answered_lines)) ≡ whole
    → after ++ marks_from names home_then left_then (map asked_in (drop (i + 1) answered_lines)) ≡ whole
marks_more names home home_then left left_then answered_lines i answered before after whole within is homes lefts made was =
    let it = asked_in answered in
    let rest = map asked_in (drop (i + 1) answered_lines) in
    let next : drop i answered_lines ≡ answered ∷ drop (i + 1) answered_lines = drop_step answered_lines i answered within ∙ ap (λ t. t ∷ drop (i + 1) answered_lines) (sym is) in
    ap (λ ys. ys ++ marks_from names home_then left_then rest) made
    ∙ append_assoc before (marks_at names home left it) (marks_from names home_then left_then rest)
    ∙ ap₂ (λ h l. before ++ (marks_at names home left it ++ marks_from names h l rest)) (λ k name. homes name k) (λ k name. lefts name k)
    ∙ ap (λ lines. before ++ marks_from names home left (map asked_in lines)) (sym next)
    ∙ was

-- ALL MARKS, as they are added one list after another
pub all_shown : (asked lines : List Asked) (names told_names guest_names : List (List ℕ)) (acts guest_acts : List Done) (losses : List Loss) (first second third : List Seen)
    → lines ≡ asked → names ≡ names_in asked → told_names ≡ names_in asked → guest_names ≡ names_in asked → acts ≡ map done_by asked → guest_acts ≡ map done_by asked
    → first ≡ marks_on names lines → second ≡ first ++ numbered_in told_names acts → third ≡ second ++ filter_map (loss_mark guest_names guest_acts) losses
    → third ≡ (marks_of asked ++ numbers_of asked) ++ losses_of asked losses
all_shown asked lines names told_names guest_names acts guest_acts losses first second third read named told_named guests told brought made numbered lost =
    lost
    ∙ ap (λ marks. marks ++ filter_map (loss_mark guest_names guest_acts) losses)
    (numbered ∙ ap₂ (λ xs ys. xs ++ ys) (made ∙ ap₂ marks_on named read) (ap₂ numbered_in told_named told))
    ∙ ap₂ (λ known done. (marks_of asked ++ numbers_of asked) ++ filter_map (loss_mark known done) losses) guests brought
