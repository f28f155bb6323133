-- What a seat and a collector did in their threads, and what they come to once one has both seats.
use Rattle.std.proofs.Common.{◌≡◌, ◌≢◌, ℕ, zero, suc, ◌+◌, ◌<◌, ◌≤◌, Bool, cond, eqb, List, [], ◌∷◌, ◌++◌, length, Option, Some, None, refl, sym, ap, subst, ◌∙◌, append_assoc, length-append, eq-eqb, ne_eqb, arith}
use Rattle.std.proofs.lemmas.List.{append-nil}
use mathlib.Core.Logic.{dite}
use native.Mathlib.Decide.{ℕ_discrete}
use Rattle.state_flow.specs.declared.view.View.{View}
use Rattle.state_flow.specs.History.{last_of, Picks}
use Rattle.state_flow.specs.Views.{HasAll, SeatSeen}
use Rattle.state_flow.specs.Calls.{Sets, Collects, Ends, TakesBack, TakesBackLast}
use Rattle.state_flow.proofs.Lists.{last_snoc, picks_on}
use Rattle.hot_callers.specs.StateExchanges.{changes, history_of, SetsOn, SetsEach, AsksOn}

-- ---- sets

pub sets_more : (xs : List ℕ) (x : ℕ) (v m w : View ℕ) → SetsOn xs v m → Sets m x w → SetsOn (xs ++ x ∷ []) v w
sets_more [] x v m w is sets = (w, subst (λ (u : View ℕ). Sets u x w) is sets, refl)
sets_more (y ∷ ys) x v m w t sets = (t.0, t.1, sets_more ys x t.0 m w t.2 sets)

keeps : (xs : List ℕ) (v w : View ℕ) → SetsOn xs v w → (w.share ≡ v.share) × (w.seats ≡ v.seats)
keeps [] v w is = (ap (λ (u : View ℕ). u.share) is, ap (λ (u : View ℕ). u.seats) is)
keeps (x ∷ xs) v w t = let rest = keeps xs t.0 w t.2 in let only = t.1.one_step.only in (rest.0 ∙ ap (λ (u : View ℕ). u.share) only, rest.1 ∙ ap (λ (u : View ℕ). u.seats) only)

-- the history grew at least by what was written
grew : (xs : List ℕ) (v w : View ℕ) → SetsOn xs v w → length v.seen + w.writes ≤ length w.seen + v.writes
grew [] v w is = let a = ap (λ (u : View ℕ). u.writes) is in let b = ap (λ (u : View ℕ). length u.seen) is in omega arith
grew (x ∷ xs) v w t =
    let rest = grew xs t.0 w t.2 in
    let on = t.1.extends.seen in
    let found = ap length on.1 ∙ length-append v.seen on.0 in
    let wrote = t.1.wrote in
    omega arith

none_more : (xs : List ℕ) → length xs ≡ 0 → xs ≡ []
none_more [] e = refl
none_more (x ∷ xs) e = absurd (omega arith)

-- where it grew by that alone, it is what the seat wrote
exact : (xs : List ℕ) (v w : View ℕ) (last : ℕ) → SetsOn xs v w → last_of v.seen ≡ Some last → length w.seen + v.writes ≡ length v.seen + w.writes → w.seen ≡ v.seen ++ changes last xs
exact [] v w last is at size = ap (λ (u : View ℕ). u.seen) is ∙ sym (append-nil v.seen)
exact (x ∷ xs) v w last t at size =
    let m : View ℕ = t.0 in
    let sets : Sets v x m = t.1 in
    let rest = grew xs m w t.2 in
    let on = sets.extends.seen in
    let grown = ap length on.1 ∙ length-append v.seen on.0 in
    let wrote = sets.wrote in
    let no_more : length on.0 ≡ 0 = omega arith in
    let found : sets.found ≡ v.seen = on.1 ∙ (ap (λ (l : List ℕ). v.seen ++ l) (none_more on.0 no_more) ∙ append-nil v.seen) in
    let size' : length w.seen + m.writes ≡ length m.seen + w.writes = omega arith in
    dite (ℕ_discrete x last)
    (λ e.
    let same : m.seen ≡ v.seen = sets.writes.0 (ap last_of found ∙ (at ∙ ap (λ (n : ℕ). Some n) (sym e))) ∙ found in
    exact xs m w last t.2 (ap last_of same ∙ at) size'
    ∙ (ap (λ (l : List ℕ). l ++ changes last xs) same ∙ ap (λ (b : Bool). v.seen ++ cond b (changes last xs) (x ∷ changes x xs)) (sym (eq-eqb x last e))))
    (λ n.
    let other : last_of sets.found ≢ Some x = λ h. let same : Some last ≡ Some x = sym at ∙ (ap last_of (sym found) ∙ h) in n (sym (same_some last x same)) in
    let one : m.seen ≡ v.seen ++ x ∷ [] = sets.writes.1 other ∙ ap (λ (l : List ℕ). l ++ x ∷ []) found in
    exact xs m w x t.2 (ap last_of one ∙ last_snoc v.seen x) size'
    ∙ (ap (λ (l : List ℕ). l ++ changes x xs) one ∙ (append_assoc v.seen (x ∷ []) (changes x xs) ∙ ap (λ (b : Bool). v.seen ++ cond b (changes last xs) (x ∷ changes x xs)) (sym (ne_eqb x last n)))))
  where
    same_some : (a b : ℕ) → Some a ≡ Some b → a ≡ b
    same_some a b e = cc

-- ---- asks

pub asks_none : (s : SeatSeen ℕ) → AsksOn s s
asks_none s = record { same_flow = refl; share = refl; writes = refl; picks = λ p. p }

pub asks_then : (s t u : SeatSeen ℕ) → AsksOn s t → AsksOn t u → AsksOn s u
asks_then s t u a b = record {
  same_flow = b.same_flow ∙ a.same_flow;
  share = b.share ∙ a.share;
  writes = b.writes ∙ a.writes;
  picks = λ p. b.picks (a.picks p);
}

pub asked : (s t : SeatSeen ℕ) (given : Option ℕ) → t.flow ≡ s.flow → Collects s.view given t.view → AsksOn s t
asked s t given same c = record {
  same_flow = same;
  share = ap (λ (v : View ℕ). v.share) c.only;
  writes = ap (λ (v : View ℕ). v.writes) c.only;
  picks = λ _. c.subsequence;
}

-- ---- both

-- a seat set values and a collector was asked, and then one had both seats, which are all
pub both : (first : ℕ) (values : List ℕ) (v w : View ℕ) (s t : SeatSeen ℕ) (ended all : View ℕ) → v.seen ≡ first ∷ [] → v.writes ≡ 0 → v.share ≡ 1 → v.seats ≡ 2 → SetsOn values v w
    → s.view.writes ≡ 0 → s.view.share ≡ 1 → Picks s.view.collected s.view.seen → AsksOn s t → Ends t.view ended → TakesBack w ended all → TakesBackLast w ended all
    → Picks t.view.collected (history_of first values)
both first values v w s t ended all opens wrote one two sets nothing one' picked asks ends back last =
    let kept = keeps values v w sets in
    let share : all.share ≡ w.share + ended.share = ap (λ (u : View ℕ). u.share) back.one_step.only in
    let share' : ended.share ≡ t.view.share = ap (λ (u : View ℕ). u.share) ends.only in
    let share_s = asks.share in
    let seats : all.seats ≡ w.seats = ap (λ (u : View ℕ). u.seats) back.one_step.only in
    let has_all : HasAll all = omega arith in
    let writes : all.writes ≡ w.writes + ended.writes = ap (λ (u : View ℕ). u.writes) back.one_step.only in
    let writes' : ended.writes ≡ t.view.writes = ap (λ (u : View ℕ). u.writes) ends.only in
    let writes_s = asks.writes in
    let size : length all.seen ≡ all.writes + 1 = (last has_all).0.writes in
    let on = back.extends in
    let longer = ap length on.1 ∙ length-append w.seen on.0 in
    let begun : length v.seen ≡ 1 = ap length opens in
    let more = grew values v w sets in
    let no_more : length on.0 ≡ 0 = omega arith in
    let same : all.seen ≡ w.seen = on.1 ∙ (ap (λ (l : List ℕ). w.seen ++ l) (none_more on.0 no_more) ∙ append-nil w.seen) in
    let history : w.seen ≡ history_of first values = exact values v w first sets (ap last_of opens) (omega arith) ∙ ap (λ (l : List ℕ). l ++ changes first values) opens in
    let seen : ended.seen ≡ t.view.seen = ap (λ (u : View ℕ). u.seen) ends.only in
    subst (Picks t.view.collected) (same ∙ history) (picks_on t.view.collected ended.seen all.seen back.extends_other (subst (Picks t.view.collected) (sym seen) (asks.picks picked)))
