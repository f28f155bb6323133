use Rattle.std.proofs.Common.{eqb, ◌≡◌, ℕ, ◌+◌, List, length, Some, inl, inr, refl, ap, sym, subst, ◌∙◌, slice_get}
use Rattle.std.proofs.lemmas.Option.{same_Some, slice_get_within}
use Rattle.std.specs.List.{list_any}
use Rattle.shared_core.specs.Calls.{pending_count}
use Rattle.shared_core.specs.Shown.{Seen, rest_of, Reads}
use Rattle.shared_core.proofs.Receiving.{contains_at}
use Rattle.shared_core.proofs.Bodies.{pending_reads-closed, pending_reads}
use Rattle.shared_core.proofs.state.SharedState.pending.Goals as goal

pub returns-in-None-clause-count : goal.returns-in-None-clause-count
returns-in-None-clause-count g c =
    inr (ap (λ (seen : Seen _). list_any (λ e. eqb e.0 c.args.id.0) seen.live) (sym c.self.view_is) ∙ c.in-None.ensures.none, refl)

pub returns-in-None-clause-shows : goal.returns-in-None-clause-shows
returns-in-None-clause-shows g c =
    pending_reads-closed c.args.self.now c.args.id.0
    (ap (λ (seen : Seen _). list_any (λ e. eqb e.0 c.args.id.0) seen.live) (sym c.self.view_is) ∙ c.in-None.ensures.none)

pub pending_at-requires : goal.pending_at-requires
pending_at-requires g c = let found = c.in-Some.ensures.found in slice_get_within c.self.inside.ring.live c.in-Some.at found.0 found.1

-- what is left of its prelude, and what is pending
both_counted : {T : Type 0} (now : Seen T) (n left read : ℕ) (pending : List T) → left ≡ length (rest_of n now.rests) → read ≡ length pending → left + read ≡ length (rest_of n now.rests) + length pending
both_counted now n left read pending of_prelude of_others = ap (λ k. k + read) of_prelude ∙ ap (λ k. length (rest_of n now.rests) + k) of_others

pub returns-in-Some-clause-count : goal.returns-in-Some-clause-count
returns-in-Some-clause-count g c =
    let now = c.args.self.now in
    let left = c.left.ensures.count ∙ ap (λ (seen : Seen _). length (rest_of c.args.id.0 seen.rests)) c.self.view_is in
    let found = c.in-Some.ensures.found in
    let read = c.pending_at.ensures.count in
    let number : read.0.0 ≡ c.args.id.0 = ap (λ (e : ℕ × List _). e.0) (same_Some read.0 found.0 (sym read.1 ∙ found.1)) ∙ found.2 in
    let there = ap (λ (seen : Seen _). slice_get seen.live c.in-Some.at) (sym c.self.view_is) ∙ read.1 ∙ ap (λ n. Some (n, read.0.1)) number in
    inl (read.0.1, contains_at now.live c.in-Some.at (c.args.id.0, read.0.1) there, both_counted now c.args.id.0 c.left.result c.pending_at.result read.0.1 left read.2)

pub returns-in-Some-clause-shows : goal.returns-in-Some-clause-shows
returns-in-Some-clause-shows g c =
    let now = c.args.self.now in
    let left = c.left.ensures.count ∙ ap (λ (seen : Seen _). length (rest_of c.args.id.0 seen.rests)) c.self.view_is in
    let found = c.in-Some.ensures.found in
    let read = c.pending_at.ensures.count in
    let number : read.0.0 ≡ c.args.id.0 = ap (λ (e : ℕ × List _). e.0) (same_Some read.0 found.0 (sym read.1 ∙ found.1)) ∙ found.2 in
    let reads = pending_reads now c.in-Some.at c.args.id.0 read.0 (ap (λ (seen : Seen _). slice_get seen.live c.in-Some.at) (sym c.self.view_is) ∙ read.1) number in
    subst (Reads (pending_count c.args.id.0) now) (sym (both_counted now c.args.id.0 c.left.result c.pending_at.result read.0.1 left read.2)) reads
