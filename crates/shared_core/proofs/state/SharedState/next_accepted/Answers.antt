use Rattle.std.proofs.Common.{◌≡◌, ℕ, List, Some, drop, set, length, refl, ap, sym, subst, ◌∙◌, slice_get}
use Rattle.std.proofs.lemmas.Option.{same_Some, slice_get_within}
use Rattle.flow_terms.specs.declared.answers.Next.TheVariants as next
use Rattle.shared_core.specs.Calls.{next_value}
use Rattle.shared_core.specs.Kept.{AreNumbered, IsRingOf, AreTickets}
use Rattle.shared_core.specs.Ringed.{Ringed}
use Rattle.shared_core.specs.Shown.{Seen, Follows}
use Rattle.shared_core.proofs.Bodies.{next_follows-closed, next_follows-none, next_follows-some}
use Rattle.shared_core.proofs.Rings.{live_step}
use Rattle.shared_core.proofs.Rising.{missing_live}
use Rattle.shared_core.proofs.state.SharedState.next_accepted.Goals as goal

pub returns-in_default : goal.returns-in_default
returns-in_default g c missing M shows =
    let now = c.args.self.now in
    let live = ap (λ (seen : Seen _). seen.live) (sym c.self.view_is) in
    next_follows-closed now c.args.id.0 (missing_live now M shows c.args.id.0 c.self.inside.ring.live live c.in_default.ensures.none) M shows

pub receive-requires : goal.receive-requires
receive-requires g c = let found = c.in-Some.ensures.found in slice_get_within c.self.inside.ring.live c.in-Some.at found.0 found.1

pub invariant_of-self : goal.invariant_of-self
invariant_of-self g c =
    let kept = c.self.invariant in
    let here = c.self.inside in
    let received = sym c.receive.ensures.left in
    record {
      numbers = subst (λ (r : Ringed _). AreNumbered here.config r.next_number here.subscribed here.given (length here.waiting.values)) received kept.numbers;
      ring = subst (IsRingOf here.config) received (record { capacity = kept.ring.capacity; replay = kept.ring.replay; limit = kept.ring.limit; subscribers = kept.ring.subscribers });
      tickets = subst (λ (r : Ringed _). AreTickets here.config r.next_number here.accepted here.waiting) received kept.tickets;
      greetings = kept.greetings;
    }

-- the number of the entry that was found
number_is : {T : Type 0} (live : List (ℕ × List T)) (at n m : ℕ) (ps : List T) (e : ℕ × List T) → slice_get live at ≡ Some e → e.0 ≡ n → slice_get live at ≡ Some (m, ps) → m ≡ n
number_is live at n m ps e gets numbered was = ap (λ (d : ℕ × List _). d.0) (same_Some (m, ps) e (sym was ∙ gets)) ∙ numbered

-- what is seen of the ring once the entry at this index received its first value
received_seen : {T : Type 0} (now : Seen T) (at n m : ℕ) (ps : List T) → m ≡ n → record now { live = set now.live at (m, drop 1 ps) } ≡ record now { live = set now.live at (n, drop 1 ps) }
received_seen now at n m ps same = ap (λ k. record now { live = set now.live at (k, drop 1 ps) }) same

pub returns-in_default-receive : goal.returns-in_default-receive
returns-in_default-receive g c missing =
    let now = c.args.self.now in
    let ring = c.self.inside.ring in
    let at = c.in-Some.at in
    let n = c.args.id.0 in
    let found = c.in-Some.ensures.found in
    let took = c.receive.ensures in
    let numbered = number_is ring.live at n took.number took.pending found.0 found.1 found.2 took.was in
    let gets : slice_get now.live at ≡ Some (n, took.pending) = ap (λ (seen : Seen _). slice_get seen.live at) (sym c.self.view_is) ∙ took.was ∙ ap (λ m. Some (m, took.pending)) numbered in
    subst (Follows (next_value n) now next.Nothing)
    (sym (live_step _ now ring c.receive.new.self c.self.view_is refl (λ xs. set xs at (took.number, drop 1 took.pending)) took.left ∙ received_seen now at n took.number took.pending numbered))
    (next_follows-none now at n took.pending gets missing (sym c.in_default-receive.is ∙ took.oldest))

pub returns : goal.returns
returns g c missing =
    let now = c.args.self.now in
    let ring = c.self.inside.ring in
    let at = c.in-Some.at in
    let n = c.args.id.0 in
    let found = c.in-Some.ensures.found in
    let took = c.receive.ensures in
    let numbered = number_is ring.live at n took.number took.pending found.0 found.1 found.2 took.was in
    let gets : slice_get now.live at ≡ Some (n, took.pending) = ap (λ (seen : Seen _). slice_get seen.live at) (sym c.self.view_is) ∙ took.was ∙ ap (λ m. Some (m, took.pending)) numbered in
    next_follows-some now at n took.pending c.in-Some-receive.value _ c.settle.new.self gets missing (sym c.in-Some-receive.is ∙ took.oldest)
    (live_step _ now ring c.receive.new.self c.self.view_is refl (λ xs. set xs at (took.number, drop 1 took.pending)) took.left ∙ received_seen now at n took.number took.pending numbered)
    c.settle.ensures
