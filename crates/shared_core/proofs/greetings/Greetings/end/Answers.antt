use Rattle.std.proofs.Common.{inl, eqb, length, ap, sym, refl, subst, ◌∙◌, arith}
use Rattle.std.proofs.lemmas.Option.{slice_get_within}
use Rattle.std.specs.List.{list_any}
use Rattle.shared_core.specs.Greetings.{IsLeft}
use Rattle.shared_core.specs.Preludes.{EndsGreeting}
use Rattle.shared_core.specs.Queues.{Queued}
use Rattle.shared_core.proofs.Handed.{shown, without_shown, ends_at}
use Rattle.shared_core.proofs.Ticketing.{still_indexes}
use Rattle.shared_core.proofs.greetings.Greetings.end.Goals as goal

pub returns-in_default-clause-ended : goal.returns-in_default-clause-ended
returns-in_default-clause-ended g c =
    let n = c.args.number in
    inl (
      ap (λ (q : Queued _). list_any (λ e. eqb e.0 n) q.values) (sym c.self.view_is)
          ∙ without_shown n c.self.inside.items.items (rw c.deref.ensures.value at c.in_default.ensures.none),
      refl,
    )

pub remove-greeting-requires : goal.remove-greeting-requires
remove-greeting-requires g c =
    let found = rw c.deref.ensures.value at c.in-Some.ensures.found in
    omega (arith, slice_get_within c.self.inside.items.items c.in-Some.at found.0 found.1, c.deref.ensures.len, ap length c.deref.ensures.value)

pub invariant_of-self : goal.invariant_of-self
invariant_of-self g c = (
  still_indexes IsLeft c.self.inside.items.items c.remove-greeting.new.self.items c.in-Some.at c.remove-greeting.ensures.items c.self.invariant.0,
  omega (arith, c.self.invariant.1, c.remove-greeting.ensures.capacity),
)

pub returns-clause-ended : goal.returns-clause-ended
returns-clause-ended g c =
    let n = c.args.number in
    let items = c.self.inside.items.items in
    let found = rw c.deref.ensures.value at c.in-Some.ensures.found in
    subst (λ (q : Queued _). EndsGreeting n q.values (shown c.remove-greeting.new.self.items)) c.self.view_is
    (subst (λ xs. EndsGreeting n (shown items) (shown xs)) (sym c.remove-greeting.ensures.items) (ends_at n c.in-Some.at items found.0 found.1 found.2))

pub returns-in_default-clause-limit : goal.returns-in_default-clause-limit
returns-in_default-clause-limit g c = refl

pub returns-clause-limit : goal.returns-clause-limit
returns-clause-limit g c = ap (λ (q : Queued _). q.limit) c.self.view_is
