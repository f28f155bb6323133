use Rattle.std.proofs.Common.{length, set, eqb, Some, ap, sym, refl, subst, ◌∙◌, arith}
use Rattle.std.proofs.lemmas.List.Elements.{All-set}
use Rattle.std.proofs.lemmas.Option.{slice_get_within}
use Rattle.std.specs.List.{list_any}
use Rattle.shared_core.specs.declared.greetings.Greeting.{Greeting}
use Rattle.shared_core.specs.Greetings.{IsLeft}
use Rattle.shared_core.specs.Preludes.{Greets}
use Rattle.shared_core.specs.Queues.{Queued}
use Rattle.shared_core.proofs.Entries.{remove-set}
use Rattle.shared_core.proofs.Handed.{shown, some_left, without_shown, read_there, left_there, greets_last, greets_one}
use Rattle.shared_core.proofs.Ticketing.{still_indexes}
use Rattle.shared_core.proofs.greetings.Greetings.greet_listed.Goals as goal

pub returns-in_err-at-clause-greeted : goal.returns-in_err-at-clause-greeted
returns-in_err-at-clause-greeted g c =
    let n = c.args.number in
    rw c.from_residual.ensures (
      ap (λ (q : Queued _). list_any (λ e. eqb e.0 n) q.values) (sym c.self.view_is)
          ∙ without_shown n c.self.inside.items.items (rw c.deref.ensures.value at c.in_err-at.ensures.none),
      refl,
    )

pub index_mut-requires : goal.index_mut-requires
index_mut-requires g c =
    let found = rw c.deref.ensures.value at c.in_ok-at.ensures.found in
    omega (arith, slice_get_within c.self.inside.items.items c.in_ok-at.at found.0 found.1, c.deref.ensures.len, ap length c.deref.ensures.value)

pub remove-greeting-requires : goal.remove-greeting-requires
remove-greeting-requires g c =
    let found = rw c.deref.ensures.value at c.in_ok-at.ensures.found in
    omega (arith, slice_get_within c.self.inside.items.items c.in_ok-at.at found.0 found.1, c.deref.ensures.len, ap length c.deref.ensures.value)

pub invariant_of-self : goal.invariant_of-self
invariant_of-self g c =
    let at = c.in_ok-at.at in
    let items = c.self.inside.items.items in
    let given : Greeting _ = record c.index_mut.result.now { rest = c.give-value.new.self } in (
      still_indexes IsLeft items c.remove-greeting.new.self.items at (c.remove-greeting.ensures.items ∙ remove-set items at given) c.self.invariant.0,
      omega (arith, c.self.invariant.1, c.remove-greeting.ensures.capacity),
    )

pub invariant_of-self-else-is_empty : goal.invariant_of-self-else-is_empty
invariant_of-self-else-is_empty g c =
    let given : Greeting _ = record c.index_mut.result.now { rest = c.give-value.new.self } in (
      All-set IsLeft c.self.inside.items.items c.in_ok-at.at given
          (some_left c.give-value.new.self.left c.is_empty.result c.is_empty.ensures.1 c.if-is_empty.false) c.self.invariant.0,
      c.self.invariant.1,
    )

pub returns-then-is_empty-clause-greeted : goal.returns-then-is_empty-clause-greeted
returns-then-is_empty-clause-greeted g c =
    let n = c.args.number in
    let at = c.in_ok-at.at in
    let items = c.self.inside.items.items in
    let read = c.index_mut.result.now in
    let value = c.give-value.result in
    let later = c.give-value.new.self in
    let found = rw c.deref.ensures.value at c.in_ok-at.ensures.found in
    let same = read_there items at read found.0 c.index_mut.ensures.value found.1 in
    let left = left_there items at read found.0 c.index_mut.ensures.value found.1 c.self.invariant.0 in
    let removed = c.remove-greeting.ensures.items ∙ remove-set items at (record read { rest = later }) in
    subst (λ (q : Queued _). Greets n q.values value (shown c.remove-greeting.new.self.items)) c.self.view_is
    (subst (λ xs. Greets n (shown items) value (shown xs)) (sym removed)
    (greets_last n at items read (found.1 ∙ ap Some (sym same)) (ap (λ (x : Greeting _). x.number) same ∙ found.2) later value left c.give-value.ensures.left (c.is_empty.ensures.0 c.if-is_empty.true)))

pub returns-else-is_empty-clause-greeted : goal.returns-else-is_empty-clause-greeted
returns-else-is_empty-clause-greeted g c =
    let n = c.args.number in
    let at = c.in_ok-at.at in
    let items = c.self.inside.items.items in
    let read = c.index_mut.result.now in
    let value = c.give-value.result in
    let later = c.give-value.new.self in
    let found = rw c.deref.ensures.value at c.in_ok-at.ensures.found in
    let same = read_there items at read found.0 c.index_mut.ensures.value found.1 in
    let left = left_there items at read found.0 c.index_mut.ensures.value found.1 c.self.invariant.0 in
    let more = some_left later.left c.is_empty.result c.is_empty.ensures.1 c.if-is_empty.false in
    subst (λ (q : Queued _). Greets n q.values value (shown (set items at (record read { rest = later })))) c.self.view_is
    (greets_one n at items read (found.1 ∙ ap Some (sym same)) (ap (λ (x : Greeting _). x.number) same ∙ found.2) later value left c.give-value.ensures.left more)
