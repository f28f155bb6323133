use Rattle.std.proofs.Common.{inl, ◌≡◌, ℕ, ◌+◌, ◌-◌, List, [], ◌∷◌, ◌++◌, Result, Err, IfErr, length, map, vec_capacity, refl, sym, ap, subst, ◌∙◌, arith, length-append}
use Rattle.std.proofs.lemmas.List.{append-nil, length-map}
use Rattle.std.proofs.lemmas.Result.{err_from_is_err_and}
use Rattle.flow_terms.specs.declared.refusal.Refusal.{Refusal}
use Rattle.flow_terms.specs.declared.refusal.Refusal.TheVariants.{NoMemory}
use Rattle.shared_lane.specs.declared.reader.Taken.TheVariants.{Value}
use Rattle.shared_flow.specs.Blocks.{LookedAll, MissedAll}
use Rattle.shared_flow.specs.Looks.{by_none}
use Rattle.shared_flow.specs.Parties.{received}
use Rattle.shared_flow.proofs.Received.{with_one}
use Rattle.shared_flow.proofs.Receiving.{has_room_at_once, has_room_since}
use Rattle.shared_flow.proofs.Takes.{got_after, looked_count, missed_all, not_answered, only_next_then, room_after}
use Rattle.shared_flow.proofs.Waiting.{only_next}
use Rattle.shared_flow.proofs.subscription.Subscription.next_all_accepted.Goals as goal

pub returns-in-Value-clause-rounds : goal.returns-in-Value-clause-rounds
returns-in-Value-clause-rounds g c = only_next _ _ _ _ _ refl (by_none c.args.self.now.party) c.look_for_all.ensures.rounds

pub returns-in-Value-clause-has : goal.returns-in-Value-clause-has
returns-in-Value-clause-has g c = c.look_for_all.ensures.has

pub returns-in-Value-clause-taken : goal.returns-in-Value-clause-taken
returns-in-Value-clause-taken g c =
    let look = c.in-Value.ensures.looked in
    let words = look.0 in
    let took = look.2.1 in
    let out = c.args.out.now in
    let space = c.requires.space in (
      map g.T.Word.read_as words,
      look.1,
      sym took.5 ∙ sym (length-map words g.T.Word.read_as),
      omega (arith, took.6, took.7, space),
      inl (words, refl, subst (λ (k : ℕ). LookedAll c.args.self.now.reader (vec_capacity out - length out.items) (Value k) words c.look_for_all.new.self.reader) (sym took.5) look.2),
    )

pub returns-in-Value-clause-room : goal.returns-in-Value-clause-room
returns-in-Value-clause-room g c = has_room_at_once c.args.self.now c.look_for_all.new.self (c.look_for_all.ensures.room _ c.in-Value.is)

pub returns-in_err-value : goal.returns-in_err-value
returns-in_err-value g c = let look = c.look_for_all.ensures in let wait = c.in_err-value.ensures in let p = err_from_is_err_and c.from_residual.result c.from_residual.ensures.1 in let e : Refusal = c.in_err-value.field-0.0 in let read = g.T.Word.read_as in
    let old = c.args.self.now in let new = c.wait_for_next.new.self in let out = c.args.out.now in let room : ℕ = vec_capacity out - length out.items in
    let none = missed_all old.reader c.look_for_all.new.self.reader room c.look_for_all.result look.looked.0 c.in_default.not-Value look.looked.2 in
    let result_is : Err e ≡ c.from_residual.result = ap Err (sym p.2) ∙ sym p.1 in record {
      has = (look.has.0, look.has.1, ap (received read) wait.nothing.1 ∙ look.has.2);
      prelude = wait.prelude ∙ look.prelude;
      same = (wait.same.0 ∙ look.same.0, wait.same.1 ∙ look.same.1);
      rounds = only_next_then _ _ _ _ _ look.same.0 (only_next _ _ _ _ _ refl (by_none old.party) look.rounds) wait.rounds;
      taken = not_answered c.from_residual.result e _ result_is;
      room = not_answered c.from_residual.result e _ result_is;
      nothing = subst (λ (answer : Result ℕ Refusal). IfErr answer (λ refusal. (refusal ≡ NoMemory) × (c.look_for_all.new.out.items ≡ out.items) × MissedAll old.reader room new.reader)) result_is
          (wait.nothing.0, look.looked.1 ∙ (ap (λ (ws : List ℕ). out.items ++ map read ws) none.0 ∙ append-nil out.items), subst (λ s. MissedAll old.reader room s.reader) (sym wait.nothing.1) none.1);
      capacity = look.capacity;
    }

pub returns : goal.returns
returns g c = let look = c.look_for_all.ensures in let wait = c.in_ok-value.ensures in let push = c.push_reserved.ensures in let more = c.look_for_all-more.ensures in let read = g.T.Word.read_as in let old = c.args.self.now in let out = c.args.out.now in let put = c.push_reserved.new.self in
    let room : ℕ = vec_capacity out - length out.items in let left : ℕ = vec_capacity put - length put.items in let v = c.in_ok-value.value in let words : List ℕ = more.looked.0 in let asked = c.requires.space in
    let none = missed_all old.reader c.look_for_all.new.self.reader room c.look_for_all.result look.looked.0 c.in_default.not-Value look.looked.2 in
    let first : c.look_for_all.new.out.items ≡ out.items = look.looked.1 ∙ (ap (λ (ws : List ℕ). out.items ++ map read ws) none.0 ∙ append-nil out.items) in
    let long : length put.items ≡ length out.items + 1 = ap length push.items ∙ (length-append c.look_for_all.new.out.items (v ∷ []) ∙ ap (λ (l : List _). length l + 1) first) in
    let capacity : vec_capacity put ≡ vec_capacity out = push.capacity ∙ look.capacity in
    let got = got_after read old.reader c.look_for_all.new.self.reader c.wait_for_next.new.self.reader c.look_for_all-more.new.self.reader room left out.items c.look_for_all.new.out.items put.items c.look_for_all-more.new.out.items
    c.look_for_all.result look.looked.0 v c.look_for_all-more.result words c.in_default.not-Value look.looked.2 look.looked.1 wait.value push.items more.looked.2 more.looked.1 (omega arith) in
    let count = length-map words read in let k = looked_count c.wait_for_next.new.self.reader c.look_for_all-more.new.self.reader left c.look_for_all-more.result words more.looked.2 in let told = c.taken_count.ensures in
    let waited = c.wait_for_next.new.self in record {
      has = (
        look.has.0 ++ v ∷ more.has.0,
        more.has.1 ∙ ap (λ l. l ++ more.has.0) (push.items ∙ ap (λ l. l ++ v ∷ []) look.has.1) ∙ with_one out.items look.has.0 more.has.0 v,
        more.has.2 ∙ ap (λ l. l ++ more.has.0) (wait.has ∙ ap (λ l. l ++ v ∷ []) look.has.2) ∙ with_one (received read old) look.has.0 more.has.0 v,
      );
      prelude = more.prelude ∙ (wait.prelude ∙ look.prelude);
      same = (more.same.0 ∙ (wait.same.0 ∙ look.same.0), more.same.1 ∙ (wait.same.1 ∙ look.same.1));
      rounds = only_next _ _ _ _ _ (wait.same.0 ∙ look.same.0) (only_next_then _ _ _ _ _ look.same.0 (only_next _ _ _ _ _ refl (by_none old.party) look.rounds) wait.rounds) more.rounds;
      taken = (v ∷ map read words, got.0, omega arith, omega arith, got.1);
      room = room_after c.look_for_all-more.result old waited c.look_for_all-more.new.self (wait.same.0 ∙ look.same.0)
          (only_next_then _ _ _ _ _ look.same.0 (only_next _ _ _ _ _ refl (by_none old.party) look.rounds) wait.rounds)
          (has_room_since old c.look_for_all.new.self waited (look.missed c.in_default.not-Value) wait.room) more.room more.missed left words more.looked.2;
      nothing = tt;
      capacity = more.capacity ∙ capacity;
    }
