-- Tries of an update, one after another.
use Rattle.std.proofs.Common.{◌≡◌, ℕ, ◌+◌, ◌*◌, List, [], ◌++◌, length, true, false, sym, ◌∙◌, ap, subst, append_assoc, add-zero, arith}
use Rattle.state_flow.specs.declared.view.View.{View}
use Rattle.flow_terms.specs.Lists.{IsPrefix}
use Rattle.state_flow.specs.Views.{stepped_to, writing}
use Rattle.state_flow.specs.Calls.{Extends, Reads, Compares}
use Rattle.state_updates.specs.Updating.{Updates, Missed}

module _ {T : Type 0} where
  prefix_then : (a b c : List T) → IsPrefix a b → IsPrefix b c → IsPrefix a c
  prefix_then a b c p q = (p.0 ++ q.0, q.1 ∙ ap (λ (l : List T). l ++ q.0) p.1 ∙ append_assoc a p.0 q.0)

  extends_on : (before : View T) (b c : List T) → Extends before b → IsPrefix b c → Extends before c
  extends_on before b c e more = record {
    seen = prefix_then before.seen b c e.seen more;
    told = prefix_then before.told b c e.told more;
  }

  -- a seat that made n steps on the value since
  abbrev at : View T → List T → ℕ → List T → ℕ → ℕ → ℕ → View T
  at v seen turn told told_turn writes steps =
      record v { seen = seen; turn = turn; told = told; told_turn = told_turn; writes = writes; steps = steps }

  two_steps : (before mid after : View T) → mid ≡ stepped_to mid.seen mid.turn before → after ≡ stepped_to after.seen after.turn (writing after.writes mid)
      → after ≡ at before after.seen after.turn [] 0 after.writes (before.steps + 2)
  two_steps before mid after first second =
      let steps : before.steps + 1 + 1 ≡ before.steps + 2 = omega arith in
      second ∙ ap (λ (v : View T). stepped_to after.seen after.turn (writing after.writes v)) first
      ∙ ap (λ (n : ℕ). at before after.seen after.turn [] 0 after.writes n) steps

  same_writes : (before mid : View T) → mid ≡ stepped_to mid.seen mid.turn before → mid.writes ≡ before.writes
  same_writes before mid first = ap (λ (v : View T). v.writes) first

  -- one try that set the value
  pub try_sets : (answers : T → T → Type 0) (before mid after : View T) (x y : T) → Reads before x mid → answers x y → Compares mid x y true after
      → Updates answers before x y after
  try_sets answers before mid after x y read answered compared =
      let writes = same_writes before mid read.one_step.only in
      record {
        answered = answered;
        failed = 0;
        only = two_steps before mid after read.one_step.only compared.one_step.only;
        later = let first = read.one_step.later in let second = compared.one_step.later in omega arith;
        found = compared.found;
        extends = extends_on before mid.seen compared.found read.extends compared.extends.seen;
        is_history = compared.is_history;
        was = compared.answers.0;
        writes = compared.answers.1;
        wrote = compared.wrote ∙ ap (λ (n : ℕ). n + length after.seen) writes;
      }

  -- one try that found that another came between
  pub try_misses : (before mid after : View T) (x y : T) → Reads before x mid → Compares mid x y false after → Missed 1 before after
  try_misses before mid after x y read compared =
      let base = two_steps before mid after read.one_step.only compared.one_step.only in
      let told : [] ≡ after.told = sym (ap (λ (v : View T). v.told) base) in
      let told_turn : 0 ≡ after.told_turn = sym (ap (λ (v : View T). v.told_turn) base) in
      let same = same_writes before mid read.one_step.only in
      let many : length after.seen ≡ length compared.found = ap length compared.answers.1 in
      let wrote = compared.wrote in
      let writes : after.writes ≡ before.writes = omega arith in
      record {
        only = base
            ∙ ap (λ (l : List T). at before after.seen after.turn l 0 after.writes (before.steps + 2)) told
            ∙ ap (λ (n : ℕ). at before after.seen after.turn after.told n after.writes (before.steps + 2)) told_turn
            ∙ ap (λ (n : ℕ). at before after.seen after.turn after.told after.told_turn n (before.steps + 2)) writes;
        later = let first = read.one_step.later in let second = compared.one_step.later in omega arith;
        extends = λ h e.
            let found = extends_on before mid.seen compared.found read.extends compared.extends.seen in
            extends_on before compared.found h found (subst (λ (l : List T). IsPrefix l h) compared.answers.1 e.seen);
      }

  pub missed_none : (v : View T) → Missed 0 v v
  missed_none v = record {
    only = ap (λ (n : ℕ). record v { steps = n }) (sym (add-zero v.steps));
    later = omega arith;
    extends = λ h e. e;
  }

  pub missed_more : (n : ℕ) (before mid after : View T) → Missed n before mid → Missed 1 mid after → Missed (n + 1) before after
  missed_more n before mid after first last =
      let steps : before.steps + 2 * n + 2 * 1 ≡ before.steps + 2 * (n + 1) = omega arith in
      record {
        only = last.only
            ∙ ap (λ (v : View T). record v { seen = after.seen; turn = after.turn; told = after.told; told_turn = after.told_turn; steps = v.steps + 2 * 1 }) first.only
            ∙ ap (λ (k : ℕ). record before { seen = after.seen; turn = after.turn; told = after.told; told_turn = after.told_turn; steps = k }) steps;
        later = let one = first.later in let two = last.later in omega arith;
        extends = λ h e. first.extends h (last.extends h e);
      }

  pub missed_by : (n m : ℕ) (before after : View T) → n ≡ m → Missed n before after → Missed m before after
  missed_by n m before after is missed = subst (λ (k : ℕ). Missed k before after) is missed

  -- tries that missed, and then one that set the value
  pub updates_after : (answers : T → T → Type 0) (n : ℕ) (before mid after : View T) (x y : T) → Missed n before mid → Updates answers mid x y after
      → Updates answers before x y after
  updates_after answers n before mid after x y missed updates =
      let steps : before.steps + 2 * n + (2 * updates.failed + 2) ≡ before.steps + (2 * (n + updates.failed) + 2) = omega arith in
      let writes : mid.writes ≡ before.writes = ap (λ (v : View T). v.writes) missed.only in
      record {
        answered = updates.answered;
        failed = n + updates.failed;
        only = updates.only
            ∙ ap (λ (v : View T). at v after.seen after.turn [] 0 after.writes (v.steps + (2 * updates.failed + 2))) missed.only
            ∙ ap (λ (k : ℕ). at before after.seen after.turn [] 0 after.writes k) steps;
        later = let one = missed.later in let two = updates.later in omega arith;
        found = updates.found;
        extends = missed.extends updates.found updates.extends;
        is_history = updates.is_history;
        was = updates.was;
        writes = updates.writes;
        wrote = updates.wrote ∙ ap (λ (k : ℕ). k + length after.seen) writes;
      }
