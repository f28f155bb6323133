-- Laws of what each end answers.
use Rattle.std.specs.Prelude.{◌≡◌, ℕ, ◌+◌, ◌%◌, ◌^◌, Bool, true, false, not, List, [], ◌∷◌, Option, Some, None, Result, Ok, if◌then◌else◌, refl}
use Rattle.std.proofs.Common.{ap, ◌∙◌}
use Rattle.cold_flow.specs.declared.cause.Cause.{Cause}
use Rattle.cold_flow.specs.Trace.{Trace}
use Rattle.more_operators.specs.declared.ends.any.Seeking.{Seeking}
use Rattle.more_operators.specs.declared.ends.count.Counting.{Counting}
use Rattle.more_operators.specs.declared.ends.last.Latest.{Latest}
use Rattle.more_operators.specs.declared.ends.reduce.Joining.{Joining}
use Rattle.more_operators.specs.declared.ends.single.Lone.{Lone}
use Rattle.more_operators.specs.declared.ends.single.Only.{Only}
use Rattle.more_operators.specs.Decided.{closed_by, decided_or, decided}
use Rattle.more_operators.specs.Reduce.{next_state}
use Rattle.more_operators.specs.Answers.{at_end, counted_from, reduced_to, last_after, single_of, settles_lone, lone_of, is_sought, settled_by}

abbrev joins : {A G : Type 0} → (G → A × A → A) → Joining A G → A → Joining A G
joins g s x = record { state = Some (next_state (g s.function) s.state x); function = s.function }

found-by : {E : Type 0} (b : Bool) (answer : Bool) (rest : Option (Result Bool (Cause E)))
    → decided_or (if b then Some answer else None) rest ≡ (if b then Some (Ok answer) else rest)
found-by true answer rest = refl
found-by false answer rest = refl

module _ {A E : Type 0} where
  pub counts : (s : Counting) (xs : List A) (end : Option (Cause E))
      → decided (λ (c : Counting) (x : A). None) (λ (c : Counting) (x : A). record { count = (c.count + 1) % 2 ^ 64 }) (λ (c : Counting). c.count) s xs end
      ≡ at_end (counted_from s.count) (xs, end)
  counts s [] None = refl
  counts s [] (Some k) = refl
  counts s (x ∷ xs) None = counts (record { count = (s.count + 1) % 2 ^ 64 }) xs None
  counts s (x ∷ xs) (Some k) = counts (record { count = (s.count + 1) % 2 ^ 64 }) xs (Some k)

  pub finds_last : (s : Latest A) (xs : List A) (end : Option (Cause E))
      → decided (λ (c : Latest A) (x : A). None) (λ (c : Latest A) (x : A). record { last = Some x }) (λ (c : Latest A). c.last) s xs end
      ≡ at_end (last_after s.last) (xs, end)
  finds_last s [] None = refl
  finds_last s [] (Some k) = refl
  finds_last s (x ∷ xs) None = finds_last (record { last = Some x }) xs None
  finds_last s (x ∷ xs) (Some k) = finds_last (record { last = Some x }) xs (Some k)

  pub reduces : {G : Type 0} (g : G → A × A → A) (s : Joining A G) (xs : List A) (end : Option (Cause E))
      → decided (λ (c : Joining A G) (x : A). None) (joins g) (λ (c : Joining A G). c.state) s xs end
      ≡ at_end (reduced_to (g s.function) s.state) (xs, end)
  reduces g s [] None = refl
  reduces g s [] (Some k) = refl
  reduces g s (x ∷ xs) None = reduces g (joins g s x) xs None
  reduces g s (x ∷ xs) (Some k) = reduces g (joins g s x) xs (Some k)

  pub finds_single : (t : Trace A E)
      → decided (λ (c : Lone A) (x : A). settles_lone c.only) (λ (c : Lone A) (x : A). record { only = Some x }) (λ (c : Lone A). lone_of c.only)
      (record { only = None }) t.0 t.1 ≡ single_of t
  finds_single ([], None) = refl
  finds_single ([], Some k) = refl
  finds_single (x ∷ [], None) = refl
  finds_single (x ∷ [], Some k) = refl
  finds_single (x ∷ y ∷ xs, end) = refl

  -- one that seeks a value for which the test answers so
  pub seeks : {G : Type 0} (g : G → A → Bool) (s : Seeking G) (xs : List A) (end : Option (Cause E))
      → decided (λ (c : Seeking G) (x : A). if is_sought c.sought (g c.test x) then Some c.answer else None) (λ (c : Seeking G) (x : A). c)
      (λ (c : Seeking G). not c.answer) s xs end ≡ settled_by (λ x. is_sought s.sought (g s.test x)) s.answer xs end
  seeks g s [] None = refl
  seeks g s [] (Some k) = refl
  seeks g s (x ∷ xs) end =
      let found = is_sought s.sought (g s.test x) in
      found-by found s.answer _ ∙ ap (λ (rest : Option (Result Bool (Cause E))). if found then Some (Ok s.answer) else rest) (seeks g s xs end)
