-- Laws of what an end answers.
use Rattle.std.specs.Prelude.{◌≡◌, ℕ, ◌+◌, length, false, true, List, [], ◌∷◌, ◌++◌, Option, Some, None, Result, Ok, IsSome, refl}
use Rattle.std.proofs.Common.{ap, sym, ◌∙◌, subst, inl, inr, append_assoc, length-append}
use Rattle.std.proofs.lemmas.List.{append-nil}
use Rattle.cold_flow.specs.declared.cause.Cause.{Cause}
use Rattle.futures.specs.declared.task.Poll.{Poll}
use Rattle.futures.specs.declared.task.Poll.TheVariants.{Ready, Pending}
use Rattle.cold_flow.specs.declared.event.Event.{Event}
use Rattle.cold_flow.specs.declared.event.Event.TheVariants.{Value, End}
use Rattle.cold_flow.specs.Trace.{Trace, ◌⊑◌, so_far, ended_by, led_by}
use Rattle.cold_flow.specs.Poll.{Traces, Within, After, Fixes}
use Rattle.cold_flow.specs.Polled.{Gave, Pauses}
use Rattle.cold_flow.specs.Polled.Gave.{nothing, one_more}
use Rattle.more_operators.specs.Decided.{closed_by, decided_or, decided, decided_trace, Leaves, GoesOn, Settles, EndsWith}

-- nothing was told
pub none-told : {X Y : Type 0} (o : Option X) → o ≡ None → IsSome o → Y
none-told o none told = absurd (let wrong : false ≡ true = subst IsSome none told in cc)

module _ {D A B E : Type 0} (decides : D → A → Option B) (after : D → A → D) (closes : D → B) where
  -- one more value that settles nothing
  leaves-one : (decider mid next : D) (values : List A) (x : A) (found : Option B) → Leaves decides after closes E decider values mid
      → found ≡ decides mid x → found ≡ None → next ≡ after mid x → Leaves decides after closes E decider (values ++ x ∷ []) next
  leaves-one decider mid next values x found before is none so t =
      ap (λ (l : List A). decided decides after closes decider l t.1) (append_assoc values (x ∷ []) t.0)
      ∙ before (led_by x t) ∙ ap (λ (o : Option B). decided_or o (decided decides after closes (after mid x) t.0 t.1)) (sym is ∙ none)
      ∙ ap (λ (d : D). decided_trace decides after closes d t) (sym so)

  -- a value that settles it, and the end
  settled-by : (decider mid : D) (values : List A) (x : A) (found : Option B) (y : B) → Leaves decides after closes E decider values mid
      → found ≡ decides mid x → found ≡ Some y → decided_trace decides after closes decider (so_far {E = E} (values ++ x ∷ [])) ≡ Some (Ok y)
  settled-by decider mid values x found y before is some =
      before (so_far (x ∷ [])) ∙ ap (λ (o : Option B). decided_or o (decided decides after closes (after mid x) [] None)) (sym is ∙ some)

  ended-by : (decider mid : D) (values : List A) (k : Cause E) (r : Result B (Cause E)) → Leaves decides after closes E decider values mid
      → r ≡ closed_by (closes mid) k → decided_trace decides after closes decider (ended_by values k) ≡ Some r
  ended-by decider mid values k r before is =
      ap (λ (l : List A). decided decides after closes decider l (Some k)) (sym (append-nil values)) ∙ before (ended_by [] k)
      ∙ ap (λ (s : Result B (Cause E)). Some s) (sym is)

  pub goes_none : (decider : D) (old : Traces A E) → GoesOn decides after closes decider old decider old
  goes_none decider old = record { values = []; same = λ t. refl; rest = λ t h. h }

  -- a value that settles nothing
  pub goes_value : (decider mid next : D) (old now new : Traces A E) (x : A) (found : Option B) → GoesOn decides after closes decider old mid now
      → After now x new → found ≡ decides mid x → found ≡ None → next ≡ after mid x → GoesOn decides after closes decider old next new
  goes_value decider mid next old now new x found before came is none so = record {
    values = before.values ++ x ∷ [];
    same = leaves-one decider mid next before.values x found before.same is none so;
    rest = λ t h. subst (λ (l : List A). old (l, t.1)) (sym (append_assoc before.values (x ∷ []) t.0)) (before.rest (led_by x t) (came t h));
  }

  pub goes_waits : (decider mid : D) (old now new : Traces A E) → GoesOn decides after closes decider old mid now → Within now new
      → GoesOn decides after closes decider old mid new
  goes_waits decider mid old now new before within =
      record { values = before.values; same = before.same; rest = λ t h. before.rest t (within t h) }

  -- a value that settles it
  pub decides_value : (decider mid : D) (old now new : Traces A E) (x : A) (found : Option B) (y : B)
      → GoesOn decides after closes decider old mid now → After now x new → new (so_far []) → found ≡ decides mid x → found ≡ Some y
      → (t : Trace A E) × old t × (decided_trace decides after closes decider t ≡ Some (Ok y))
  decides_value decider mid old now new x found y before came begun is some = (
    so_far (before.values ++ x ∷ []),
    before.rest (so_far (x ∷ [])) (came (so_far []) begun),
    settled-by decider mid before.values x found y before.same is some,
  )

  -- the end
  pub decides_end : (decider mid : D) (old now : Traces A E) (k : Cause E) (r : Result B (Cause E))
      → GoesOn decides after closes decider old mid now → now (ended_by [] k) → r ≡ closed_by (closes mid) k
      → (t : Trace A E) × old t × (decided_trace decides after closes decider t ≡ Some r)
  decides_end decider mid old now k r before came is = (
    ended_by before.values k,
    subst (λ (l : List A). old (ended_by l k)) (append-nil before.values) (before.rest (ended_by [] k) came),
    ended-by decider mid before.values k r before.same is,
  )

  -- ---- which polls were made

  -- so many values were given, which settled nothing
  pub record TookOn {R : Type 0} (polled : R → Poll (Event A E) → R → Type 0) (decider : D) (old : R) (next : D) (new : R) (n : ℕ) : Type 0 where
    pub values : List A
    pub same : Leaves decides after closes E decider values next
    pub gave : Gave polled old values new
    pub many : length values ≡ n

  pub took_none : {R : Type 0} (polled : R → Poll (Event A E) → R → Type 0) (decider : D) (old : R) → TookOn polled decider old decider old 0
  took_none polled decider old = record { values = []; same = λ t. refl; gave = nothing; many = refl }

  pub took_one : {R : Type 0} (polled : R → Poll (Event A E) → R → Type 0) (decider mid next : D) (old now new : R) (n : ℕ) (x : A) (found : Option B)
      → TookOn polled decider old mid now n → polled now (Ready (Value x)) new → found ≡ decides mid x → found ≡ None → next ≡ after mid x
      → TookOn polled decider old next new (n + 1)
  took_one polled decider mid next old now new n x found before came is none so = record {
    values = before.values ++ x ∷ [];
    same = leaves-one decider mid next before.values x found before.same is none so;
    gave = one_more x before.gave came refl;
    many = length-append before.values (x ∷ []) ∙ ap (λ (k : ℕ). k + 1) before.many;
  }

  pub took_pauses : {R : Type 0} (polled : R → Poll (Event A E) → R → Type 0) (decider mid : D) (old now new : R) (n : ℕ)
      → TookOn polled decider old mid now n → polled now Pending new
      → (values : List A) × Leaves decides after closes E decider values mid × Pauses polled old values new
  took_pauses polled decider mid old now new n before came = (before.values, before.same, inl (now, before.gave, came))

  pub took_many : {R : Type 0} (polled : R → Poll (Event A E) → R → Type 0) (decider mid : D) (old new : R) (n : ℕ)
      → TookOn polled decider old mid new n → n ≡ 64
      → (values : List A) × Leaves decides after closes E decider values mid × Pauses polled old values new
  took_many polled decider mid old new n before full = (before.values, before.same, inr (before.gave, before.many ∙ full))

  pub took_settles : {R : Type 0} (polled : R → Poll (Event A E) → R → Type 0) (cancelled : R → R → Type 0) (decider mid : D) (old now next new : R)
      (n : ℕ) (x : A) (found : Option B) (y : B) → TookOn polled decider old mid now n → polled now (Ready (Value x)) next → cancelled next new
      → found ≡ decides mid x → found ≡ Some y → Settles decides after closes polled cancelled decider old (Ok y) new
  took_settles polled cancelled decider mid old now next new n x found y before came gave_up is some = record {
    values = before.values;
    last = x;
    before = now;
    past = next;
    gave = before.gave;
    came = came;
    gave_up = gave_up;
    answers = settled-by decider mid before.values x found y before.same is some;
  }

  pub took_all : {R : Type 0} (polled : R → Poll (Event A E) → R → Type 0) (decider mid : D) (old now new : R) (n : ℕ) (k : Cause E)
      (r : Result B (Cause E)) → TookOn polled decider old mid now n → polled now (Ready (End k)) new → r ≡ closed_by (closes mid) k
      → EndsWith decides after closes polled decider old r new
  took_all polled decider mid old now new n k r before came is = record {
    values = before.values;
    cause = k;
    gave = (now, before.gave, came);
    answers = ended-by decider mid before.values k r before.same is;
  }

  -- ---- over a run that can give one whole trace alone

  or-some : (o : Option B) (rest : Option (Result B (Cause E))) (more : Option (Result B (Cause E))) (r : Result B (Cause E))
      → decided_or o rest ≡ Some r → (rest ≡ Some r → more ≡ Some r) → decided_or o more ≡ Some r
  or-some (Some y) rest more r e h = e
  or-some None rest more r e h = h e

  decided-grows : (decider : D) (xs rest : List A) (end : Option (Cause E)) (r : Result B (Cause E)) → decided decides after closes decider xs None ≡ Some r
      → decided decides after closes decider (xs ++ rest) end ≡ Some r
  decided-grows decider [] rest end r e = let never : None ≡ Some r = e in absurd (cc)
  decided-grows decider (x ∷ xs) rest end r e =
      or-some (decides decider x) (decided decides after closes (after decider x) xs None) (decided decides after closes (after decider x) (xs ++ rest) end) r e
      (decided-grows (after decider x) xs rest end r)

  -- what is answered of the beginning of a trace is answered of the trace
  decided-begins : (decider : D) (t whole : Trace A E) (r : Result B (Cause E)) → t ⊑ whole → decided_trace decides after closes decider t ≡ Some r
      → decided_trace decides after closes decider whole ≡ Some r
  decided-begins decider t whole r (inl same) e = subst (λ (u : Trace A E). decided_trace decides after closes decider u ≡ Some r) same e
  decided-begins decider (xs, None) whole r (inr h) e =
      subst (λ (l : List A). decided decides after closes decider l whole.1 ≡ Some r) h.1.1 (decided-grows decider xs h.1.0 whole.1 r e)
  decided-begins decider (xs, Some k) whole r (inr h) e = absurd (cc)

  -- of a run that can give one whole trace alone, the answer is that trace's
  pub decided-fixed : (decider : D) (old : Traces A E) (whole : Trace A E) (r : Result B (Cause E)) → Fixes whole old
      → (t : Trace A E) × old t × (decided_trace decides after closes decider t ≡ Some r) → decided_trace decides after closes decider whole ≡ Some r
  decided-fixed decider old whole r fixed h = decided-begins decider h.0 whole r (fixed h.0 h.1) h.2
