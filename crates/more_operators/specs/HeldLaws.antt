-- Laws of what an operator holds.
use Rattle.std.specs.Prelude.{◌≡◌, ℕ, ◌+◌, ◌*◌, ◌<◌, ◌≤◌, ◌||◌, Bool, false, true, IsTrue, IsSome, List, [], ◌∷◌, Option, Some, None, refl}
use Rattle.std.proofs.Common.{ap, sym, ◌∙◌, subst, inl, inr, arith}
use Rattle.std.specs.Iterator.{Count, IsFinite, size, at_most}
use Rattle.futures.specs.declared.task.Poll.{Poll}
use Rattle.futures.specs.declared.task.Poll.TheVariants.{Ready, Pending}
use Rattle.flow_terms.specs.declared.few.Few.{Few}
use Rattle.flow_terms.specs.declared.few.Few.TheVariants.{Zero, One, Two, Three, Four}
use Rattle.flow_terms.specs.Few.{values_of, few_len, split}
use Rattle.cold_flow.specs.declared.cause.Cause.{Cause}
use Rattle.cold_flow.specs.declared.cause.Cause.TheVariants.{Finished}
use Rattle.cold_flow.specs.declared.event.Event.{Event}
use Rattle.cold_flow.specs.declared.event.Event.TheVariants.{Value, End}
use Rattle.cold_flow.specs.declared.operators.closing.Closing.{Closing}
use Rattle.cold_flow.specs.declared.operators.closing.Closing.TheVariants.{Open, Last, Over}
use Rattle.cold_flow.specs.Trace.{Trace, ◌⊑◌, so_far, ended_by, led_by}
use Rattle.cold_flow.specs.Poll.{Traces, Within, Narrows, After, Through, Approaches, IsWithinPolls, end_of}
use Rattle.cold_flow.specs.Polled.{IsNearer}
use Rattle.cold_flow.specs.Closing.{given_cause, answer, answered, is_open, is_prompt}
use Rattle.cold_flow.specs.ClosingLaws.{given-stops}
use Rattle.cold_flow.specs.Laws.{led-begins, begins-any, Through-begins}
use Rattle.cold_flow.specs.FewLaws.{values-some}
use Rattle.more_operators.specs.Retry.{behind}
use Rattle.more_operators.specs.Held.{Holds, first_event, left_held, left_closing, held_polls, given_end}

some-same : {X : Type 0} (x y : X) → Some x ≡ Some y → x ≡ y
some-same x y e = cc

some-none : {X Y : Type 0} (x : X) → Some x ≡ None → Y
some-none x e = absurd (let wrong : Some x ≡ None = e in cc)

none-some : {X Y : Type 0} (x : X) → None ≡ Some x → Y
none-some x e = absurd (let wrong : None ≡ Some x = e in cc)

-- ---- what it gives, and what is left

module _ {A B E : Type 0} (makes : Trace A E → Trace B E) (source : Traces A E) where
  -- the first value of what is held
  first-open : (held rest : Few B) (v : B) → split held ≡ Some (v, rest) → After (Holds makes Open held source) v (Holds makes Open rest source)
  first-open held rest v is t h = record {
    given = h.given;
    came = h.came;
    begins = subst (λ (ys : List B). led_by v t ⊑ behind ys (makes h.given)) (sym (values-some held v rest is))
        (led-begins v t (behind (values_of rest) (makes h.given)) h.begins);
  }

  first-last : (held rest : Few B) (v : B) → split held ≡ Some (v, rest) → After (Holds makes Last held source) v (Holds makes Last rest source)
  first-last held rest v is t h =
      subst (λ (ys : List B). led_by v t ⊑ ended_by ys Finished) (sym (values-some held v rest is))
      (led-begins v t (ended_by (values_of rest) Finished) h)

  values-none : (held : Few B) → split held ≡ None → values_of held ≡ []
  values-none Zero e = refl
  values-none (One a) e = some-none _ e
  values-none (Two a b) e = some-none _ e
  values-none (Three a b c) e = some-none _ e
  values-none (Four a b c d) e = some-none _ e

  gives-by : (closing : Closing E) (held : Few B) (parts : Option (B × Few B)) (event : Event B E) → split held ≡ parts
      → first_event closing parts ≡ Some event
      → Narrows (Holds makes closing held source) (Ready event) (Holds makes (left_closing closing parts) (left_held closing held parts) source)
  gives-by (Over k) held parts event is e =
      let same : End k ≡ event = some-same _ _ e in
      subst (λ (v : Event B E). Narrows (Holds makes (Over k) held source) (Ready v) (Holds makes (Over k) held source)) same (inl refl)
  gives-by Open held None event is e = none-some _ e
  gives-by Open held (Some parts) event is e =
      let same : Value parts.0 ≡ event = some-same _ _ e in
      subst (λ (v : Event B E). Narrows (Holds makes Open held source) (Ready v) (Holds makes Open parts.1 source)) same
      (first-open held parts.1 parts.0 is)
  gives-by Last held None event is e =
      let same : End Finished ≡ event = some-same _ _ e in
      subst (λ (v : Event B E). Narrows (Holds makes Last held source) (Ready v) (Holds makes (Over Finished) held source)) same
      (inl (ap (λ (ys : List B). ended_by ys Finished) (sym (values-none held is))))
  gives-by Last held (Some parts) event is e =
      let same : Value parts.0 ≡ event = some-same _ _ e in
      subst (λ (v : Event B E). Narrows (Holds makes Last held source) (Ready v) (Holds makes Last parts.1 source)) same
      (first-last held parts.1 parts.0 is)

  -- what it gives, and what is left
  pub gives_first : (closing : Closing E) (held : Few B) (event : Event B E) → first_event closing (split held) ≡ Some event
      → Narrows (Holds makes closing held source) (Ready event)
      (Holds makes (left_closing closing (split held)) (left_held closing held (split held)) source)
  gives_first closing held event e = gives-by closing held (split held) event refl e

  pub Holds-begins : (closing : Closing E) (held : Few B) → source (so_far []) → Holds makes closing held source (so_far [])
  Holds-begins Open held h = Through-begins (λ u. behind (values_of held) (makes u)) source h
  Holds-begins Last held h = begins-any (ended_by (values_of held) Finished)
  Holds-begins (Over k) held h = begins-any (ended_by [] k)

  pub Holds-over : (closing : Closing E) (held : Few B) (k : Cause E) → given_cause closing ≡ Some k
      → (t : Trace B E) → Holds makes closing held source t → t ⊑ ended_by [] k
  Holds-over Open held k e t h = none-some _ e
  Holds-over Last held k e t h = none-some _ e
  Holds-over (Over j) held k e t h =
      let same : j ≡ k = some-same _ _ e in subst (λ (i : Cause E). t ⊑ ended_by [] i) same h

-- ---- where it gives nothing without its source

module _ {B : Type 0} where
  split-none : (held : Few B) → split held ≡ None → held ≡ Zero
  split-none Zero e = refl
  split-none (One a) e = some-none _ e
  split-none (Two a b) e = some-none _ e
  split-none (Three a b c) e = some-none _ e
  split-none (Four a b c d) e = some-none _ e

module _ {B E : Type 0} where
  asks-by : (closing : Closing E) (parts : Option (B × Few B)) → first_event closing parts ≡ None → (closing ≡ Open) × (parts ≡ None)
  asks-by (Over k) parts e = some-none _ e
  asks-by Open None e = (refl, refl)
  asks-by Open (Some parts) e = some-none _ e
  asks-by Last None e = some-none _ e
  asks-by Last (Some parts) e = some-none _ e

  -- then it follows its source, and holds nothing
  pub asks_open : (closing : Closing E) (held : Few B) → first_event closing (split held) ≡ None → closing ≡ Open
  asks_open closing held e = (asks-by closing (split held) e).0

  pub asks_empty : (closing : Closing E) (held : Few B) → first_event closing (split held) ≡ None → held ≡ Zero
  asks_empty closing held e = split-none held (asks-by closing (split held) e).1

-- ---- how many polls are left

module _ {B : Type 0} where
  len-some : (held rest : Few B) (v : B) → split held ≡ Some (v, rest) → few_len held ≡ few_len rest + 1
  len-some Zero rest v e = none-some _ e
  len-some (One a) rest v e = let same : Zero ≡ rest = ap (λ (p : B × Few B). p.1) (some-same _ _ e) in ap (λ (f : Few B). few_len f + 1) same
  len-some (Two a b) rest v e = let same : One b ≡ rest = ap (λ (p : B × Few B). p.1) (some-same _ _ e) in ap (λ (f : Few B). few_len f + 1) same
  len-some (Three a b c) rest v e = let same : Two b c ≡ rest = ap (λ (p : B × Few B). p.1) (some-same _ _ e) in ap (λ (f : Few B). few_len f + 1) same
  len-some (Four a b c d) rest v e = let same : Three b c d ≡ rest = ap (λ (p : B × Few B). p.1) (some-same _ _ e) in ap (λ (f : Few B). few_len f + 1) same

  pub len-four : (held : Few B) → few_len held ≤ 4
  len-four Zero = omega arith
  len-four (One a) = omega arith
  len-four (Two a b) = omega arith
  len-four (Three a b c) = omega arith
  len-four (Four a b c d) = omega arith

module _ {B E : Type 0} where
  -- after a value fewer are left
  fewer-by : (closing : Closing E) (held : Few B) (source : Count) (parts : Option (B × Few B)) (event : Event B E) → split held ≡ parts
      → first_event closing parts ≡ Some event
      → Approaches (held_polls closing held source) (Ready event) (held_polls (left_closing closing parts) (left_held closing held parts) source)
  fewer-by (Over k) held source parts event is e =
      let same : End k ≡ event = some-same _ _ e in
      subst (λ (v : Event B E). Approaches (at_most 0) (Ready v) (at_most 0)) same tt
  fewer-by Open held source None event is e = none-some _ e
  fewer-by Open held source (Some parts) event is e =
      let same : Value parts.0 ≡ event = some-same _ _ e in
      let shorter = len-some held parts.1 parts.0 is in
      subst (λ (v : Event B E). Approaches (held_polls {B = B} {E = E} Open held source) (Ready v) (held_polls {B = B} {E = E} Open parts.1 source)) same
      (λ h. (h, omega arith))
  fewer-by Last held source None event is e =
      let same : End Finished ≡ event = some-same _ _ e in
      subst (λ (v : Event B E). Approaches (at_most (few_len held)) (Ready v) (at_most 0)) same tt
  fewer-by Last held source (Some parts) event is e =
      let same : Value parts.0 ≡ event = some-same _ _ e in
      let shorter = len-some held parts.1 parts.0 is in
      subst (λ (v : Event B E). Approaches (at_most (few_len held)) (Ready v) (at_most (few_len parts.1))) same
      (λ h. (h, omega arith))

  pub fewer_held : (closing : Closing E) (held : Few B) (source : Count) (event : Event B E) → first_event closing (split held) ≡ Some event
      → Approaches (held_polls closing held source) (Ready event)
      (held_polls (left_closing closing (split held)) (left_held closing held (split held)) source)
  fewer_held closing held source event e = fewer-by closing held source (split held) event refl e

  pub finite_held : (closing : Closing E) (held : Few B) (source : Count) → IsFinite source → IsFinite (held_polls closing held source)
  finite_held Open held source h = h
  finite_held Last held source h = tt
  finite_held (Over k) held source h = tt

-- ---- what a settling tells

module _ {B E : Type 0} where
  pub settle_over : (closing : Closing E) (held : Few B) (parts : Option (B × Few B)) (k : Cause E) → given_cause closing ≡ Some k
      → (Some (End k) ≡ first_event closing parts) × (held ≡ left_held closing held parts) × (closing ≡ left_closing closing parts)
  settle_over Open held parts k e = none-some _ e
  settle_over Last held parts k e = none-some _ e
  settle_over (Over j) held parts k e =
      let same : k ≡ j = sym (some-same _ _ e) in (ap (λ (i : Cause E). Some (End i)) same, refl, refl)

  pub settle_held : (closing : Closing E) (held : Few B) (parts : B × Few B) → given_cause closing ≡ None
      → (Some (Value parts.0) ≡ first_event closing (Some parts)) × (parts.1 ≡ left_held closing held (Some parts))
      × (closing ≡ left_closing closing (Some parts))
  settle_held Open held parts e = (refl, refl, refl)
  settle_held Last held parts e = (refl, refl, refl)
  settle_held (Over j) held parts e = some-none _ e

  pub settle_rest : (closing : Closing E) (held : Few B) → given_cause closing ≡ None
      → (given_end (answer closing) ≡ first_event {B = B} closing None) × (held ≡ left_held closing held None)
      × (answered closing ≡ left_closing {B = B} closing None)
  settle_rest Open held e = (refl, refl, refl)
  settle_rest Last held e = (refl, refl, refl)
  settle_rest (Over j) held e = some-none _ e

-- ---- what an event tells

module _ {B E : Type 0} where
  -- the cause that it ended by
  pub ends_by : (closing : Closing E) (parts : Option (B × Few B)) (event : Event B E) → first_event closing parts ≡ Some event
      → given_cause (left_closing closing parts) ≡ end_of (Ready event)
  ends_by Open None event e = none-some _ e
  ends_by Open (Some parts) event e = ap (λ (v : Event B E). end_of (Ready v)) (some-same _ _ e)
  ends_by Last None event e = ap (λ (v : Event B E). end_of (Ready v)) (some-same _ _ e)
  ends_by Last (Some parts) event e = ap (λ (v : Event B E). end_of (Ready v)) (some-same _ _ e)
  ends_by (Over k) parts event e = ap (λ (v : Event B E). end_of (Ready v)) (some-same _ _ e)

  -- its source has stopped then
  pub stops_by : (closing : Closing E) (parts : Option (B × Few B)) (event : Event B E) (source : Bool) → first_event closing parts ≡ Some event
      → IsTrue (is_open (left_closing closing parts) || source) → IsSome (end_of (Ready event)) → IsTrue source
  stops_by closing parts event source e stopped h =
      given-stops (left_closing closing parts) source stopped (subst IsSome (sym (ends_by closing parts event e)) h)

  -- an end is given again
  pub stays_by : (closing : Closing E) (parts : Option (B × Few B)) (event : Event B E) (k : Cause E) → first_event closing parts ≡ Some event
      → given_cause closing ≡ Some k → Ready event ≡ Ready (End k)
  stays_by Open parts event k e over = none-some _ over
  stays_by Last parts event k e over = none-some _ over
  stays_by (Over j) parts event k e over =
      ap (λ (v : Event B E). Ready v) (sym (some-same _ _ e) ∙ ap (λ (i : Cause E). End i) (some-same _ _ over))

  -- no poll answers pending, where none of its source does
  pub prompt_by : (closing : Closing E) (parts : Option (B × Few B)) (source : Bool) → IsTrue (is_prompt closing source)
      → IsTrue (is_prompt (left_closing closing parts) source)
  prompt_by Open parts source h = h
  prompt_by Last None source h = refl
  prompt_by Last (Some parts) source h = refl
  prompt_by (Over k) parts source h = refl

  pub prompt_once : (closing : Closing E) (parts : Option (B × Few B)) (source : Bool) → (closing ≡ Open → IsTrue source)
      → IsTrue (is_prompt (left_closing closing parts) source)
  prompt_once Open parts source h = h refl
  prompt_once Last None source h = refl
  prompt_once Last (Some parts) source h = refl
  prompt_once (Over k) parts source h = refl

  -- one that is open, or has stopped, stays so
  pub stopped_by : (closing : Closing E) (parts : Option (B × Few B)) (source : Bool) → IsTrue (is_open closing || source)
      → IsTrue (is_open (left_closing closing parts) || source)
  stopped_by Open parts source h = h
  stopped_by Last None source h = h
  stopped_by Last (Some parts) source h = h
  stopped_by (Over k) parts source h = h

  -- what gives something gives it
  pub gives_some : (closing : Closing E) (parts : Option (B × Few B)) → first_event closing parts ≡ None → IsSome parts → ⊥
  gives_some Open None e h = cc
  gives_some Open (Some parts) e h = some-none _ e
  gives_some Last None e h = some-none _ e
  gives_some Last (Some parts) e h = some-none _ e
  gives_some (Over k) parts e h = some-none _ e

-- ---- of one that followed its source, and held nothing, as a poll began

module _ {A E : Type 0} where
  -- what narrows a part narrows the whole
  pub narrows_within : (old mid new : Traces A E) (answer : Poll (Event A E)) → Within old mid → Narrows mid answer new → Narrows old answer new
  narrows_within old mid new (Ready (Value v)) within h = λ t came. within (led_by v t) (h t came)
  narrows_within old mid new (Ready (End k)) within h = within (ended_by [] k) h
  narrows_within old mid new Pending within h = λ t came. within t (h t came)

  approaches_within : (old mid new : Count) (answer : Poll (Event A E)) → IsWithinPolls old mid → Approaches mid answer new → Approaches old answer new
  approaches_within old mid new (Ready (Value v)) within h = λ known. let was = within known in let now = h was.0 in (now.0, omega arith)
  approaches_within old mid new (Ready (End k)) within h = tt
  approaches_within old mid new Pending within h = λ known. let was = within known in let now = h was.0 in (now.0, omega arith)

nearer_within : (B E : Type 0) (first now : Count) (n : ℕ) → IsNearer n first now
    → IsWithinPolls (held_polls {B = B} {E = E} Open Zero first) (held_polls {B = B} {E = E} Open Zero now)
nearer_within B E first now n near known = let was = near known in (was.0, omega arith)

polls_trans : (old mid new : Count) → IsWithinPolls old mid → IsWithinPolls mid new → IsWithinPolls old new
polls_trans old mid new first second known = let was = first known in let now = second was.0 in (now.0, omega arith)

module _ {B E : Type 0} (held next : Few B) (closing after : Closing E) (event : Event B E) (gives : first_event closing (split held) ≡ Some event)
    (closed : after ≡ left_closing closing (split held)) (holds : next ≡ left_held closing held (split held)) where
  -- it gave what it held, or its end
  pub settled_narrows : {A : Type 0} (makes : Trace A E → Trace B E) (source : Traces A E)
      → Narrows (Holds makes closing held source) (Ready event) (Holds makes after next source)
  settled_narrows makes source =
      subst (λ (x : Closing E). Narrows (Holds makes closing held source) (Ready event) (Holds makes x next source)) (sym closed)
      (subst (λ (x : Few B). Narrows (Holds makes closing held source) (Ready event) (Holds makes (left_closing closing (split held)) x source)) (sym holds)
      (gives_first makes source closing held event gives))

  pub settled_approaches : (source : Count) → Approaches (held_polls closing held source) (Ready event) (held_polls after next source)
  settled_approaches source =
      subst (λ (x : Closing E). Approaches (held_polls closing held source) (Ready event) (held_polls x next source)) (sym closed)
      (subst (λ (x : Few B). Approaches (held_polls closing held source) (Ready event) (held_polls (left_closing closing (split held)) x source)) (sym holds)
      (fewer_held closing held source event gives))

  -- it asked its source, and gave what came of that
  module _ (first : Few B) (before : Closing E) (was : before ≡ Open) (empty : first ≡ Zero) where
    pub asked_narrows : {A : Type 0} (f g h : Trace A E → Trace B E) (old now new : Traces A E) → Within (Through f old) (Through g now)
        → Within (Through g now) (Holds h closing held new) → Narrows (Holds f before first old) (Ready event) (Holds h after next new)
    asked_narrows f g h old now new sooner later =
        subst (λ (x : Closing E). Narrows (Holds f x first old) (Ready event) (Holds h after next new)) (sym was)
        (subst (λ (x : Few B). Narrows (Holds f Open x old) (Ready event) (Holds h after next new)) (sym empty)
        (narrows_within (Holds f Open Zero old) (Holds h closing held new) (Holds h after next new) (Ready event)
        (λ t came. sooner t (later t came)) (settled_narrows h new)))

    pub asked_approaches : (old now new : Count) (n : ℕ) → IsNearer n old now
        → IsWithinPolls (held_polls {B = B} {E = E} Open Zero now) (held_polls closing held new)
        → Approaches (held_polls before first old) (Ready event) (held_polls after next new)
    asked_approaches old now new n sooner later =
        subst (λ (x : Closing E). Approaches (held_polls x first old) (Ready event) (held_polls after next new)) (sym was)
        (subst (λ (x : Few B). Approaches (held_polls {B = B} {E = E} Open x old) (Ready event) (held_polls after next new)) (sym empty)
        (approaches_within (held_polls {B = B} {E = E} Open Zero old) (held_polls closing held new) (held_polls after next new) (Ready event)
        (polls_trans _ _ _ (nearer_within B E old now n sooner) later) (settled_approaches new)))

-- it asked its source, and nothing came of that
pub asked_none : {A B E : Type 0} (h : Trace A E → Trace B E) (old : Traces B E) (new : Traces A E) (closing : Closing E) (held : Few B)
    → closing ≡ Open → held ≡ Zero → Within old (Holds h closing held new) → Within old (Through h new)
asked_none {B = B} {E = E} h old new closing held follows empty within =
    subst (λ (x : Few B). Within old (Holds h Open x new)) empty
    (subst (λ (x : Closing E). Within old (Holds h x held new)) follows within)

-- its source answered pending, or it has asked often enough
module _ {B E : Type 0} (first held : Few B) (before after : Closing E) (was : before ≡ Open) (empty : first ≡ Zero)
    (going : after ≡ Open) (holds : held ≡ Zero) where
  pub pends_narrows : {A : Type 0} (f g : Trace A E → Trace B E) (old new : Traces A E) → Within (Through f old) (Through g new)
      → Within (Holds f before first old) (Holds g after held new)
  pends_narrows f g old new within =
      subst (λ (x : Closing E). Within (Holds f x first old) (Holds g after held new)) (sym was)
      (subst (λ (x : Few B). Within (Holds f Open x old) (Holds g after held new)) (sym empty)
      (subst (λ (x : Closing E). Within (Holds f Open Zero old) (Holds g x held new)) (sym going)
      (subst (λ (x : Few B). Within (Holds f Open Zero old) (Holds g Open x new)) (sym holds) within)))

  pub pends_approaches : (old new : Count) (n : ℕ) → IsNearer (n + 1) old new → IsFinite (held_polls before first old)
      → IsFinite (held_polls after held new) × (size (held_polls after held new) < size (held_polls before first old))
  pends_approaches old new n near =
      let Nearer : Count → Count → Type 0 = λ x y. IsFinite x → IsFinite y × (size y < size x) in
      subst (λ (x : Closing E). Nearer (held_polls x first old) (held_polls after held new)) (sym was)
      (subst (λ (x : Few B). Nearer (held_polls {B = B} {E = E} Open x old) (held_polls after held new)) (sym empty)
      (subst (λ (x : Closing E). Nearer (held_polls {B = B} {E = E} Open Zero old) (held_polls x held new)) (sym going)
      (subst (λ (x : Few B). Nearer (held_polls {B = B} {E = E} Open Zero old) (held_polls {B = B} {E = E} Open x new)) (sym holds)
      (λ known. let now = near known in (now.0, omega arith)))))

-- nothing is held
pub holds_none : {B X : Type 0} (held : Few B) → held ≡ Zero → IsSome (split held) → X
holds_none {B} held empty some = absurd (let wrong : false ≡ true = subst (λ (f : Few B). IsSome (split f)) empty some in cc)

-- one question more
pub nearer_more : (first now new : Count) (n : ℕ) → IsNearer n first now → IsNearer 1 now new → IsNearer (n + 1) first new
nearer_more first now new n sooner later known = let was = sooner known in let is = later was.0 in (is.0, omega arith)

-- as many questions as these
pub nearer_enough : (first now : Count) (n m : ℕ) → IsNearer n first now → m ≤ n → IsNearer m first now
nearer_enough first now n m near enough known = let was = near known in (was.0, omega arith)
