-- Laws of `combine`.
use Rattle.std.specs.Prelude.{◌≡◌, Bool, true, false, IsTrue, ◌&&◌, List, [], ◌∷◌, ◌++◌, Option, Some, None, ◌⊎◌, refl}
use Rattle.std.proofs.Common.{sym, ◌∙◌, ap, subst, inl, inr}
use Rattle.cold_flow.specs.declared.cause.Cause.{Cause}
use Rattle.cold_flow.specs.declared.cause.Cause.TheVariants.{Finished, Failed, Cancelled, Refused}
use Rattle.cold_flow.specs.declared.event.Event.{Event}
use Rattle.cold_flow.specs.declared.event.Event.TheVariants.{Value, End}
use Rattle.cold_flow.specs.Trace.{Trace, ◌⊑◌, so_far, ended_by, led_by}
use Rattle.cold_flow.specs.Poll.{Traces, Within, After, Beginnings, IsReady}
use Rattle.cold_flow.specs.Laws.{begins-any, led-begins, ended-begins}
use Rattle.flow_merge.specs.declared.flows.turn.Turn.{Turn}
use Rattle.flow_merge.specs.declared.flows.turn.Turn.TheVariants.{Left, Right}
use Rattle.futures.specs.declared.task.Poll.{Poll}
use Rattle.futures.specs.declared.task.Poll.TheVariants.{Ready, Pending}
use Rattle.cold_flow.specs.Polled.{HasWaited}
use Rattle.flow_merge.specs.Asking.{Asks}
use Rattle.flow_merge.specs.declared.flows.side.Arrival.{Arrival}
use Rattle.flow_merge.specs.declared.flows.side.Arrival.TheVariants.{Came, Done, Ended}
use Rattle.flow_merge.specs.Side.{Brings, is_done}
use Rattle.flow_merge.specs.Combine.{with_result, result_of, answer_to, Combines, OrFinished, turn_to, MayCombine, SideWaited, OtherWaited, BothWaited}
use Rattle.flow_merge.specs.Combine.{rest_of_left, rest_of_right, after_end, in_turn, combine_trace}
use Rattle.flow_merge.specs.Combine.Combines.{stops, left_gives, right_gives, left_passes, right_passes, finishes, left_fails, right_fails}

-- whatever b allows, a allows: where a side must not answer pending, it must not later on
abbrev pub Looser : Bool → Bool → Type 0
Looser a b = IsTrue a → IsTrue b

-- whatever new may give, old could give after the result of these latest values, if there is one
abbrev pub AfterResult : {A B C E : Type 0} → (A × B → C) → Option A → Option B → Traces C E → Traces C E → Type 0
AfterResult {A} {B} {C} {E} g l r old new = (t : Trace C E) → new t → old (with_result g l r t)

module _ {A E : Type 0} where
  -- a side may have given nothing more
  side_begins : (finished : Bool) (source : Traces A E) → source (so_far []) → (t : Trace A E) × OrFinished finished source t
  side_begins true source h = (ended_by [] Finished, refl)
  side_begins false source h = (so_far [], h)

  -- what goes on from a trace that begins with x begins with x
  begins-led : (x : A) (t w : Trace A E) → led_by x t ⊑ w → (rest : Trace A E) × (w ≡ led_by x rest) × (t ⊑ rest)
  begins-led x t w (inl e) = (t, sym e, inl refl)
  begins-led x t w (inr h) = ((t.0 ++ h.1.0, w.1), ap (λ (xs : List A). (xs, w.1)) (sym h.1.1), inr (h.0, (h.1.0, refl)))

module _ {A B C E : Type 0} (g : A × B → C) where
  -- a side that may answer pending gives no less than one that may not
  loosen : (p q p' q' : Bool) → Looser p p' → Looser q q' → (turn : Turn) (l : Option A) (r : Option B) (t : Trace A E) (u : Trace B E) (out : Trace C E)
      → Combines g p' q' turn l r t u out → Combines g p q turn l r t u out
  loosen p q p' q' h k _ _ _ _ _ _ stops = stops
  loosen p q p' q' h k _ _ _ _ _ _ (left_gives {l = l} {r = r} {t = t} {u = u} {out = out} x c) =
      left_gives x (loosen p q p' q' h k Right (Some x) r t u out c)
  loosen p q p' q' h k _ _ _ _ _ _ (right_gives {l = l} {r = r} {t = t} {u = u} {out = out} y c) =
      right_gives y (loosen p q p' q' h k Left l (Some y) t u out c)
  loosen p q p' q' h k _ _ _ _ _ _ (left_passes {l = l} {r = r} {t = t} {u = u} {out = out} e c) =
      left_passes (λ is. e (h is)) (loosen p q p' q' h k Right l r t u out c)
  loosen p q p' q' h k _ _ _ _ _ _ (right_passes {l = l} {r = r} {t = t} {u = u} {out = out} e c) =
      right_passes (λ is. e (k is)) (loosen p q p' q' h k Left l r t u out c)
  loosen p q p' q' h k _ _ _ _ _ _ finishes = finishes
  loosen p q p' q' h k _ _ _ _ _ _ (left_fails j e) = left_fails j e
  loosen p q p' q' h k _ _ _ _ _ _ (right_fails j e) = right_fails j e

  -- traces that go on from these may give all that these may
  extends : (p q : Bool) (turn : Turn) (l : Option A) (r : Option B) (t : Trace A E) (u : Trace B E) (out : Trace C E) (t' : Trace A E) (u' : Trace B E)
      → Combines g p q turn l r t u out → t ⊑ t' → u ⊑ u' → Combines g p q turn l r t' u' out
  extends p q _ _ _ _ _ _ t' u' stops h k = stops
  extends p q _ _ _ _ _ _ t' u' (left_gives {l = l} {r = r} {t = t} {u = u} {out = out} x c) h k =
      let led = begins-led x t t' h in
      rw led.1 (left_gives x (extends p q Right (Some x) r t u out led.0 u' c led.2 k))
  extends p q _ _ _ _ _ _ t' u' (right_gives {l = l} {r = r} {t = t} {u = u} {out = out} y c) h k =
      let led = begins-led y u u' k in
      rw led.1 (right_gives y (extends p q Left l (Some y) t u out t' led.0 c h led.2))
  extends p q _ _ _ _ _ _ t' u' (left_passes {l = l} {r = r} {t = t} {u = u} {out = out} e c) h k =
      left_passes (λ is. sym (ended-begins [] Finished t' (subst (λ (x : Trace A E). x ⊑ t') (e is) h))) (extends p q Right l r t u out t' u' c h k)
  extends p q _ _ _ _ _ _ t' u' (right_passes {l = l} {r = r} {t = t} {u = u} {out = out} e c) h k =
      right_passes (λ is. sym (ended-begins [] Finished u' (subst (λ (x : Trace B E). x ⊑ u') (e is) k))) (extends p q Left l r t u out t' u' c h k)
  extends p q _ _ _ _ _ _ t' u' finishes h k =
      rw (← (ended-begins [] Finished t' h), ← (ended-begins [] Finished u' k)) finishes
  extends p q _ _ _ _ _ _ t' u' (left_fails j e) h k = rw (← (ended-begins [] j t' h)) (left_fails j e)
  extends p q _ _ _ _ _ _ t' u' (right_fails j e) h k = rw (← (ended-begins [] j u' k)) (right_fails j e)

  result-end : (l : Option A) (r : Option B) (out : Trace C E) → (with_result g l r out).1 ≡ out.1
  result-end None r out = refl
  result-end (Some x) None out = refl
  result-end (Some x) (Some y) out = refl

  -- it ends by `Cancelled` only where a side does
  cancelled-side : (p q : Bool) (turn : Turn) (l : Option A) (r : Option B) (t : Trace A E) (u : Trace B E) (out : Trace C E)
      → Combines g p q turn l r t u out → out.1 ≡ Some Cancelled → (t.1 ≡ Some Cancelled) ⊎ (u.1 ≡ Some Cancelled)
  cancelled-side p q _ _ _ _ _ _ stops e = absurd (cc)
  cancelled-side p q _ _ _ _ _ _ (left_gives {l = l} {r = r} {t = t} {u = u} {out = out} x c) e =
      cancelled-side p q Right (Some x) r t u out c (sym (result-end (Some x) r out) ∙ e)
  cancelled-side p q _ _ _ _ _ _ (right_gives {l = l} {r = r} {t = t} {u = u} {out = out} y c) e =
      cancelled-side p q Left l (Some y) t u out c (sym (result-end l (Some y) out) ∙ e)
  cancelled-side p q _ _ _ _ _ _ (left_passes {l = l} {r = r} {t = t} {u = u} {out = out} h c) e = cancelled-side p q Right l r t u out c e
  cancelled-side p q _ _ _ _ _ _ (right_passes {l = l} {r = r} {t = t} {u = u} {out = out} h c) e = cancelled-side p q Left l r t u out c e
  cancelled-side p q _ _ _ _ _ _ finishes e = absurd (cc)
  cancelled-side p q _ _ _ _ _ _ (left_fails j h) e = inl e
  cancelled-side p q _ _ _ _ _ _ (right_fails j h) e = inr e

  pub combine_uncancelled : (p q : Bool) (left : Traces A E) (right : Traces B E) → ((xs : List A) → left (ended_by xs Cancelled) → ⊥)
      → ((ys : List B) → right (ended_by ys Cancelled) → ⊥) → (zs : List C)
      → MayCombine g p q Left None None left right (ended_by zs Cancelled) → ⊥
  combine_uncancelled p q left right none_left none_right zs h =
      elim (cancelled-side p q Left None None h.of_left h.of_right (ended_by zs Cancelled) h.combines refl) [
        | inl k ↦ none_left h.of_left.0 (subst (λ (o : Option (Cause E)). left (h.of_left.0, o)) k h.left_came)
        | inr k ↦ none_right h.of_right.0 (subst (λ (o : Option (Cause E)). right (h.of_right.0, o)) k h.right_came)
      ]

  pub combine_begins : (p q : Bool) (turn : Turn) (l : Option A) (r : Option B) (lf rf : Bool) (left : Traces A E) (right : Traces B E)
      → left (so_far []) → right (so_far []) → MayCombine g p q turn l r (OrFinished lf left) (OrFinished rf right) (so_far [])
  combine_begins p q turn l r lf rf left right h k =
      let a = side_begins lf left h in
      let b = side_begins rf right k in
      record { of_left = a.0; of_right = b.0; left_came = a.1; right_came = b.1; combines = stops }

  pub combine_starts : (p q p' q' : Bool) (left left' : Traces A E) (right right' : Traces B E)
      → Looser p p' → Looser q q' → Within left left' → Within right right'
      → Within (MayCombine g p q Left None None left right) (MayCombine g p' q' Left None None left' right')
  combine_starts p q p' q' left left' right right' h k inside_left inside_right t c = record {
    of_left = c.of_left;
    of_right = c.of_right;
    left_came = inside_left c.of_left c.left_came;
    right_came = inside_right c.of_right c.right_came;
    combines = loosen p q p' q' h k _ _ _ _ _ _ c.combines;
  }

  -- ---- a question to the left, at its turn

  left_came : (p q p' : Bool) (l : Option A) (r : Option B) (rf : Bool) (old new : Traces A E) (right : Traces B E) (x : A) → Looser p p' → After old x new
      → AfterResult g (Some x) r (MayCombine g p q Left l r old (OrFinished rf right))
      (MayCombine g p' q (turn_to Right rf) (Some x) r new (OrFinished rf right))
  left_came p q p' l r false old new right x h after t c = record {
    of_left = led_by x c.of_left;
    of_right = c.of_right;
    left_came = after c.of_left c.left_came;
    right_came = c.right_came;
    combines = left_gives x (loosen p q p' q h (λ e. e) _ _ _ _ _ _ c.combines);
  }
  left_came p q p' l r true old new right x h after t c = record {
    of_left = led_by x c.of_left;
    of_right = c.of_right;
    left_came = after c.of_left c.left_came;
    right_came = c.right_came;
    combines = left_gives x (right_passes (λ _. c.right_came) (loosen p q p' q h (λ e. e) _ _ _ _ _ _ c.combines));
  }

  left_waits : (p q p' : Bool) (l : Option A) (r : Option B) (rf : Bool) (old new : Traces A E) (right : Traces B E)
      → Looser p p' → (IsTrue p → ⊥) → Within old new
      → Within (MayCombine g p q Left l r old (OrFinished rf right)) (MayCombine g p' q (turn_to Right rf) l r new (OrFinished rf right))
  left_waits p q p' l r false old new right h waits within t c = record {
    of_left = c.of_left;
    of_right = c.of_right;
    left_came = within c.of_left c.left_came;
    right_came = c.right_came;
    combines = left_passes (λ is. absurd (waits is)) (loosen p q p' q h (λ e. e) _ _ _ _ _ _ c.combines);
  }
  left_waits p q p' l r true old new right h waits within t c = record {
    of_left = c.of_left;
    of_right = c.of_right;
    left_came = within c.of_left c.left_came;
    right_came = c.right_came;
    combines = loosen p q p' q h (λ e. e) _ _ _ _ _ _ c.combines;
  }

  left_finishes : (p q p' : Bool) (l : Option A) (r : Option B) (old new : Traces A E) (right : Traces B E) → Looser p p' → old (ended_by [] Finished)
      → Within (MayCombine g p q Left l r old right) (MayCombine g p' q Right l r (OrFinished true new) right)
  left_finishes p q p' l r old new right h came t c = record {
    of_left = c.of_left;
    of_right = c.of_right;
    left_came = subst old (sym c.left_came) came;
    right_came = c.right_came;
    combines = left_passes (λ _. c.left_came) (loosen p q p' q h (λ e. e) _ _ _ _ _ _ c.combines);
  }

  asks_result : (l : Option A) (r : Option B) (old new : Traces C E) → AfterResult g l r old new → Asks old (Ready (result_of g l r)) new
  asks_result None r old new h = h
  asks_result (Some x) None old new h = h
  asks_result (Some x) (Some y) old new h = h

  pub asks_left : (p q p' : Bool) (l l' : Option A) (r : Option B) (rf : Bool) (old new : Traces A E) (right : Traces B E) (arrival : Poll (Arrival E))
      → right (so_far []) → (IsTrue p → IsReady arrival × IsTrue p') → Brings old l arrival (OrFinished (is_done arrival) new) l'
      → Asks (MayCombine g p q Left l r old (OrFinished rf right)) (answer_to g arrival (is_done arrival && rf) l' r)
      (MayCombine g p' q (turn_to Right rf) l' r (OrFinished (is_done arrival) new) (OrFinished rf right))
  asks_left p q p' l l' r rf old new right (Ready Came) begun prompt b =
      rw b.1 (asks_result (Some b.0) r _ _ (left_came p q p' l r rf old new right b.0 (λ h. (prompt h).1) b.2))
  asks_left p q p' l l' r false old new right (Ready Done) begun prompt b = rw b.0 (left_finishes p q p' l r old new right (λ h. (prompt h).1) b.1)
  asks_left p q p' l l' r true old new right (Ready Done) begun prompt b =
      record { of_left = ended_by [] Finished; of_right = ended_by [] Finished; left_came = b.1; right_came = refl; combines = finishes }
  asks_left p q p' l l' r rf old new right (Ready (Ended k)) begun prompt b =
      let other = side_begins rf right begun in
      record { of_left = ended_by [] k; of_right = other.0; left_came = b.2; right_came = other.1; combines = left_fails k b.1 }
  asks_left p q p' l l' r rf old new right Pending begun prompt b =
      rw b.0 (left_waits p q p' l r rf old new right (λ h. (prompt h).1) (λ h. (prompt h).0) b.1)

-- ---- a question to the right: the same, seen from the other side

abbrev other_turn : Turn → Turn
other_turn Left = Right
other_turn Right = Left

other-passes : (lf : Bool) → other_turn (turn_to Left lf) ≡ turn_to Right lf
other-passes false = refl
other-passes true = refl

both-mirrored : (lf rf : Bool) → (rf && lf) ≡ (lf && rf)
both-mirrored true true = refl
both-mirrored true false = refl
both-mirrored false true = refl
both-mirrored false false = refl

abbrev mirror : {A B C : Type 0} → (A × B → C) → B × A → C
mirror g z = g (z.1, z.0)

-- a question says the same where more could come before it, and where less may come after it
asks_within : {C E : Type 0} (more old new less : Traces C E) (given : Poll (Option (Event C E))) → Within more old → Within new less
    → Asks old given new → Asks more given less
asks_within more old new less (Ready (Some (Value v))) h k asks = λ t c. h _ (asks t (k t c))
asks_within more old new less (Ready (Some (End e))) h k asks = h _ asks
asks_within more old new less (Ready None) h k asks = λ t c. h t (asks t (k t c))
asks_within more old new less Pending h k asks = λ t c. h t (asks t (k t c))

module _ {A B C E : Type 0} (g : A × B → C) where
  with-mirrored : (l : Option A) (r : Option B) (t : Trace C E) → with_result (mirror g) r l t ≡ with_result g l r t
  with-mirrored None None t = refl
  with-mirrored None (Some y) t = refl
  with-mirrored (Some x) None t = refl
  with-mirrored (Some x) (Some y) t = refl

  answer-mirrored : (arrival : Poll (Arrival E)) (both : Bool) (l : Option A) (r : Option B)
      → answer_to (mirror g) arrival both r l ≡ answer_to g arrival both l r
  answer-mirrored (Ready Came) both None None = refl
  answer-mirrored (Ready Came) both None (Some y) = refl
  answer-mirrored (Ready Came) both (Some x) None = refl
  answer-mirrored (Ready Came) both (Some x) (Some y) = refl
  answer-mirrored (Ready Done) true l r = refl
  answer-mirrored (Ready Done) false l r = refl
  answer-mirrored (Ready (Ended k)) both l r = refl
  answer-mirrored Pending both l r = refl

  mirrored : (p q : Bool) (turn : Turn) (l : Option A) (r : Option B) (t : Trace A E) (u : Trace B E) (out : Trace C E)
      → Combines g p q turn l r t u out → Combines (mirror g) q p (other_turn turn) r l u t out
  mirrored p q _ _ _ _ _ _ stops = stops
  mirrored p q _ _ _ _ _ _ (left_gives {l = l} {r = r} {t = t} {u = u} {out = out} x c) =
      rw (← (with-mirrored (Some x) r out)) (right_gives x (mirrored p q Right (Some x) r t u out c))
  mirrored p q _ _ _ _ _ _ (right_gives {l = l} {r = r} {t = t} {u = u} {out = out} y c) =
      rw (← (with-mirrored l (Some y) out)) (left_gives y (mirrored p q Left l (Some y) t u out c))
  mirrored p q _ _ _ _ _ _ (left_passes {l = l} {r = r} {t = t} {u = u} {out = out} e c) = right_passes e (mirrored p q Right l r t u out c)
  mirrored p q _ _ _ _ _ _ (right_passes {l = l} {r = r} {t = t} {u = u} {out = out} e c) = left_passes e (mirrored p q Left l r t u out c)
  mirrored p q _ _ _ _ _ _ finishes = finishes
  mirrored p q _ _ _ _ _ _ (left_fails k e) = right_fails k e
  mirrored p q _ _ _ _ _ _ (right_fails k e) = left_fails k e

  may_mirrored : (p q : Bool) (turn : Turn) (l : Option A) (r : Option B) (left : Traces A E) (right : Traces B E)
      → Within (MayCombine (mirror g) q p (other_turn turn) r l right left) (MayCombine g p q turn l r left right)
  may_mirrored p q turn l r left right t c = record {
    of_left = c.of_right;
    of_right = c.of_left;
    left_came = c.right_came;
    right_came = c.left_came;
    combines = mirrored p q turn l r _ _ t c.combines;
  }

module _ {A B C E : Type 0} (g : A × B → C) where
  pub asks_right : (p q q' : Bool) (l : Option A) (r r' : Option B) (lf : Bool) (left : Traces A E) (old new : Traces B E) (arrival : Poll (Arrival E))
      → left (so_far []) → (IsTrue q → IsReady arrival × IsTrue q') → Brings old r arrival (OrFinished (is_done arrival) new) r'
      → Asks (MayCombine g p q Right l r (OrFinished lf left) old) (answer_to g arrival (lf && is_done arrival) l r')
      (MayCombine g p q' (turn_to Left lf) l r' (OrFinished lf left) (OrFinished (is_done arrival) new))
  asks_right p q q' l r r' lf left old new arrival begun prompt b =
      let asks : Asks (MayCombine (mirror g) q p Left r l old (OrFinished lf left)) (answer_to (mirror g) arrival (is_done arrival && lf) r' l)
      (MayCombine (mirror g) q' p (other_turn (turn_to Left lf)) r' l (OrFinished (is_done arrival) new) (OrFinished lf left)) =
      rw (other-passes lf) (asks_left (mirror g) q p q' r r' l lf old new left arrival begun prompt b) in
      rw (← (answer-mirrored g arrival (lf && is_done arrival) l r'), ← (both-mirrored lf (is_done arrival)))
      (asks_within _ _ _ _ _ (may_mirrored (mirror g) q p Left r l old (OrFinished lf left))
      (may_mirrored g p q' (turn_to Left lf) l r' (OrFinished lf left) (OrFinished (is_done arrival) new)) asks)

-- ---- where no side answers pending

module _ {A B C E : Type 0} (g : A × B → C) where
  abbrev right_first : Option A → Option B → Trace A E → List B → Option (Cause E) → Trace C E
  right_first l r t [] f = after_end f (rest_of_left g r t)
  right_first l r t (y ∷ ys) f = with_result g l (Some y) (in_turn g l (Some y) t.0 t.1 ys f)

  abbrev from_turn : Turn → Option A → Option B → Trace A E → Trace B E → Trace C E
  from_turn Left l r t u = in_turn g l r t.0 t.1 u.0 u.1
  from_turn Right l r t u = right_first l r t u.0 u.1

  result-begins : (l : Option A) (r : Option B) (t u : Trace C E) → t ⊑ u → with_result g l r t ⊑ with_result g l r u
  result-begins None r t u h = h
  result-begins (Some x) None t u h = h
  result-begins (Some x) (Some y) t u h = led-begins (g (x, y)) t u h

  left-first : (l : Option A) (r : Option B) (x : A) (xs : List A) (e : Option (Cause E)) (ys : List B) (f : Option (Cause E))
      → with_result g (Some x) r (right_first (Some x) r (xs, e) ys f) ≡ in_turn g l r (x ∷ xs) e ys f
  left-first l r x xs e [] f = refl
  left-first l r x xs e (y ∷ ys) f = refl

  no-more_left : (r : Option B) (e : Option (Cause E)) → rest_of_left g r ([], e) ≡ ([], e)
  no-more_left None e = refl
  no-more_left (Some y) e = refl

  no-more_right : (l : Option A) (f : Option (Cause E)) → rest_of_right g l ([], f) ≡ ([], f)
  no-more_right None f = refl
  no-more_right (Some x) f = refl

  -- after an end at which nothing more comes there is that end
  after-end_alone : (e : Option (Cause E)) → after_end {C = C} e (ended_by [] Finished) ≡ ([], e)
  after-end_alone None = refl
  after-end_alone (Some Finished) = refl
  after-end_alone (Some (Failed f)) = refl
  after-end_alone (Some Cancelled) = refl
  after-end_alone (Some (Refused why)) = refl

  after-end_by : (k : Cause E) (rest : Trace C E) → (k ≡ Finished → ⊥) → after_end (Some k) rest ≡ ended_by [] k
  after-end_by Finished rest fails = absurd (fails refl)
  after-end_by (Failed e) rest fails = refl
  after-end_by Cancelled rest fails = refl
  after-end_by (Refused why) rest fails = refl

  left-over : (l : Option A) (r : Option B) (ys : List B) (f : Option (Cause E))
      → right_first l r (ended_by [] Finished) ys f ≡ rest_of_right g l (ys, f)
  left-over l r [] f = ap (after_end f) (no-more_left r (Some Finished)) ∙ after-end_alone f ∙ sym (no-more_right l f)
  left-over None r (y ∷ ys) f = refl
  left-over (Some x) r (y ∷ ys) f = refl

  right-over : (l : Option A) (r : Option B) (xs : List A) (e : Option (Cause E)) → in_turn g l r xs e [] (Some Finished) ≡ rest_of_left g r (xs, e)
  right-over l r [] e = ap (after_end e) (no-more_right l (Some Finished)) ∙ after-end_alone e ∙ sym (no-more_left r e)
  right-over l None (x ∷ xs) e = refl
  right-over l (Some y) (x ∷ xs) e = refl

  -- where no side answers pending, it gives what the values make in turn
  alternates : (turn : Turn) (l : Option A) (r : Option B) (t : Trace A E) (u : Trace B E) (out : Trace C E)
      → Combines g true true turn l r t u out → out ⊑ from_turn turn l r t u
  alternates _ _ _ _ _ _ stops = begins-any _
  alternates _ _ _ _ _ _ (left_gives {l = l} {r = r} {t = t} {u = u} {out = out} x c) =
      subst (λ (w : Trace C E). with_result g (Some x) r out ⊑ w) (left-first l r x t.0 t.1 u.0 u.1)
      (result-begins (Some x) r _ _ (alternates Right (Some x) r t u out c))
  alternates _ _ _ _ _ _ (right_gives {l = l} {r = r} {t = t} {u = u} {out = out} y c) =
      result-begins l (Some y) _ _ (alternates Left l (Some y) t u out c)
  alternates _ _ _ _ _ _ (left_passes {l = l} {r = r} {t = t} {u = u} {out = out} e c) =
      let over : out ⊑ right_first l r (ended_by [] Finished) u.0 u.1 =
      subst (λ (w : Trace A E). out ⊑ right_first l r w u.0 u.1) (e refl) (alternates Right l r t u out c) in
      subst (λ (w : Trace A E). out ⊑ in_turn g l r w.0 w.1 u.0 u.1) (sym (e refl)) (subst (λ (w : Trace C E). out ⊑ w) (left-over l r u.0 u.1) over)
  alternates _ _ _ _ _ _ (right_passes {l = l} {r = r} {t = t} {u = u} {out = out} e c) =
      let over : out ⊑ in_turn g l r t.0 t.1 [] (Some Finished) =
      subst (λ (w : Trace B E). out ⊑ in_turn g l r t.0 t.1 w.0 w.1) (e refl) (alternates Left l r t u out c) in
      subst (λ (w : Trace B E). out ⊑ right_first l r t w.0 w.1) (sym (e refl)) (subst (λ (w : Trace C E). out ⊑ w) (right-over l r t.0 t.1) over)
  alternates Left _ _ _ _ _ (finishes {l = l} {r = r}) = inl (sym (no-more_right l (Some Finished)))
  alternates Right _ _ _ _ _ (finishes {l = l} {r = r}) = inl (sym (no-more_left r (Some Finished)))
  alternates _ _ _ _ _ _ (left_fails {l = l} {r = r} {u = u} k fails) = inl (sym (after-end_by k _ fails))
  alternates _ _ _ _ _ _ (right_fails {l = l} {r = r} {t = t} k fails) = inl (sym (after-end_by k _ fails))

  -- Where each side may give only the beginnings of one trace, and no side answers pending, a combine gives the beginnings of what it makes of both.
  combine_fixed : (left : Traces A E) (right : Traces B E) (a : Trace A E) (b : Trace B E) → Within (Beginnings a) left → Within (Beginnings b) right
      → Within (Beginnings (combine_trace g a b)) (MayCombine g true true Left None None left right)
  combine_fixed left right a b of_left of_right t h =
      alternates Left None None a b t (extends g true true Left None None h.of_left h.of_right t a b h.combines
      (of_left _ h.left_came) (of_right _ h.right_came))

  pub combine_exact : (p q : Bool) (left : Traces A E) (right : Traces B E) (a : Trace A E) (b : Trace B E) → IsTrue p → IsTrue q
      → Within (Beginnings a) left → Within (Beginnings b) right → Within (Beginnings (combine_trace g a b)) (MayCombine g p q Left None None left right)
  combine_exact p q left right a b h k of_left of_right t c =
      combine_fixed left right a b of_left of_right t
      (record {
        of_left = c.of_left;
        of_right = c.of_right;
        left_came = c.left_came;
        right_came = c.right_came;
        combines = loosen g true true p q (λ _. h) (λ _. k) _ _ _ _ _ _ c.combines;
      })

module _ {L R A B E : Type 0} (left_polled : L → Poll (Event A E) → L → Type 0) (right_polled : R → Poll (Event B E) → R → Type 0) where
  -- after a pending answer of one side, where the other has finished or waited before
  pub both_waited : (turn now : Turn) (left_finished right_finished : Bool) (l l' : L) (r r' : R)
      → SideWaited left_polled right_polled turn now left_finished right_finished l r l' r'
      → OtherWaited left_polled right_polled turn l r ⊎ (IsTrue left_finished ⊎ IsTrue right_finished)
      → BothWaited left_polled right_polled left_finished right_finished l' r'
  both_waited Left now left_finished right_finished l l' r r' s (inl other) = (inr s.2, inr (subst (HasWaited right_polled) (sym s.3) other))
  both_waited Left now left_finished right_finished l l' r r' s (inr (inl done)) = absurd (let open_is = s.0 in cc)
  both_waited Left now left_finished right_finished l l' r r' s (inr (inr done)) = (inr s.2, inl done)
  both_waited Right now left_finished right_finished l l' r r' s (inl other) = (inr (subst (HasWaited left_polled) (sym s.3) other), inr s.2)
  both_waited Right now left_finished right_finished l l' r r' s (inr (inl done)) = (inl done, inr s.2)
  both_waited Right now left_finished right_finished l l' r r' s (inr (inr done)) = absurd (let open_is = s.0 in cc)

  -- where neither side has finished, the turn passed to the other
  pub other_waited : (turn now : Turn) (left_finished right_finished : Bool) (l l' : L) (r r' : R)
      → SideWaited left_polled right_polled turn now left_finished right_finished l r l' r' → left_finished ≡ false → right_finished ≡ false
      → OtherWaited left_polled right_polled now l' r'
  other_waited Left now left_finished right_finished l l' r r' s left_open right_open =
      let passed : now ≡ Right = s.1 ∙ ap (turn_to Right) right_open in rw passed s.2
  other_waited Right now left_finished right_finished l l' r r' s left_open right_open =
      let passed : now ≡ Left = s.1 ∙ ap (turn_to Left) left_open in rw passed s.2
