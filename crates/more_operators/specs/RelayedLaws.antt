-- Laws of operators that give up to four values for each value of their source.
use Rattle.std.specs.Prelude.{◌≡◌, ℕ, zero, suc, ◌+◌, ◌<◌, ◌&&◌, ◌||◌, Bool, true, false, IsTrue, IsSome, List, [], ◌∷◌, ◌++◌, Option, Some, None, refl}
use Rattle.std.specs.Iterator.{Count, IsFinite, size}
use Rattle.std.proofs.Common.{ap, sym, subst, inl, inr, arith}
use Rattle.flow_terms.specs.declared.few.Few.{Few}
use Rattle.flow_terms.specs.declared.few.Few.TheVariants.{Zero}
use Rattle.flow_terms.specs.Few.{values_of, split}
use Rattle.cold_flow.specs.declared.cause.Cause.{Cause}
use Rattle.cold_flow.specs.declared.cause.Cause.TheVariants.{Finished, Failed, Cancelled, Refused}
use Rattle.cold_flow.specs.declared.operators.closing.Closing.{Closing}
use Rattle.cold_flow.specs.declared.operators.closing.Closing.TheVariants.{Open, Last}
use Rattle.cold_flow.specs.Trace.{Trace, ◌⊑◌, so_far, ended_by, led_by}
use Rattle.cold_flow.specs.Poll.{Traces, Within, After, Through, Makes, MakesExactly, Fixes, IsWithinPolls}
use Rattle.cold_flow.specs.Polled.{IsNearer}
use Rattle.cold_flow.specs.Closing.{is_open}
use Rattle.cold_flow.specs.Laws.{Monotone, Through-skip, begins-any}
use Rattle.more_operators.specs.declared.operators.onward.Onward.{Onward}
use Rattle.more_operators.specs.declared.operators.onward.Onward.TheVariants.{More, Stop}
use Rattle.more_operators.specs.Retry.{behind}
use Rattle.more_operators.specs.RetryLaws.{behind-begins}
use Rattle.more_operators.specs.Held.{Holds, held_polls, first_event}
use Rattle.more_operators.specs.HeldLaws.{len-four, gives_some}
use Rattle.more_operators.specs.Relayed.{relayed, relayed_on, relayed_end, relayed_trace, given_by, held_at_end, closing_at_end, GivesSoon}

module _ {B E : Type 0} where
  on-grows : (given : Onward B) (t u : Trace B E) → t ⊑ u → relayed_on given t ⊑ relayed_on given u
  on-grows (More few) t u h = behind-begins (values_of few) t u h
  on-grows (Stop few) t u h = inl refl

  on-cause : (given : Onward B) (t : Trace B E) (end : Option (Cause E)) → (t.1 ≡ Some Cancelled → end ≡ Some Cancelled)
      → (relayed_on given t).1 ≡ Some Cancelled → end ≡ Some Cancelled
  on-cause (More few) t end before e = before e
  on-cause (Stop few) t end before e = absurd (cc)

  end-cause : (last : List B) (end : Option (Cause E)) → (relayed_end last end).1 ≡ Some Cancelled → end ≡ Some Cancelled
  end-cause last None e = e
  end-cause last (Some Finished) e = e
  end-cause last (Some (Failed f)) e = e
  end-cause last (Some Cancelled) e = e
  end-cause last (Some (Refused r)) e = e

module _ {M A B E : Type 0} (takes : M → A → Onward B) (after : M → A → M) (closes : M → Few B) where
  -- a value of the source, after which it goes on
  pub relay_more : (relay next : M) (x : A) (few : Few B) (old new : Traces A E) → More few ≡ takes relay x → next ≡ after relay x
      → After old x new → Within (Through (relayed_trace takes after closes relay) old)
      (Holds (relayed_trace takes after closes next) Open few new)
  relay_more relay next x few old new is so came =
      rw so (Through-skip (relayed_trace takes after closes relay) (λ u. behind (values_of few) (relayed_trace takes after closes (after relay x) u)) old new x
      (λ u. ap (λ (g : Onward B). relayed_on g (relayed_trace takes after closes (after relay x) u)) (sym is)) came)

  -- the last value
  pub relay_stops : (relay next : M) (x : A) (few : Few B) (old mid new : Traces A E) → Stop few ≡ takes relay x → After old x mid
      → mid (so_far []) → Within (Through (relayed_trace takes after closes relay) old)
      (Holds (relayed_trace takes after closes next) Last few new)
  relay_stops relay next x few old mid new is came begun t h = record {
    given = led_by x (so_far []);
    came = came (so_far []) begun;
    begins = subst (λ (g : Onward B). t ⊑ relayed_on g (relayed_trace takes after closes (after relay x) (so_far []))) is h;
  }

  -- an end of the source
  pub relay_ends : (relay : M) (k : Cause E) (old new : Traces A E) → old (ended_by [] k)
      → Within (Through (relayed_trace takes after closes relay) old)
      (Holds (relayed_trace takes after closes relay) (closing_at_end k) (held_at_end (closes relay) k) new)
  relay_ends relay Finished old new came t h = record { given = ended_by [] Finished; came = came; begins = h }
  relay_ends relay (Failed f) old new came t h = record { given = ended_by [] (Failed f); came = came; begins = h }
  relay_ends relay Cancelled old new came t h = record { given = ended_by [] Cancelled; came = came; begins = h }
  relay_ends relay (Refused r) old new came t h = record { given = ended_by [] (Refused r); came = came; begins = h }

  relayed-grows : (relay : M) (xs rest : List A) (end : Option (Cause E))
      → relayed takes after closes relay xs None ⊑ relayed takes after closes relay (xs ++ rest) end
  relayed-grows relay [] rest end = begins-any (relayed takes after closes relay rest end)
  relayed-grows relay (x ∷ xs) rest end =
      on-grows (takes relay x) (relayed takes after closes (after relay x) xs None)
      (relayed takes after closes (after relay x) (xs ++ rest) end) (relayed-grows (after relay x) xs rest end)

  pub relayed-monotone : (relay : M) (held : List B) → Monotone {A = A} {B = B} {E = E} (λ u. behind held (relayed_trace takes after closes relay u))
  relayed-monotone relay held t u (inl e) = inl (ap (λ (v : Trace A E). behind held (relayed_trace takes after closes relay v)) e)
  relayed-monotone relay held (xs, None) u (inr h) =
      behind-begins held (relayed takes after closes relay xs None) (relayed takes after closes relay u.0 u.1)
      (subst (λ (ys : List A). relayed takes after closes relay xs None ⊑ relayed takes after closes relay ys u.1) h.1.1
      (relayed-grows relay xs h.1.0 u.1))
  relayed-monotone relay held (xs, Some k) u (inr h) = absurd (cc)

  cause-on : (relay : M) (xs : List A) (end : Option (Cause E)) → (relayed takes after closes relay xs end).1 ≡ Some Cancelled
      → end ≡ Some Cancelled
  cause-on relay [] end e = end-cause (values_of (closes relay)) end e
  cause-on relay (x ∷ xs) end e =
      on-cause (takes relay x) (relayed takes after closes (after relay x) xs end) end (cause-on (after relay x) xs end) e

  -- it ends by a cancellation only where its source does
  pub relayed-cause : (relay : M) (held : List B) (t : Trace A E) (k : Option (Cause E))
      → (behind held (relayed_trace takes after closes relay t)).1 ≡ Some Cancelled → t.1 ≡ Some Cancelled
  relayed-cause relay held t k e = cause-on relay t.0 t.1 e

-- ---- the same function by other words

module _ {A B E : Type 0} (f g : Trace A E → Trace B E) (same : (t : Trace A E) → f t ≡ g t) (source : Traces A E) (made : Traces B E) where
  pub makes-same : Makes f source made → Makes g source made
  makes-same makes t h =
      let found = makes t h in
      record { given = found.given; came = found.came; begins = subst (λ (u : Trace B E). t ⊑ u) (same found.given) found.begins }

  pub exactly-same : MakesExactly f source made → MakesExactly g source made
  exactly-same exact whole fixed = subst (λ (u : Trace B E). Fixes u made) (same whole) (exact whole fixed)

-- ---- what a question to the source leaves

module _ {B : Type 0} where
  pub more_within : (E : Type 0) (held : Few B) (old new : Count) → (IsFinite old → IsFinite new × (size new < size old))
      → IsWithinPolls (held_polls {B = B} {E = E} Open Zero old) (held_polls {B = B} {E = E} Open held new)
  more_within E held old new fewer h = let now = fewer h in let len = len-four held in (now.0, omega arith)

  pub stop_within : (E : Type 0) (held : Few B) (old new : Count)
      → IsWithinPolls (held_polls {B = B} {E = E} Open Zero old) (held_polls {B = B} {E = E} Last held new)
  stop_within E held old new h = let len = len-four held in (tt, omega arith)

  pub end_within : {E : Type 0} (k : Cause E) (last : Few B) (old new : Count)
      → IsWithinPolls (held_polls {B = B} {E = E} Open Zero old) (held_polls (closing_at_end k) (held_at_end last k) new)
  end_within Finished last old new h = let len = len-four last in (tt, omega arith)
  end_within (Failed f) last old new h = (tt, omega arith)
  end_within Cancelled last old new h = (tt, omega arith)
  end_within (Refused r) last old new h = (tt, omega arith)

module _ {E : Type 0} where
  pub end_closed : {X : Type 0} (k : Cause E) → closing_at_end k ≡ Open → X
  end_closed Finished e = absurd (cc)
  end_closed (Failed f) e = absurd (cc)
  end_closed Cancelled e = absurd (cc)
  end_closed (Refused r) e = absurd (cc)

  pub end_stops : (k : Cause E) (source : Bool) → IsTrue source → IsTrue (is_open (closing_at_end k) || source)
  end_stops Finished source h = h
  end_stops (Failed f) source h = h
  end_stops Cancelled source h = h
  end_stops (Refused r) source h = h

pub nearer_one : (old new : Count) → (IsFinite old → IsFinite new × (size new < size old)) → IsNearer 1 old new
nearer_one old new fewer h = let now = fewer h in (now.0, omega arith)

pub never_true : {X : Type 0} → IsTrue false → X
never_true h = absurd (let wrong : false ≡ true = h in cc)

pub both-true : (a b : Bool) → IsTrue a → IsTrue b → IsTrue (a && b)
both-true true b h k = k
both-true false b h k = h

pub first-true : (a b : Bool) → IsTrue (a && b) → IsTrue a
first-true true b h = refl
first-true false b h = h

pub second-true : (a b : Bool) → IsTrue (a && b) → IsTrue b
second-true true b h = h
second-true false b h = absurd (cc)

-- what gives something for each value
pub gives_at_once : {B : Type 0} (given : Few B) → IsSome (split given) → GivesSoon 0 given 0
gives_at_once given some = (omega arith, inl some)

-- where nothing was given
pub gives_later : {B E : Type 0} (closing : Closing E) (held : Few B) (before later : ℕ) → first_event closing (split held) ≡ None
    → GivesSoon before held later → (before < 64) × (later < before)
gives_later closing held before later none (soon, inl some) = absurd (gives_some closing (split held) none some)
gives_later closing held before later none (soon, inr fewer) = (soon, fewer)

-- after one more value that gave nothing
pub still_soon : (asked before later : ℕ) → (0 < asked → asked + before < 64) → before < 64 → later < before → asked + 1 + later < 64
still_soon zero before later within soon fewer = omega arith
still_soon (suc asked) before later within soon fewer = let now = within (omega arith) in omega arith

-- one that gives something soon, over a source that never answers pending
pub more_prompt : {B Ready : Type 0} (before after : ℕ) (held : Few B) (given : Onward B) (steady prompt next later : Bool) → More held ≡ given
    → (IsTrue steady → GivesSoon before (given_by given) after × IsTrue next) → (IsTrue prompt → Ready × IsTrue later)
    → IsTrue (steady && prompt) → GivesSoon before held after × IsTrue (next && later)
more_prompt {B} before after held given steady prompt next later is each once h =
    let gave = each (first-true steady prompt h) in
    let later_too = once (second-true steady prompt h) in
    (subst (λ (o : Onward B). GivesSoon before (given_by o) after) (sym is) gave.0, both-true next later gave.1 later_too.1)
