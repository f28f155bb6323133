-- Calls by the block, one call after another.
use Rattle.std.proofs.Common.{◌≡◌, ℕ, suc, zero, ◌+◌, List, [], ◌∷◌, Result, Ok, Err, refl, sym, ap, ◌∙◌, subst, arith}
use Rattle.flow_terms.specs.declared.refusal.Refusal.{Refusal}
use Rattle.flow_terms.specs.declared.answers.Tried.{Tried}
use Rattle.flow_terms.specs.declared.answers.Tried.TheVariants.{Accepted, Dropped, Full}
use Rattle.shared_core.specs.Flow.{State}
use Rattle.shared_core.specs.Calls.{try_emit}
use Rattle.shared_core.specs.Blocks.{one_more, tried_on, try_emit_all}
use Rattle.shared_core.specs.Shown.{Seen, Shows, Follows}

module _ {T : Type 0} where
  -- so many were accepted before
  abbrev pub after_so_many : ℕ → Result ℕ Refusal × State T → Result ℕ Refusal × State T
  after_so_many k (Ok n, M) = (Ok (k + n), M)
  after_so_many zero (Err refusal, M) = (Err refusal, M)
  after_so_many (suc k) (Err refusal, M) = (Ok (suc k), M)

  -- the block, where some state shows so, so many were accepted, and these are left
  abbrev pub Goes : ℕ → List T → State T → ℕ → List T → Seen T → Type 0
  Goes emitter values M count left now = (N : State T) × Shows now N × (try_emit_all emitter values M ≡ after_so_many count (try_emit_all emitter left N))

  abbrev pub Tries : ℕ → List T → Seen T → ℕ → List T → Seen T → Type 0
  Tries emitter values old count left now = (M : State T) → Shows old M → Goes emitter values M count left now

  refused : (k : ℕ) (refusal : Refusal) (M : State T) → after_so_many (suc k) (Err refusal, M) ≡ (Ok (suc k), M)
  refused k refusal M = refl

  next_one : (k : ℕ) (end : Result ℕ Refusal × State T) → after_so_many k (one_more end) ≡ after_so_many (k + 1) end
  next_one k (Ok n, M) =
      let same : k + (n + 1) ≡ k + 1 + n = omega arith in
      ap (λ c. (Ok c, M)) same
  next_one k (Err refusal, M) =
      let same : k + 1 ≡ suc k = omega arith in
      let next : suc k ≡ k + 1 = omega arith in
      ap (λ c. (Ok c, M)) same ∙ sym (refused k refusal M) ∙ ap (λ j. after_so_many j (Err refusal, M)) next

  none_more : (k : ℕ) (M : State T) → after_so_many k (Ok 0, M) ≡ (Ok k, M)
  none_more k M =
      let same : k + 0 ≡ k = omega arith in
      ap (λ c. (Ok c, M)) same

  on_accepted : (answer : Result (Tried ℕ) Refusal × State T) (rest : State T → Result ℕ Refusal × State T) (n : ℕ)
      → Ok (Accepted n) ≡ answer.0 → tried_on answer rest ≡ one_more (rest answer.1)
  on_accepted (Ok (Accepted m), N) rest n is = refl
  on_accepted (Ok Dropped, N) rest n is = cc
  on_accepted (Ok Full, N) rest n is = cc
  on_accepted (Err refusal, N) rest n is = cc

  on_dropped : (answer : Result (Tried ℕ) Refusal × State T) (rest : State T → Result ℕ Refusal × State T)
      → Ok Dropped ≡ answer.0 → tried_on answer rest ≡ (Ok 0, answer.1)
  on_dropped (Ok (Accepted m), N) rest is = cc
  on_dropped (Ok Dropped, N) rest is = refl
  on_dropped (Ok Full, N) rest is = cc
  on_dropped (Err refusal, N) rest is = cc

  on_full : (answer : Result (Tried ℕ) Refusal × State T) (rest : State T → Result ℕ Refusal × State T)
      → Ok Full ≡ answer.0 → tried_on answer rest ≡ (Ok 0, answer.1)
  on_full (Ok (Accepted m), N) rest is = cc
  on_full (Ok Dropped, N) rest is = cc
  on_full (Ok Full, N) rest is = refl
  on_full (Err refusal, N) rest is = cc

  on_refused : (answer : Result (Tried ℕ) Refusal × State T) (rest : State T → Result ℕ Refusal × State T) (refusal : Refusal)
      → Err refusal ≡ answer.0 → tried_on answer rest ≡ (Err refusal, answer.1)
  on_refused (Ok (Accepted m), N) rest refusal is = cc
  on_refused (Ok Dropped, N) rest refusal is = cc
  on_refused (Ok Full, N) rest refusal is = cc
  on_refused (Err other, N) rest refusal is =
      let same : other ≡ refusal = cc in
      ap (λ x. (Err x, N)) same

  pub goes_on : (emitter : ℕ) (values left : List T) (value : T) (k n : ℕ) (old now new : Seen T)
      → Tries emitter values old k (value ∷ left) now → Follows (try_emit emitter value) now (Ok (Accepted n)) new
      → Tries emitter values old (k + 1) left new
  goes_on emitter values left value k n old now new tries this M shows =
      let so_far = tries M shows in
      let N = so_far.0 in
      let step = this N so_far.1 in
      let rest = try_emit_all emitter left in (
        (try_emit emitter value N).1,
        step.1,
        so_far.2 ∙ ap (after_so_many k) (on_accepted (try_emit emitter value N) rest n step.0) ∙ next_one k (rest (try_emit emitter value N).1),
      )

  ends : (emitter : ℕ) (values : List T) (M N : State T) (k : ℕ) (new : Seen T) (result : Result ℕ Refusal)
      → Shows new N → try_emit_all emitter values M ≡ (result, N) → (result ≡ (try_emit_all emitter values M).0) × Shows new (try_emit_all emitter values M).1
  ends emitter values M N k new result shows is = (sym (ap (λ x. x.0) is), subst (λ x. Shows new x.1) (sym is) shows)

  pub dropped_one : (emitter : ℕ) (values left : List T) (value : T) (k : ℕ) (old now new : Seen T)
      → Tries emitter values old k (value ∷ left) now → Follows (try_emit emitter value) now (Ok Dropped) new
      → Follows (try_emit_all emitter values) old (Ok k) new
  dropped_one emitter values left value k old now new tries this M shows =
      let so_far = tries M shows in
      let step = this so_far.0 so_far.1 in
      let answer = try_emit emitter value so_far.0 in
      ends emitter values M answer.1 k new (Ok k) step.1 (so_far.2 ∙ ap (after_so_many k) (on_dropped answer (try_emit_all emitter left) step.0) ∙ none_more k answer.1)

  pub full_one : (emitter : ℕ) (values left : List T) (value : T) (k : ℕ) (old now new : Seen T)
      → Tries emitter values old k (value ∷ left) now → Follows (try_emit emitter value) now (Ok Full) new
      → Follows (try_emit_all emitter values) old (Ok k) new
  full_one emitter values left value k old now new tries this M shows =
      let so_far = tries M shows in
      let step = this so_far.0 so_far.1 in
      let answer = try_emit emitter value so_far.0 in
      ends emitter values M answer.1 k new (Ok k) step.1 (so_far.2 ∙ ap (after_so_many k) (on_full answer (try_emit_all emitter left) step.0) ∙ none_more k answer.1)

  pub refused_first : (emitter : ℕ) (values left : List T) (value : T) (refusal : Refusal) (old now new : Seen T)
      → Tries emitter values old 0 (value ∷ left) now → Follows (try_emit emitter value) now (Err refusal) new
      → Follows (try_emit_all emitter values) old (Err refusal) new
  refused_first emitter values left value refusal old now new tries this M shows =
      let so_far = tries M shows in
      let step = this so_far.0 so_far.1 in
      let answer = try_emit emitter value so_far.0 in
      ends emitter values M answer.1 0 new (Err refusal) step.1
      (so_far.2 ∙ ap (after_so_many 0) (on_refused answer (try_emit_all emitter left) refusal step.0))

  refused_behind : (k j : ℕ) (refusal : Refusal) (M : State T) → k ≡ suc j → after_so_many k (Err refusal, M) ≡ (Ok k, M)
  refused_behind k j refusal M some = ap (λ i. after_so_many i (Err refusal, M)) some ∙ ap (λ i. (Ok i, M)) (sym some)

  pub refused_later : (emitter : ℕ) (values left : List T) (value : T) (refusal : Refusal) (k j : ℕ) (old now new : Seen T) → k ≡ suc j
      → Tries emitter values old k (value ∷ left) now → Follows (try_emit emitter value) now (Err refusal) new
      → Follows (try_emit_all emitter values) old (Ok k) new
  refused_later emitter values left value refusal k j old now new some tries this M shows =
      let so_far = tries M shows in
      let step = this so_far.0 so_far.1 in
      let answer = try_emit emitter value so_far.0 in
      ends emitter values M answer.1 k new (Ok k) step.1
      (so_far.2 ∙ ap (after_so_many k) (on_refused answer (try_emit_all emitter left) refusal step.0) ∙ refused_behind k j refusal answer.1 some)

  pub whole : (emitter : ℕ) (values : List T) (k : ℕ) (old now : Seen T)
      → Tries emitter values old k [] now → Follows (try_emit_all emitter values) old (Ok k) now
  whole emitter values k old now tries M shows =
      let so_far = tries M shows in
      ends emitter values M so_far.0 k now (Ok k) so_far.1 (so_far.2 ∙ none_more k so_far.0)
