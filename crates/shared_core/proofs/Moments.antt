-- An execution before and after one of its calls.
use Rattle.std.proofs.Common.{◌≡◌, ℕ, suc, ◌+◌, List, [], ◌∷◌, ◌++◌, length, Some, slice_get, refl, sym, ap, ◌∙◌, arith, append_assoc}
use Rattle.std.proofs.lemmas.Option.{same_Some}
use Rattle.shared_core.specs.Flow.{Parameters, State, empty}
use Rattle.shared_core.specs.Calls.{Call, Reply, step, replies, after}
use Rattle.shared_core.specs.Shown.{seen_of}
use Rattle.shared_core.specs.Story.{given_to}
use Rattle.shared_core.specs.Headline.{execution_of, Moment, until}
use Rattle.shared_core.proofs.Given.{given_append}
use Rattle.shared_core.proofs.Sequence.{fixed_parameters}
use Rattle.shared_core.proofs.Walks.{after_over}

-- what stands between two lists
pub slice_get-seam : {X : Type 0} (xs : List X) (y : X) (ys : List X) → slice_get (xs ++ y ∷ ys) (length xs) ≡ Some y
slice_get-seam [] y ys = refl
slice_get-seam (x ∷ xs) y ys = slice_get-seam xs y ys

-- an element after a list
pub slice_get-after : {X : Type 0} (xs ys : List X) (k : ℕ) → slice_get (xs ++ ys) (length xs + k) ≡ slice_get ys k
slice_get-after [] ys k = let same : 0 + k ≡ k = omega arith in ap (slice_get ys) same
slice_get-after (x ∷ xs) ys k =
    let same : suc (length xs) + k ≡ suc (length xs + k) = omega arith in
    ap (slice_get (x ∷ (xs ++ ys))) same ∙ slice_get-after xs ys k

module _ {T : Type 0} where
  pub after-append : (before later : List (Call T)) (M : State T) → after (before ++ later) M ≡ after later (after before M)
  after-append [] later M = refl
  after-append (call ∷ before) later M = after-append before later (step call M).1

  pub replies-append : (before later : List (Call T)) (M : State T) → replies (before ++ later) M ≡ replies before M ++ replies later (after before M)
  replies-append [] later M = refl
  replies-append (call ∷ before) later M = ap (λ rs. (step call M).0 ∷ rs) (replies-append before later (step call M).1)

  pub length-replies : (calls : List (Call T)) (M : State T) → length (replies calls M) ≡ length calls
  length-replies [] M = refl
  length-replies (call ∷ calls) M = ap suc (length-replies calls (step call M).1)

  pub given-append : (n : ℕ) (before later : List (Call T)) (M : State T) → given_to n (before ++ later) (replies (before ++ later) M) ≡ given_to n before (replies before M) ++ given_to n later (replies later (after before M))
  given-append n [] later M = refl
  given-append n (call ∷ before) later M =
      let N = (step call M).1 in
      given_append n call (step call M).0 (before ++ later) (replies (before ++ later) N)
      ∙ ap (λ xs. given_to n (call ∷ []) ((step call M).0 ∷ []) ++ xs) (given-append n before later N)
      ∙ sym (append_assoc (given_to n (call ∷ []) ((step call M).0 ∷ [])) (given_to n before (replies before N)) (given_to n later (replies later (after before N))))
      ∙ ap (λ xs. xs ++ given_to n later (replies later (after before N))) (sym (given_append n call (step call M).0 before (replies before N)))

  -- a moment of an execution of the model
  module _ (p : Parameters) (calls : List (Call T)) where
    pub until_is : {call : Call T} {reply : Reply T} (moment : Moment (execution_of p calls) call reply) → until moment ≡ execution_of p moment.before
    unfolding seen_of
    until_is moment = ap (λ q. execution_of q moment.before) (after_over fixed_parameters calls (empty p))

    pub answered : {call : Call T} {reply : Reply T} (moment : Moment (execution_of p calls) call reply) → (step call (after moment.before (empty p))).0 ≡ reply
    answered {call = call} {reply = reply} moment =
        let M = after moment.before (empty p) in
        let rs = replies moment.before (empty p) in
        let there : slice_get (replies (moment.before ++ call ∷ moment.later) (empty p)) (length moment.before) ≡ Some (step call M).0 =
        ap (λ xs. slice_get xs (length moment.before)) (replies-append moment.before (call ∷ moment.later) (empty p))
        ∙ ap (slice_get (rs ++ (step call M).0 ∷ replies moment.later (step call M).1)) (sym (length-replies moment.before (empty p)))
        ∙ slice_get-seam rs (step call M).0 (replies moment.later (step call M).1) in
        same_Some (step call M).0 reply (sym there ∙ ap (λ cs. slice_get (replies cs (empty p)) (length moment.before)) (sym moment.called) ∙ moment.replied)

    pub ends_as : {call : Call T} {reply : Reply T} (moment : Moment (execution_of p calls) call reply) → after calls (empty p) ≡ after moment.later (step call (after moment.before (empty p))).1
    ends_as {call = call} moment = ap (λ cs. after cs (empty p)) moment.called ∙ after-append moment.before (call ∷ moment.later) (empty p)

    -- any call of the execution, at its moment
    abbrev pub moment_at : (before : List (Call T)) (call : Call T) (later : List (Call T)) (M : State T) → calls ≡ before ++ call ∷ later → after before (empty p) ≡ M → Moment (execution_of p calls) call (step call M).0
    moment_at before call later M called reached = record {
      before = before;
      later = later;
      called = called;
      replied =
          ap (λ cs. slice_get (replies cs (empty p)) (length before)) called
          ∙ ap (λ rs. slice_get rs (length before)) (replies-append before (call ∷ later) (empty p))
          ∙ ap (slice_get (replies before (empty p) ++ replies (call ∷ later) (after before (empty p)))) (sym (length-replies before (empty p)))
          ∙ slice_get-seam (replies before (empty p)) (step call (after before (empty p))).0 (replies later (step call (after before (empty p))).1)
          ∙ ap (λ N. Some (step call N).0) reached;
    }
