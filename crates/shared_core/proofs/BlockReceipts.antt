-- Receipts by the block, one call after another.
use Rattle.std.proofs.Common.{◌≡◌, ℕ, suc, zero, ◌+◌, List, [], ◌∷◌, ◌++◌, refl, sym, ap, ◌∙◌, subst, arith, append_assoc}
use Rattle.std.proofs.lemmas.List.{append-nil}
use Rattle.flow_terms.specs.declared.answers.Next.{Next}
use Rattle.flow_terms.specs.declared.answers.Next.TheVariants.{Value, Nothing, Closed}
use Rattle.shared_core.specs.Flow.{State}
use Rattle.shared_core.specs.Calls.{next_value}
use Rattle.shared_core.specs.Blocks.{one_before, received_on, next_all, Receives}
use Rattle.shared_core.specs.Shown.{Seen, Shows, Follows}

module _ {T : Type 0} where
  -- so many, these, were received before
  abbrev pub after_these : ℕ → List T → (Next ℕ × List T) × State T → (Next ℕ × List T) × State T
  after_these k vs ((Value n, ws), M) = ((Value (k + n), vs ++ ws), M)
  after_these zero vs ((Nothing, ws), M) = ((Nothing, vs ++ ws), M)
  after_these zero vs ((Closed, ws), M) = ((Closed, vs ++ ws), M)
  after_these (suc k) vs ((Nothing, ws), M) = ((Value (suc k), vs ++ ws), M)
  after_these (suc k) vs ((Closed, ws), M) = ((Value (suc k), vs ++ ws), M)

  -- the block, where some state shows so, these were received, and so many are still asked for
  abbrev pub Goes : ℕ → ℕ → State T → ℕ → List T → ℕ → Seen T → Type 0
  Goes n room M k vs left now = (N : State T) × Shows now N × (next_all n room M ≡ after_these k vs (next_all n left N))

  abbrev pub Takes : ℕ → ℕ → Seen T → List T → ℕ → List T → ℕ → Seen T → Type 0
  Takes n room old before k after left now =
      (vs : List T) × (after ≡ before ++ vs) × ((M : State T) → Shows old M → Goes n room M k vs left now)

  nothing_before : (end : (Next ℕ × List T) × State T) → end ≡ after_these 0 [] end
  nothing_before ((Value j, ws), M) =
      let same : j ≡ 0 + j = omega arith in
      ap (λ i. ((Value i, ws), M)) same
  nothing_before ((Nothing, ws), M) = refl
  nothing_before ((Closed, ws), M) = refl

  pub begins : (n room : ℕ) (old : Seen T) (before : List T) → Takes n room old before 0 before room old
  begins n room old before = ([], sym (append-nil before), λ M shows. (M, shows, nothing_before (next_all n room M)))

  -- an end without a value, behind so many
  behind_nothing : (k j : ℕ) (vs : List T) (M : State T) → k ≡ suc j → after_these k vs ((Nothing, []), M) ≡ ((Value k, vs), M)
  behind_nothing k j vs M some =
      ap (λ i. after_these i vs ((Nothing, []), M)) some
      ∙ ap (λ ws. ((Value (suc j), ws), M)) (append-nil vs)
      ∙ ap (λ i. ((Value i, vs), M)) (sym some)

  behind_closed : (k j : ℕ) (vs : List T) (M : State T) → k ≡ suc j → after_these k vs ((Closed, []), M) ≡ ((Value k, vs), M)
  behind_closed k j vs M some =
      ap (λ i. after_these i vs ((Closed, []), M)) some
      ∙ ap (λ ws. ((Value (suc j), ws), M)) (append-nil vs)
      ∙ ap (λ i. ((Value i, vs), M)) (sym some)

  -- one more, before what is still asked for
  next_one : (k : ℕ) (vs : List T) (v : T) (end : (Next ℕ × List T) × State T) → after_these k vs (one_before v end) ≡ after_these (k + 1) (vs ++ v ∷ []) end
  next_one k vs v ((Value j, ws), M) =
      let same : k + (j + 1) ≡ k + 1 + j = omega arith in
      ap (λ i. ((Value i, vs ++ v ∷ ws), M)) same ∙ ap (λ xs. ((Value (k + 1 + j), xs), M)) (sym (append_assoc vs (v ∷ []) ws))
  next_one k vs v ((Nothing, ws), M) =
      let next : suc k ≡ k + 1 = omega arith in
      let same : k + 1 ≡ suc k = omega arith in
      ap (λ i. ((Value i, vs ++ v ∷ ws), M)) same
      ∙ ap (λ xs. ((Value (suc k), xs), M)) (sym (append_assoc vs (v ∷ []) ws))
      ∙ ap (λ i. after_these i (vs ++ v ∷ []) ((Nothing, ws), M)) next
  next_one k vs v ((Closed, ws), M) =
      let next : suc k ≡ k + 1 = omega arith in
      let same : k + 1 ≡ suc k = omega arith in
      ap (λ i. ((Value i, vs ++ v ∷ ws), M)) same
      ∙ ap (λ xs. ((Value (suc k), xs), M)) (sym (append_assoc vs (v ∷ []) ws))
      ∙ ap (λ i. after_these i (vs ++ v ∷ []) ((Closed, ws), M)) next

  on_value : (answer : Next T × State T) (rest : State T → (Next ℕ × List T) × State T) (v : T)
      → Value v ≡ answer.0 → received_on answer rest ≡ one_before v (rest answer.1)
  on_value (Value w, N) rest v is =
      let same : w ≡ v = cc in
      ap (λ x. one_before x (rest N)) same
  on_value (Nothing, N) rest v is = cc
  on_value (Closed, N) rest v is = cc

  on_nothing : (answer : Next T × State T) (rest : State T → (Next ℕ × List T) × State T)
      → Nothing ≡ answer.0 → received_on answer rest ≡ ((Nothing, []), answer.1)
  on_nothing (Value w, N) rest is = cc
  on_nothing (Nothing, N) rest is = refl
  on_nothing (Closed, N) rest is = cc

  on_closed : (answer : Next T × State T) (rest : State T → (Next ℕ × List T) × State T)
      → Closed ≡ answer.0 → received_on answer rest ≡ ((Closed, []), answer.1)
  on_closed (Value w, N) rest is = cc
  on_closed (Nothing, N) rest is = cc
  on_closed (Closed, N) rest is = refl

  pub goes_on : (n room k left : ℕ) (old now new : Seen T) (before after : List T) (v : T)
      → Takes n room old before k after (suc left) now → Follows (next_value n) now (Value v) new
      → Takes n room old before (k + 1) (after ++ v ∷ []) left new
  goes_on n room k left old now new before after v takes this =
      let vs = takes.0 in
      let added : after ++ v ∷ [] ≡ before ++ (vs ++ v ∷ []) = ap (λ xs. xs ++ v ∷ []) takes.1 ∙ append_assoc before vs (v ∷ []) in (
        vs ++ v ∷ [],
        added,
        λ M shows.
            let so_far = takes.2 M shows in
            let step = this so_far.0 so_far.1 in
            let answer = next_value n so_far.0 in (
              answer.1,
              step.1,
              so_far.2 ∙ ap (after_these k vs) (on_value answer (next_all n left) v step.0) ∙ next_one k vs v (next_all n left answer.1),
            ),
      )

  ends : (n room : ℕ) (M N : State T) (new : Seen T) (answer : Next ℕ) (vs : List T)
      → Shows new N → next_all n room M ≡ ((answer, vs), N) → ((answer, vs) ≡ (next_all n room M).0) × Shows new (next_all n room M).1
  ends n room M N new answer vs shows is = (sym (ap (λ x. x.0) is), subst (λ x. Shows new x.1) (sym is) shows)

  pub nothing_first : (n room left : ℕ) (old now new : Seen T) (before after : List T)
      → Takes n room old before 0 after (suc left) now → Follows (next_value n) now Nothing new
      → Receives n room old before Nothing after new
  nothing_first n room left old now new before after takes this =
      let vs = takes.0 in (
        vs,
        takes.1,
        λ M shows.
            let so_far = takes.2 M shows in
            let step = this so_far.0 so_far.1 in
            let answer = next_value n so_far.0 in
            ends n room M answer.1 new Nothing vs step.1
            (so_far.2 ∙ ap (after_these 0 vs) (on_nothing answer (next_all n left) step.0) ∙ ap (λ ws. ((Nothing, ws), answer.1)) (append-nil vs)),
      )

  pub closed_first : (n room left : ℕ) (old now new : Seen T) (before after : List T)
      → Takes n room old before 0 after (suc left) now → Follows (next_value n) now Closed new
      → Receives n room old before Closed after new
  closed_first n room left old now new before after takes this =
      let vs = takes.0 in (
        vs,
        takes.1,
        λ M shows.
            let so_far = takes.2 M shows in
            let step = this so_far.0 so_far.1 in
            let answer = next_value n so_far.0 in
            ends n room M answer.1 new Closed vs step.1
            (so_far.2 ∙ ap (after_these 0 vs) (on_closed answer (next_all n left) step.0) ∙ ap (λ ws. ((Closed, ws), answer.1)) (append-nil vs)),
      )

  pub nothing_later : (n room k j left : ℕ) (old now new : Seen T) (before after : List T) → k ≡ suc j
      → Takes n room old before k after (suc left) now → Follows (next_value n) now Nothing new
      → Receives n room old before (Value k) after new
  nothing_later n room k j left old now new before after some takes this =
      let vs = takes.0 in (
        vs,
        takes.1,
        λ M shows.
            let so_far = takes.2 M shows in
            let step = this so_far.0 so_far.1 in
            let answer = next_value n so_far.0 in
            ends n room M answer.1 new (Value k) vs step.1
            (so_far.2 ∙ ap (after_these k vs) (on_nothing answer (next_all n left) step.0) ∙ behind_nothing k j vs answer.1 some),
      )

  pub closed_later : (n room k j left : ℕ) (old now new : Seen T) (before after : List T) → k ≡ suc j
      → Takes n room old before k after (suc left) now → Follows (next_value n) now Closed new
      → Receives n room old before (Value k) after new
  closed_later n room k j left old now new before after some takes this =
      let vs = takes.0 in (
        vs,
        takes.1,
        λ M shows.
            let so_far = takes.2 M shows in
            let step = this so_far.0 so_far.1 in
            let answer = next_value n so_far.0 in
            ends n room M answer.1 new (Value k) vs step.1
            (so_far.2 ∙ ap (after_these k vs) (on_closed answer (next_all n left) step.0) ∙ behind_closed k j vs answer.1 some),
      )

  pub whole : (n room k : ℕ) (old now : Seen T) (before after : List T)
      → Takes n room old before k after 0 now → Receives n room old before (Value k) after now
  whole n room k old now before after takes =
      let vs = takes.0 in (
        vs,
        takes.1,
        λ M shows.
            let so_far = takes.2 M shows in
            let same : k + 0 ≡ k = omega arith in
            ends n room M so_far.0 now (Value k) vs so_far.1
            (so_far.2 ∙ ap (λ i. ((Value i, vs ++ []), so_far.0)) same ∙ ap (λ ws. ((Value k, ws), so_far.0)) (append-nil vs)),
      )
