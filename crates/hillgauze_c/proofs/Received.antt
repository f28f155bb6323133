-- What is received into a slice: its front, value by value.
use Rattle.std.proofs.Common.{◌≡◌, ℕ, suc, ◌+◌, ◌-◌, ◌<◌, List, [], ◌∷◌, ◌++◌, length, drop, set, refl, sym, ap, ◌∙◌, arith, append_assoc, length-append, get_or}
use Rattle.std.proofs.lemmas.List.{drop_more, set_at}
use Rattle.flow_terms.specs.declared.answers.Next.{Next}
use Rattle.flow_terms.specs.declared.answers.Next.TheVariants.{Value, Nothing, Closed}
use Rattle.shared_core.specs.Calls.{next_value}
use Rattle.shared_core.specs.Blocks.{Receives}
use Rattle.shared_core.specs.Shown.{Seen, Follows}
use Rattle.shared_core.proofs.BlockReceipts.{Takes, goes_on}
use Rattle.hillgauze_c.specs.SharedCalls.{ReceivesInto}

-- these stand at the front
abbrev pub Fronts : ℕ → List ℕ → List ℕ → Seen ℕ → ℕ → ℕ → Seen ℕ → Type 0
Fronts n before after old count left now =
    (vs : List ℕ) × (length vs ≡ count) × (after ≡ vs ++ drop count before) × Takes n (length before) old [] count vs left now

pub one_more : (n : ℕ) (before after : List ℕ) (old now new : Seen ℕ) (count left v : ℕ) → count < length before
    → Fronts n before after old count (suc left) now → Follows (next_value n) now (Value v) new
    → Fronts n before (set after count v) old (count + 1) left new
one_more n before after old now new count left v within fronts this =
    let vs = fronts.0 in
    let counted : length (vs ++ v ∷ []) ≡ count + 1 = length-append vs (v ∷ []) ∙ ap (λ k. k + 1) fronts.1 in
    let split : vs ++ drop count before ≡ vs ++ get_or before count 0 ∷ drop (count + 1) before =
    ap (λ xs. vs ++ xs) (drop_more before count 0 within) in
    let put : set after count v ≡ (vs ++ v ∷ []) ++ drop (count + 1) before =
    ap (λ xs. set xs count v) (fronts.2 ∙ split)
    ∙ set_at vs (get_or before count 0) (drop (count + 1) before) v count fronts.1
    ∙ sym (append_assoc vs (v ∷ []) (drop (count + 1) before)) in
    (vs ++ v ∷ [], counted, put, goes_on n (length before) count left old now new [] vs v fronts.3 this)

pub ends : (n : ℕ) (before after : List ℕ) (old new : Seen ℕ) (count : ℕ) (answer : Next ℕ) (vs : List ℕ) → length vs ≡ count → after ≡ vs ++ drop count before
    → Receives n (length before) old [] answer vs new → ReceivesInto n before after old answer new
ends n before after old new count answer vs counted put receives = (
  vs,
  put ∙ ap (λ k. vs ++ drop k before) (sym counted),
  λ M shows.
      let so = receives.2 M shows in
      (ap (λ xs. (answer, xs)) receives.1 ∙ so.0, so.1),
)
