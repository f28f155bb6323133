-- What an answered emission tells of the sequencer's list.
use Rattle.std.proofs.Common.{◌≡◌, ℕ, zero, suc, ◌+◌, ◌-◌, ◌<◌, List, [], ◌∷◌, ◌++◌, length, take, refl, sym, ap, ◌∙◌, arith, length-append}
use mathlib.Core.Option.{some}
use lib.ListN.{get_elem?}
use Rattle.flow_terms.specs.declared.answers.Tried.TheVariants.{Accepted}
use Rattle.shared_lane.specs.Law.{Entry}
use Rattle.shared_lane.specs.Views.{SequencerSeen}
use Rattle.shared_lane.specs.Places.{IsAccepted}
use Rattle.shared_lane.specs.Sequencers.{IsSameSequencer, AfterScan, TriedOn, seen, next}
use Rattle.shared_lane.specs.Blocks.{entries, TriedAllOn}
use Rattle.shared_lane.proofs.Entries.{entries_front, entries_length}

last_is : (log : List Entry) (e : Entry) → get_elem? (log ++ e ∷ []) (length log) ≡ some e
last_is [] e = refl
last_is (x ∷ xs) e = last_is xs e

-- an emission that was answered with its number was accepted with it: a receipt can be had
pub tried_is_accepted : (q t : SequencerSeen) (e : Entry) (n : ℕ) → IsSameSequencer q t → AfterScan q (λ m. TriedOn m e (Accepted n) t) → IsAccepted t e.0 n
tried_is_accepted q t e n same after = let m = after.0 in let on = after.5 in let i : ℕ = length m.view.seen in
    (i, e.1, on.1 ∙ (λ j. ((after.2.1 ∙ sym same.1) j).first + i), ap (λ (l : List Entry). get_elem? l i) on.2 ∙ last_is m.view.seen e)

after : {A : Type 0} (l m : List A) (j : ℕ) → get_elem? (l ++ m) (length l + j) ≡ get_elem? m j
after [] m j = ap (λ (i : ℕ). get_elem? m i) (let e : 0 + j ≡ j = omega arith in e)
after (x ∷ xs) m j = ap (λ (i : ℕ). get_elem? (x ∷ (xs ++ m)) i) (let e : suc (length xs) + j ≡ suc (length xs + j) = omega arith in e) ∙ after xs m j

word_of_entry : (emitter : ℕ) (words : List ℕ) (j : ℕ) → j < length words → (w : ℕ) × (get_elem? (entries emitter words) j ≡ some (emitter, w))
word_of_entry emitter [] j h = absurd (omega arith)
word_of_entry emitter (w ∷ ws) zero h = (w, refl)
word_of_entry emitter (w ∷ ws) (suc j) h = word_of_entry emitter ws j (omega arith)

-- so was the last of the words that were accepted by the block: its number is one below the next
pub last_is_accepted : (q t : SequencerSeen) (emitter : ℕ) (words : List ℕ) (n number : ℕ) → AfterScan q (λ m. TriedAllOn m emitter words n t) → 0 < n → number + 1 ≡ next t → IsAccepted t emitter number
last_is_accepted q t emitter words n number scanned some_word below = let m = scanned.0 in let on = scanned.5 in let ws : List ℕ = take n words in let es : List Entry = entries emitter ws in let few = on.few in
    let count : length es ≡ n = entries_front emitter n words few in let same = entries_length emitter ws in let j : ℕ = n - 1 in let last = word_of_entry emitter ws j (omega arith) in
    let long : length (seen t) ≡ length (seen m) + length es = ap length on.accepted ∙ length-append (seen m) es in
    (length (seen m) + j, last.0, (omega arith), ap (λ (l : List Entry). get_elem? l (length (seen m) + j)) on.accepted ∙ (after (seen m) es j ∙ last.1))
