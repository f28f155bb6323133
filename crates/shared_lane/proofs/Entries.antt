-- The emissions of a block.
use Rattle.std.proofs.Common.{◌≡◌, ℕ, ◌+◌, ◌-◌, ◌<◌, ◌≤◌, List, [], ◌∷◌, ◌++◌, length, map, take, drop, get_or, refl, sym, ap, subst, ◌∙◌, arith, length-append, append_assoc}
use lib.ListN.{length-map}
use Rattle.std.proofs.lemmas.List.{append-nil, map-append, length-take, take_more}
use Rattle.std.proofs.Math.Seq.{take-add}
use Rattle.circular_buffer.specs.Buffer.{keep_last}
use Rattle.shared_lane.specs.Law.{Entry}
use Rattle.shared_lane.proofs.Lists.{front}
use Rattle.shared_lane.specs.Caches.{word_of, IsLastOf}
use Rattle.shared_lane.specs.Views.{SequencerSeen}
use Rattle.shared_lane.specs.Blocks.{entries, joined, AcceptedTogether, AcceptedInTurn}

pub entries_length : (emitter : ℕ) (words : List ℕ) → length (entries emitter words) ≡ length words
entries_length emitter words = length-map words (λ w. (emitter, w))

pub entries_front : (emitter i : ℕ) (words : List ℕ) → i ≤ length words → length (entries emitter (take i words)) ≡ i
entries_front emitter i words h = let a = entries_length emitter (take i words) in let b = length-take i words in omega arith

pub entries_more : (emitter i : ℕ) (words : List ℕ) → i < length words → entries emitter (take i words) ++ (emitter, get_or words i 0) ∷ [] ≡ entries emitter (take (i + 1) words)
entries_more emitter i words h = sym (ap (entries emitter) (take_more words i 0 h) ∙ map-append (λ w. (emitter, w)) (take i words) (get_or words i 0 ∷ []))

pub entries_words : (emitter : ℕ) (words : List ℕ) → map word_of (entries emitter words) ≡ words
entries_words emitter [] = refl
entries_words emitter (w ∷ ws) = ap (λ l. w ∷ l) (entries_words emitter ws)

drop_front : {A : Type 0} (xs ys : List A) → drop (length xs) (xs ++ ys) ≡ ys
drop_front [] ys = refl
drop_front (x ∷ xs) ys = drop_front xs ys

-- a list is the last of what ends in it
last_of : (xs ys : List ℕ) → keep_last (length ys) (xs ++ ys) ≡ ys
last_of xs ys = let both = length-append xs ys in ap (λ (n : ℕ). drop n (xs ++ ys)) (let e : length (xs ++ ys) - length ys ≡ length xs = omega arith in e) ∙ drop_front xs ys

-- the last of what was the last of a list, and what came after that list
pub cached_after : (r : ℕ) (log : List Entry) (es : List Entry) (ws : List ℕ) → IsLastOf log ws → IsLastOf (log ++ es) (keep_last r (ws ++ map word_of es))
cached_after r log es ws latest = let L : List ℕ = map word_of log in let E : List ℕ = map word_of es in let K : List ℕ = keep_last r (ws ++ E) in
    let a : List ℕ = take (length L - length ws) L in let b : List ℕ = take (length (ws ++ E) - r) (ws ++ E) in
    let whole : L ≡ a ++ ws = front (length L - length ws) L ∙ ap (λ l. a ++ l) latest in
    let words : map word_of (log ++ es) ≡ (a ++ b) ++ K = map-append word_of log es ∙ (ap (λ l. l ++ E) whole ∙ (append_assoc a ws E ∙ (ap (λ l. a ++ l) (front (length (ws ++ E) - r) (ws ++ E)) ∙ sym (append_assoc a b K)))) in
    ap (keep_last (length K)) words ∙ last_of (a ++ b) K

-- so many, and so many after them
pub entries_further : (emitter i k : ℕ) (words : List ℕ) → entries emitter (take i words) ++ entries emitter (take k (drop i words)) ≡ entries emitter (take (i + k) words)
entries_further emitter i k words = sym (ap (entries emitter) (take-add i k words) ∙ map-append (λ w. (emitter, w)) (take i words) (take k (drop i words)))

-- one block more
pub joined_more : (blocks : List (List Entry)) (es : List Entry) → joined (blocks ++ es ∷ []) ≡ joined blocks ++ es
joined_more [] es = append-nil es
joined_more (b ∷ blocks) es = ap (λ l. b ++ l) (joined_more blocks es) ∙ sym (append_assoc b (joined blocks) es)

pub in_turn_more : (q m t : SequencerSeen) (blocks : List (List Entry)) (es : List Entry) → AcceptedInTurn q blocks m → 0 < length es → AcceptedTogether m es t → AcceptedInTurn q (blocks ++ es ∷ []) t
in_turn_more q m t [] es is some last = (t, some, subst (λ (z : SequencerSeen). AcceptedTogether z es t) is last, refl)
in_turn_more q m t (b ∷ blocks) es in_turn some last = (in_turn.0, in_turn.1, in_turn.2, in_turn_more in_turn.0 m t blocks es in_turn.3 some last)
