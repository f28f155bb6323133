-- A list of values that is emitted, part after part.
use Rattle.std.proofs.Common.{◌≡◌, inl, inr, ℕ, ◌+◌, ◌<◌, ◌≤◌, List, [], ◌∷◌, ◌++◌, length, take, Ok, Err, refl, sym, ap, subst, ◌∙◌, arith, length-append, append_assoc, zero-add, add-zero}
use Rattle.std.proofs.lemmas.List.{append-nil, length-take-le}
use Rattle.flow_terms.specs.declared.refusal.Refusal.{Refusal}
use Rattle.shared_flow.specs.declared.emitter.blocks.CutShort.{CutShort}
use Rattle.shared_flow.specs.Blocks.{TriedAll, EmitsOn, none_yet, tried_more, one_more, one_dropped, IsCutShort}
use Rattle.shared_flow.specs.Emitters.{Emits, emission_by}
use Rattle.shared_flow.specs.Parties.{Emitting}

-- no more are accepted than were tried
pub tried_few : (e f : Emitting) (words : List ℕ) (k : ℕ) → TriedAll e words (Ok k) f → k ≤ length words
tried_few e f words k tried = tried.1.does.2.5.1.few

pub emits_few : (e f : Emitting) (words : List ℕ) (n : ℕ) → EmitsOn e words n f → n ≤ length words
emits_few e f words n (none_yet e0) = omega arith
emits_few e f words n (tried_more e0 f0 g0 ws more n0 k before tried) = let less = emits_few e0 f0 ws n0 before in let few = tried_few f0 g0 more k tried in let long = length-append ws (take k more) in let cut = length-take-le k more few in omega arith
emits_few e f words n (one_more e0 f0 g0 ws word n0 receipt before emitted) = let less = emits_few e0 f0 ws n0 before in let long = length-append ws (word ∷ []) in omega arith
emits_few e f words n (one_dropped e0 f0 g0 ws word n0 before dropped) = let less = emits_few e0 f0 ws n0 before in let long = length-append ws (word ∷ []) in omega arith

-- words that were emitted, and others after them
pub emits_then : (e f g : Emitting) (words others : List ℕ) (n k : ℕ) → EmitsOn e words n f → EmitsOn f others k g → EmitsOn e (words ++ others) (n + k) g
emits_then e f g words others n k first (none_yet f0) = subst (λ (l : List ℕ × ℕ). EmitsOn e l.0 l.1 f0) (λ i. (sym (append-nil words) i, sym (add-zero n) i)) first
emits_then e f g words others n k first (tried_more f0 g0 h0 ws more n0 k0 before tried) =
    subst (λ (l : List ℕ × ℕ). EmitsOn e l.0 l.1 h0) (λ i. (append_assoc words ws (take k0 more) i, (let sum : n + n0 + k0 ≡ n + (n0 + k0) = omega arith in sum) i))
    (tried_more e g0 h0 (words ++ ws) more (n + n0) k0 (emits_then e f0 g0 words ws n n0 first before) tried)
emits_then e f g words others n k first (one_more f0 g0 h0 ws word n0 receipt before emitted) =
    subst (λ (l : List ℕ × ℕ). EmitsOn e l.0 l.1 h0) (λ i. (append_assoc words ws (word ∷ []) i, (let sum : n + n0 + 1 ≡ n + (n0 + 1) = omega arith in sum) i))
    (one_more e g0 h0 (words ++ ws) word (n + n0) receipt (emits_then e f0 g0 words ws n n0 first before) emitted)
emits_then e f g words others n k first (one_dropped f0 g0 h0 ws word n0 before dropped) =
    subst (λ (l : List ℕ). EmitsOn e l (n + n0) h0) (append_assoc words ws (word ∷ []))
    (one_dropped e g0 h0 (words ++ ws) word (n + n0) (emits_then e f0 g0 words ws n n0 first before) dropped)

-- a first round
pub tried_first : (e f : Emitting) (words : List ℕ) (k : ℕ) → TriedAll e words (Ok k) f → EmitsOn e (take k words) k f
tried_first e f words k tried = subst (λ (n : ℕ). EmitsOn e (take k words) n f) (zero-add k) (tried_more e e f [] words 0 k (none_yet e) tried)

-- the first was refused as all were tried
pub refused_at_once : (e f : Emitting) (words : List ℕ) (refusal : Refusal) → 0 < length words → TriedAll e words (Err refusal) f → IsCutShort e words (record { emitted = 0; accepted = 0; refusal = refusal }) f
refused_at_once e f [] refusal some tried = absurd (omega arith)
refused_at_once e f (w ∷ words) refusal some tried = record { before = []; word = w; later = words; then = e; words_are = refl; emitted = refl; accepted = none_yet e; refused = inl tried }

-- the next one was refused, after some were accepted in a round
pub refused_later : (e m f : Emitting) (words before later : List ℕ) (w k : ℕ) (refusal : Refusal) → words ≡ before ++ w ∷ later → length before ≡ k → EmitsOn e before k m → Emits m (emission_by m w) (Err refusal) f
    → IsCutShort e words (record { emitted = k; accepted = k; refusal = refusal }) f
refused_later e m f words before later w k refusal is long emits refused = record { before = before; word = w; later = later; then = m; words_are = is; emitted = long; accepted = emits; refused = inr refused }

-- the words after some that were emitted were cut short
pub cut_later : (e m f : Emitting) (front back : List ℕ) (i n : ℕ) (cut : CutShort) → length front ≡ i → EmitsOn e front n m → IsCutShort m back cut f
    → IsCutShort e (front ++ back) (record { emitted = i + cut.emitted; accepted = n + cut.accepted; refusal = cut.refusal }) f
cut_later e m f front back i n cut long emits short = let both = length-append front short.before in let count = short.emitted in record {
  before = front ++ short.before;
  word = short.word;
  later = short.later;
  then = short.then;
  words_are = ap (λ (l : List ℕ). front ++ l) short.words_are ∙ sym (append_assoc front short.before (short.word ∷ short.later));
  emitted = omega arith;
  accepted = emits_then e m short.then front short.before n cut.accepted emits short.accepted;
  refused = short.refused;
}

-- what was cut short was shorter than the list
pub cut_within : (e f : Emitting) (words : List ℕ) (cut : CutShort) → IsCutShort e words cut f → (cut.emitted < length words) × (cut.accepted ≤ cut.emitted)
cut_within e f words cut short = let whole = ap length short.words_are ∙ length-append short.before (short.word ∷ short.later) in let count = short.emitted in let few = emits_few e short.then short.before cut.accepted short.accepted in (omega arith, omega arith)
