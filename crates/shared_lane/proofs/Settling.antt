-- Waiting emissions are accepted one after another.
use Rattle.std.proofs.Common.{Bool, false, ◌≡◌, ◌≢◌, ℕ, zero, suc, ◌+◌, ◌<◌, ◌≤◌, List, [], ◌∷◌, ◌++◌, Some, map, take, drop, length, slice_get, sym, refl, ap, ◌∙◌, subst, arith, length-append, length-drop, append_assoc}
use mathlib.Core.List.{map-append}
use lib.ListN.{length-map}
use Rattle.std.proofs.lemmas.Option.{none-some}
use Rattle.std.proofs.lemmas.List.{append-nil, nil_from_length}
use Rattle.shared_lane.proofs.Outstanding.{inside_some}
use Rattle.shared_lane.proofs.WholePasses.{found_loses_none}
use Rattle.circular_buffer.specs.Buffer.{keep_last}
use Rattle.shared_lane.specs.declared.view.Shape.{Shape}
use Rattle.shared_lane.specs.declared.view.View.{View}
use Rattle.flow_terms.specs.Lists.{IsPrefix}
use Rattle.flow_terms.specs.declared.policy.Policy.{Policy}
use Rattle.flow_terms.specs.declared.policy.Policy.TheVariants.{Suspend, DropOldest, DropLatest}
use Rattle.shared_lane.specs.Views.{SequencerSeen}
use Rattle.shared_lane.specs.Surveys.{cursor_loads, OpensNone, LosesNone}
use Rattle.shared_lane.specs.declared.tickets.Waiting.{Waiting}
use Rattle.shared_lane.specs.Sequencers.{entry_of, stood, cached, seen, next, IsSameTickets, LoadedOrMoved, PassedBy, AcceptedWaiting, IsStuck, accepted_on, stood_on}

-- what begins with that begins with its beginning
pub prefix_then : {A : Type 0} (xs ys zs : List A) → IsPrefix ys xs → IsPrefix zs ys → IsPrefix zs xs
prefix_then xs ys zs a b = (b.0 ++ a.0, a.1 ∙ (ap (λ l. l ++ a.0) b.1 ∙ append_assoc zs b.0 a.0))

-- a pass adds loads
pub passed_later : (p : Policy) (lag : ℕ) (q : SequencerSeen) (room : Bool) (v : View) → PassedBy p lag q room v → IsPrefix q.view.loads v.loads
passed_later Suspend lag q room v r = let l = r.2.loads in (cursor_loads 0 (take l.0 r.0), l.1)
passed_later DropOldest lag q room v r = let x = r.1 in let l = x.2.loads in (cursor_loads 0 (take l.0 x.0), l.1)
passed_later DropLatest lag q room v r = let l = r.2.loads in (cursor_loads 0 (take l.0 r.0), l.1)

-- where the oldest values aren't dropped, a pass loses none
pub passed_loses_none : (p : Policy) (lag : ℕ) (q : SequencerSeen) (room : Bool) (v : View) → p ≡ Suspend → PassedBy p lag q room v → LosesNone q.view v
passed_loses_none Suspend lag q room v is r = found_loses_none q.view v r.0 r.2
passed_loses_none DropOldest lag q room v is r = let no : ⊥ = cc (is) in absurd no
passed_loses_none DropLatest lag q room v is r = found_loses_none q.view v r.0 r.2

-- before any was accepted
pub settled_none : (q : SequencerSeen) → AcceptedWaiting 0 q q
settled_none q = record {
  few = omega arith;
  accepted = sym (append-nil (seen q));
  waiting_is = refl;
  standing_is = sym (append-nil q.standing);
  ticket = refl;
  subscription = refl;
  cache_is = refl;
  later = ([], sym (append-nil q.view.loads));
  none_opened = λ p. refl;
  none_lost = λ p. refl;
  quiet = λ none. refl;
}

take_more : {A : Type 0} (k : ℕ) (xs : List A) → take (suc k) xs ≡ take k xs ++ take 1 (drop k xs)
take_more zero xs = refl
take_more (suc k) [] = refl
take_more (suc k) (x ∷ xs) = ap (λ l. x ∷ l) (take_more k xs)

drop_more : {A : Type 0} (k : ℕ) (xs : List A) → drop 1 (drop k xs) ≡ drop (suc k) xs
drop_more zero xs = refl
drop_more (suc k) [] = refl
drop_more (suc k) (x ∷ xs) = drop_more k xs

length_take : {A : Type 0} (k : ℕ) (xs : List A) → k ≤ length xs → length (take k xs) ≡ k
length_take zero xs h = refl
length_take (suc k) [] h = absurd (omega arith)
length_take (suc k) (x ∷ xs) h = ap suc (length_take k xs (omega arith))

stood_more : (n : ℕ) (xs ys : List Waiting) → stood n (xs ++ ys) ≡ stood n xs ++ stood (n + length xs) ys
stood_more n [] ys = ap (λ (z : ℕ). stood z ys) (omega arith)
stood_more n (x ∷ xs) ys = ap (λ l. record { ticket = x.ticket; emitter = x.emitter; number = n } ∷ l) (stood_more (suc n) xs ys ∙ ap (λ (z : ℕ). stood (suc n) xs ++ stood z ys) (omega arith))

cached_more : (r : ℕ) (ws : List ℕ) (xs ys : List Waiting) → cached r ws (xs ++ ys) ≡ cached r (cached r ws xs) ys
cached_more r ws [] ys = refl
cached_more r ws (x ∷ xs) ys = cached_more r (keep_last r (ws ++ x.word ∷ [])) xs ys

pub settled_more : (k : ℕ) (q t t' u : SequencerSeen) → AcceptedWaiting k q t → seen t' ≡ seen t → t'.cache ≡ t.cache → IsSameTickets t t' → t'.subscription ≡ t.subscription → t'.view.shape ≡ q.view.shape → t'.replay ≡ q.replay
    → IsPrefix t.view.loads t'.view.loads → OpensNone t.view t'.view → LosesNone t.view t'.view → AcceptedWaiting 1 t' u → AcceptedWaiting (k + 1) q u
settled_more k q t t' u was same_seen same_cache same subs shape r since none_opened none_lost one = let W : List Waiting = q.waiting in let next_k : k + 1 ≡ suc k = omega arith in
    let here : t'.waiting ≡ drop k W = same.0 ∙ was.waiting_is in let cut : take k W ++ take 1 (t'.waiting) ≡ take (k + 1) W = ap (λ l. take k W ++ take 1 l) here ∙ (sym (take_more k W) ∙ ap (λ (z : ℕ). take z W) (sym next_k)) in
    let left : length (t'.waiting) ≡ length (drop k W) = ap length here in let left' = length-drop k W in let few = was.few in let more = one.few in
    let grown : seen t' ≡ seen q ++ map entry_of (take k W) = same_seen ∙ was.accepted in
    let number : next t' ≡ next q + length (take k W) = (λ i. (shape i).first + length (grown i)) ∙ (let a = length-append (seen q) (map entry_of (take k W)) in let b : length (map entry_of (take k W)) ≡ length (take k W) = length-map (take k W) entry_of in omega arith) in record {
      few = omega arith;
      accepted = one.accepted ∙ (ap (λ l. l ++ map entry_of (take 1 (t'.waiting))) grown ∙ (append_assoc (seen q) (map entry_of (take k W)) (map entry_of (take 1 (t'.waiting)))
          ∙ ap (λ l. seen q ++ l) (sym (map-append entry_of (take k W) (take 1 (t'.waiting))) ∙ ap (map entry_of) cut)));
      waiting_is = one.waiting_is ∙ (ap (drop 1) here ∙ (drop_more k W ∙ ap (λ (z : ℕ). drop z W) (sym next_k)));
      standing_is = one.standing_is ∙ (ap (λ l. l ++ stood (next t') (take 1 (t'.waiting))) (same.1 ∙ was.standing_is) ∙ (append_assoc (q.standing) (stood (next q) (take k W)) (stood (next t') (take 1 (t'.waiting)))
          ∙ ap (λ l. q.standing ++ l) (ap (λ (z : ℕ). stood (next q) (take k W) ++ stood z (take 1 (t'.waiting))) number ∙ (sym (stood_more (next q) (take k W) (take 1 (t'.waiting))) ∙ ap (stood (next q)) cut))));
      ticket = one.ticket ∙ (same.2 ∙ was.ticket);
      subscription = one.subscription ∙ (subs ∙ was.subscription);
      cache_is = one.cache_is ∙ ((λ i. cached (r i) ((same_cache ∙ was.cache_is) i) (take 1 (t'.waiting))) ∙ (sym (cached_more q.replay (q.cache) (take k W) (take 1 (t'.waiting))) ∙ ap (cached q.replay (q.cache)) cut));
      later = prefix_then u.view.loads t'.view.loads q.view.loads one.later (prefix_then t'.view.loads t.view.loads q.view.loads since was.later);
      none_opened = λ p. one.none_opened p ∙ (none_opened p ∙ was.none_opened p);
      none_lost = λ p. one.none_lost p ∙ (none_lost p ∙ was.none_lost p);
      quiet = λ none. let few : k + 1 ≤ length q.waiting = omega arith in let zero_long : length q.waiting ≡ 0 = ap length none in absurd (omega arith);
    }

pub stuck : (q t t' : SequencerSeen) (lag : ℕ) → IsPrefix q.view.loads t.view.loads → LoadedOrMoved t t' → PassedBy t.policy lag t false t'.view → lag ≡ t.view.shape.cells → IsStuck q t'
stuck q t t' lag since only pass cells =
    (t, since, (only, subst (λ (z : ℕ). PassedBy t.policy z t false t'.view) (cells ∙ ap (λ (z : Shape). z.cells) (sym only.1)) pass))

-- the first that waits is accepted, and its ticket stands
pub settles : (q : SequencerSeen) (w : Waiting) → slice_get q.waiting 0 ≡ Some w → AcceptedWaiting 1 q (stood_on w.ticket w.emitter (next q) (accepted_on (entry_of w) (record q { waiting = drop 1 q.waiting })))
settles q w is = go q.waiting refl is where
  go : (ws : List Waiting) → q.waiting ≡ ws → slice_get ws 0 ≡ Some w → AcceptedWaiting 1 q (stood_on w.ticket w.emitter (next q) (accepted_on (entry_of w) (record q { waiting = drop 1 q.waiting })))
  go [] e first = absurd (none-some w first)
  go (x ∷ ws) e first = let one : take 1 q.waiting ≡ w ∷ [] = ap (take 1) e ∙ ap (λ (z : Waiting). z ∷ []) (inside_some x x w first) in let long : length q.waiting ≡ suc (length ws) = ap length e in record {
    few = omega arith;
    accepted = ap (λ l. seen q ++ map entry_of l) (sym one);
    waiting_is = refl;
    standing_is = ap (λ l. q.standing ++ stood (next q) l) (sym one);
    ticket = refl;
    subscription = refl;
    cache_is = ap (cached q.replay q.cache) (sym one);
    later = ([], sym (append-nil q.view.loads));
    none_opened = λ p. refl;
    none_lost = λ p. refl;
    quiet = λ none. let zero_long : length q.waiting ≡ 0 = ap length none in absurd (omega arith);
  }

pub still_waits : (k : ℕ) (q t t' : SequencerSeen) → AcceptedWaiting k q t → LoadedOrMoved t t' → k < length q.waiting → t'.waiting ≢ []
still_waits k q t t' was only more none = let left = length-drop k q.waiting in let is : length t'.waiting ≡ length (drop k q.waiting) = ap length (ap (λ (z : SequencerSeen). z.waiting) only.0 ∙ was.waiting_is) in let nothing : length t'.waiting ≡ 0 = ap length none in absurd (omega arith)

pub all_settled : (k : ℕ) (q t : SequencerSeen) → AcceptedWaiting k q t → k ≡ length q.waiting → t.waiting ≡ []
all_settled k q t was is = nil_from_length t.waiting (let left = length-drop k q.waiting in let e = ap length was.waiting_is in omega arith)
