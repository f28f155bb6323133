-- What a reader received, by its story and what it has seen; and what a subscription received by that.
use Rattle.std.proofs.Common.{◌≡◌, ◌⊎◌, inl, inr, ⊎_elim, ℕ, zero, suc, ◌+◌, ◌-◌, ◌<◌, ◌≤◌, max, Bool, true, false, true≢false, Option, None, Some, List, [], ◌∷◌, ◌++◌, length, map, drop, replicate, slice_get, refl, sym, ap, ◌∙◌, subst, arith, length-append, append_assoc, add-zero, zero-add, suc-add}
use mathlib.Core.Option.{some, some-ne-none, some-injective}
use lib.ListN.{get_elem?, length-replicate}
use Rattle.std.proofs.lemmas.List.{append-nil, length-map, map-append, drop-append-le, length-drop}
use Rattle.std.proofs.lemmas.List.Elements.{filter_map-append}
use Rattle.std.proofs.lemmas.Option.{slice_get-map, slice_get_within}
use Rattle.std.specs.List.{AllByRecursion, cons_option, range_with_len}
use Rattle.shared_lane.specs.Law.{Entry, lost, received as received_at}
use Rattle.shared_core.specs.Flow.{values_at}
use Rattle.shared_core.specs.Preludes.{RestSeen}
use Rattle.shared_core.specs.Story.{Interleaves}
use Rattle.shared_core.proofs.Lists.{values_at-range}
use Rattle.shared_lane.specs.Caches.{word_of}
use Rattle.shared_lane.specs.Headline.{Went, Lived, given, StartsAtCache, words_seen, pending}
use Rattle.shared_lane.specs.Readers.{at, story_to, IsKept, WentTo, IsReaderOf, IsSameReader}
use Rattle.shared_lane.specs.declared.reader.Taken.{Taken}
use Rattle.shared_lane.specs.declared.reader.Taken.TheVariants.{Value, Nothing, Overtaken}
use Rattle.shared_lane.proofs.Lives.{took_all_lived, mixed, lost_then}
use Rattle.shared_rounds.specs.Meeting.{Looked}
use Rattle.shared_rounds.specs.Names.{FlowName}
use Rattle.shared_lane.specs.Views.{ReaderSeen}
use Rattle.shared_flow.specs.Blocks.{LookedAll}
use Rattle.shared_flow.specs.Parties.{Subscribed, since_start, words_received, received, taken_of}
use Rattle.shared_flow.specs.Received.{KnowsReceived, PreludeFirst, ReceivesAllButDropped}

-- ---- a story, by index

received-append : (j : ℕ) (bs cs : List Bool) → received_at j (bs ++ cs) ≡ received_at j bs ++ received_at (j + length bs) cs
received-append j [] cs = ap (λ k. received_at k cs) (sym (add-zero j))
received-append j (true ∷ bs) cs = ap (λ l. j ∷ l) (received-append (suc j) bs cs ∙ ap (λ k. received_at (suc j) bs ++ received_at k cs) (omega arith))
received-append j (false ∷ bs) cs = received-append (suc j) bs cs ∙ ap (λ k. received_at (suc j) bs ++ received_at k cs) (omega arith)

none_received : (j k : ℕ) → received_at j (replicate k false) ≡ []
none_received j zero = refl
none_received j (suc k) = none_received (suc j) k

received_to : (k : ℕ) (bs : List Bool) → received_at 0 (bs ++ replicate k false) ≡ received_at 0 bs
received_to k bs = received-append 0 bs (replicate k false) ∙ ap (λ l. received_at 0 bs ++ l) (none_received (0 + length bs) k) ∙ append-nil (received_at 0 bs)

received_then : (bs : List Bool) → received_at 0 (bs ++ true ∷ []) ≡ received_at 0 bs ++ length bs ∷ []
received_then bs = received-append 0 bs (true ∷ []) ∙ ap (λ k. received_at 0 bs ++ k ∷ []) (zero-add (length bs))

-- ---- values at indexes

slice_get-append_left : (xs ys : List ℕ) (i : ℕ) → i < length xs → slice_get (xs ++ ys) i ≡ slice_get xs i
slice_get-append_left [] ys i h = absurd (omega arith)
slice_get-append_left (x ∷ xs) ys zero h = refl
slice_get-append_left (x ∷ xs) ys (suc i) h = slice_get-append_left xs ys i (omega arith)

slice_get-drop : (k : ℕ) (xs : List ℕ) (i j : ℕ) → j ≡ k + i → slice_get (drop k xs) i ≡ slice_get xs j
slice_get-drop zero xs i j e = let same : i ≡ j = omega arith in ap (slice_get xs) same
slice_get-drop (suc k) [] i j e = refl
slice_get-drop (suc k) (x ∷ xs) i zero e = absurd (omega arith)
slice_get-drop (suc k) (x ∷ xs) i (suc j) e = slice_get-drop k xs i j (omega arith)

abbrev Below : ℕ → List ℕ → Type 0
Below n indexes = AllByRecursion (λ index. index < n) indexes

below-append : (n : ℕ) (is js : List ℕ) → Below n is → Below n js → Below n (is ++ js)
below-append n [] js all more = more
below-append n (i ∷ is) js all more = (all.0, below-append n is js all.1 more)

below_more : (n m : ℕ) (is : List ℕ) → n ≤ m → Below n is → Below m is
below_more n m [] le all = tt
below_more n m (i ∷ is) le all = (omega (arith, le, all.0), below_more n m is le all.1)

-- values that stand in a list stand in a longer one
values_at-longer : (xs ys : List ℕ) (is : List ℕ) → Below (length xs) is → values_at (xs ++ ys) is ≡ values_at xs is
values_at-longer xs ys [] all = refl
values_at-longer xs ys (i ∷ is) all = ap (λ o. cons_option o (values_at (xs ++ ys) is)) (slice_get-append_left xs ys i all.0) ∙ ap (cons_option (slice_get xs i)) (values_at-longer xs ys is all.1)

one_value : (xs : List ℕ) (i w : ℕ) → slice_get xs i ≡ Some w → values_at xs (i ∷ []) ≡ w ∷ []
one_value xs i w is = ap (λ o. cons_option o (values_at xs [])) is

-- ---- what a reader has seen since its start

get_at : {X : Type 0} (xs : List X) (i : ℕ) (x : X) → get_elem? xs i ≡ some x → slice_get xs i ≡ Some x
get_at [] i x is = absurd (some-ne-none x (sym is))
get_at (y ∷ ys) zero x is = ap Some (some-injective y x is)
get_at (y ∷ ys) (suc i) x is = get_at ys i x is

word_at : (log : List Entry) (i e w : ℕ) → get_elem? log i ≡ some (e, w) → slice_get (map word_of log) i ≡ Some w
word_at log i e w is = slice_get-map word_of log i ∙ rw (get_at log i (e, w) is) refl

-- it has seen what it had seen, and more
since_more : (r t : ReaderSeen) → KnowsReceived r → IsSameReader r t → (more : List ℕ) × (since_start t ≡ since_start r ++ more)
since_more r t knows same =
    let k = r.start - r.shape.first in
    let start : t.start - t.shape.first ≡ k = (λ i. same.0 i - (same.2 i).first) in
    let long : length (words_seen r) ≡ length r.seen = length-map r.seen word_of in
    let few : k ≤ length (words_seen r) = omega (arith, knows.began, long) in (
      map word_of same.3.0,
      ap (λ n. drop n (words_seen t)) start ∙ ap (λ l. drop k (map word_of l)) same.3.1 ∙ ap (drop k) (map-append word_of r.seen same.3.0)
          ∙ drop-append-le k (words_seen r) (map word_of same.3.0) few,
    )

length_to : (n : ℕ) (r : ReaderSeen) → at r ≤ n → r.start + length (story_to n r) ≡ n
length_to n r le = let h = length-append r.story (replicate (n - at r) false) in let e = length-replicate (n - at r) false in omega (arith, h, e, le)

kept_to : (n : ℕ) (r : ReaderSeen) → KnowsReceived r → IsKept n r → r.shape.drops ≡ false → lost 0 (story_to n r) ≡ []
kept_to n r knows kept drops =
    let none : n - at r ≡ 0 = (let e = kept drops in omega (arith, e)) in
    ap (λ c. lost 0 (r.story ++ replicate c false)) none ∙ ap (lost 0) (append-nil r.story) ∙ knows.keeps drops

-- the same reader, with a story that received this more, of what it has seen
still_knows : (r t : ReaderSeen) (is : List ℕ) → KnowsReceived r → IsSameReader r t → received_at 0 t.story ≡ received_at 0 r.story ++ is → Below (length (since_start t)) is
    → (r.shape.drops ≡ false → lost 0 t.story ≡ []) → KnowsReceived t × (words_received t ≡ words_received r ++ values_at (since_start t) is)
still_knows r t is knows same story below keeps =
    let more = since_more r t knows same in
    let longer = ap length more.1 ∙ length-append (since_start r) more.0 in
    let seen = ap length same.3.1 ∙ length-append r.seen same.3.0 in
    let start : t.start - t.shape.first ≡ r.start - r.shape.first = (λ i. same.0 i - (same.2 i).first) in
    let firsts : t.shape.first ≤ t.start = subst (λ (f : ℕ). f ≤ t.start) (λ i. (sym same.2 i).first) (subst (λ (s : ℕ). r.shape.first ≤ s) (sym same.0) knows.begins) in (
      record {
        begins = firsts;
        began = omega (arith, start, seen, knows.began);
        sees = subst (Below (length (since_start t))) (sym story) (below-append (length (since_start t)) (received_at 0 r.story) is (below_more (length (since_start r)) (length (since_start t)) (received_at 0 r.story) (omega (arith, longer)) knows.sees) below);
        keeps = λ drops. keeps (ap (λ z. z.drops) (sym same.2) ∙ drops);
      },
      ap (values_at (since_start t)) story ∙ filter_map-append (slice_get (since_start t)) (received_at 0 r.story) is
          ∙ ap (λ l. l ++ values_at (since_start t) is) (ap (λ l. values_at l (received_at 0 r.story)) more.1 ∙ values_at-longer (since_start r) more.0 (received_at 0 r.story) knows.sees),
    )

-- a call of the reader
went : (r t : ReaderSeen) (x : Option ℕ) → KnowsReceived r → Went r x t → IsSameReader r t → KnowsReceived t × (words_received t ≡ words_received r ++ given (x ∷ []))
went r t None knows it same =
    let story = ap (received_at 0) it.1.2 ∙ received_to (it.0 - at r) r.story ∙ sym (append-nil (received_at 0 r.story)) in
    still_knows r t [] knows same story tt (λ drops. ap (lost 0) it.1.2 ∙ kept_to it.0 r knows it.1.1 drops)
went r t (Some w) knows it same =
    let n = it.0 in let index : ℕ = it.4.0 in let k = r.start - r.shape.first in
    let long = length_to n r it.1 in
    let number : n ≡ r.shape.first + index = it.4.2 in
    let begins = knows.begins in
    let place : index ≡ k + length (story_to n r) = omega (arith, long, number, begins) in
    let start : t.start - t.shape.first ≡ k = (λ i. same.0 i - (same.2 i).first) in
    let here : slice_get (since_start t) (length (story_to n r)) ≡ Some w =
    ap (λ m. slice_get (drop m (words_seen t)) (length (story_to n r))) start ∙ slice_get-drop k (words_seen t) (length (story_to n r)) index place ∙ word_at t.seen index it.4.1 w it.4.3 in
    let story = ap (received_at 0) it.3 ∙ received_then (story_to n r) ∙ ap (λ l. l ++ length (story_to n r) ∷ []) (received_to (n - at r) r.story) in
    let both = still_knows r t (length (story_to n r) ∷ []) knows same story (slice_get_within (since_start t) (length (story_to n r)) w here, tt)
    (λ drops. ap (lost 0) it.3 ∙ lost_then 0 (story_to n r) ∙ kept_to n r knows it.2 drops) in
    (both.0, both.1 ∙ ap (λ l. words_received r ++ l) (one_value (since_start t) (length (story_to n r)) w here))

given_on : (x : Option ℕ) (xs : List (Option ℕ)) → given (x ∷ []) ++ given xs ≡ given (x ∷ xs)
given_on (Some w) xs = refl
given_on None xs = refl

-- one call after another
pub lived_on : (r t : ReaderSeen) (calls : List (Option ℕ)) → KnowsReceived r → Lived r calls t → KnowsReceived t × (words_received t ≡ words_received r ++ given calls)
lived_on r t [] knows lived = (subst KnowsReceived (sym lived) knows, ap words_received lived ∙ sym (append-nil (words_received r)))
lived_on r t (x ∷ xs) knows lived =
    let one = went r lived.0 x knows lived.1 lived.2 in
    let rest = lived_on lived.0 t xs one.0 lived.3 in
    (rest.0, rest.1 ∙ ap (λ l. l ++ given xs) one.1 ∙ append_assoc (words_received r) (given (x ∷ [])) (given xs) ∙ ap (λ l. words_received r ++ l) (given_on x xs))

-- a look for one value
pub took_next : (r t : ReaderSeen) (taken : Taken ℕ) → KnowsReceived r → Looked r taken t → KnowsReceived t × (words_received t ≡ words_received r ++ taken_of taken)
took_next r t (Value w) knows looked = lived_on r t (Some w ∷ []) knows (t, looked.1, looked.0, refl)
took_next r t Nothing knows looked = lived_on r t (None ∷ []) knows (t, (looked.1.0, looked.1.1), looked.0, refl)
took_next r t Overtaken knows looked =
    let went = looked.1 in
    let above = went.1 in
    lived_on r t (None ∷ []) knows (t, (went.0, ((omega arith), (λ keeps. absurd (true≢false (sym went.2 ∙ keeps))), went.3)), looked.0, refl)

-- one for all
pub took_all : (r t : ReaderSeen) (room : ℕ) (taken : Taken ℕ) (words : List ℕ) → KnowsReceived r → LookedAll r room taken words t
    → KnowsReceived t × (words_received t ≡ words_received r ++ words)
took_all r t room taken words knows looked =
    let lived = took_all_lived r t room taken words looked.0 looked.1 in
    let on = lived_on r t (None ∷ map Some words) knows lived.0 in
    (on.0, on.1 ∙ ap (λ l. words_received r ++ l) lived.1)

-- its position was found
pub found_on : (r t : ReaderSeen) (n : ℕ) → KnowsReceived r → IsSameReader r t → WentTo n r t → KnowsReceived t × (words_received t ≡ words_received r)
found_on r t n knows same went =
    let on = lived_on r t (None ∷ []) knows (t, (n, went), same, refl) in
    (on.0, on.1 ∙ append-nil (words_received r))

-- a look that gave no word
pub took_none : (taken : Taken ℕ) → ((k : ℕ) → taken ≡ Value k → ⊥) → taken_of taken ≡ []
took_none (Value k) not = absurd (not k refl)
took_none Nothing not = refl
took_none Overtaken not = refl

-- ---- what doesn't receive

-- it has seen more, with the same story
pub told_on : (r t : ReaderSeen) → KnowsReceived r → IsSameReader r t → t.story ≡ r.story → KnowsReceived t × (words_received t ≡ words_received r)
told_on r t knows same story =
    let both = still_knows r t [] knows same (ap (received_at 0) story ∙ sym (append-nil (received_at 0 r.story))) tt (λ drops. ap (lost 0) story ∙ knows.keeps drops) in
    (both.0, both.1 ∙ append-nil (words_received r))

-- a reader that was admitted has received nothing
pub knows_at_start : (cache : List ℕ) (r : ReaderSeen) → StartsAtCache cache r → KnowsReceived r × (words_received r ≡ [])
knows_at_start cache r starts =
    let words_count : length (words_seen r) ≡ length r.seen = length-map r.seen word_of in
    let cached : length cache ≡ length (words_seen r) - (length (words_seen r) - length cache) = sym (ap length starts.caches_the_latest) ∙ length-drop (length (words_seen r) - length cache) (words_seen r) in
    let at_start : r.start + length r.story + length cache ≡ r.shape.first + length r.seen = starts.starts_at_the_cache in
    let nothing = ap length starts.nothing_yet in (
      record {
        begins = omega (arith, words_count, cached, at_start, nothing);
        began = omega (arith, at_start, nothing);
        sees = subst (λ bs. Below (length (since_start r)) (received_at 0 bs)) (sym starts.nothing_yet) tt;
        keeps = λ drops. ap (lost 0) starts.nothing_yet;
      },
      ap (λ bs. values_at (since_start r) (received_at 0 bs)) starts.nothing_yet,
    )

-- ---- what a subscription received

drop_none : (n : ℕ) → drop {A = ℕ} n [] ≡ []
drop_none zero = refl
drop_none (suc n) = refl

drop-drop : (k n : ℕ) (xs : List ℕ) → drop n (drop k xs) ≡ drop (k + n) xs
drop-drop zero n xs = ap (λ c. drop c xs) (sym (zero-add n))
drop-drop (suc k) n [] = drop_none n ∙ sym (drop_none (suc k + n))
drop-drop (suc k) n (x ∷ xs) = drop-drop k n xs ∙ ap (λ c. drop c (x ∷ xs)) (sym (suc-add k n))

-- either nothing is left of the prelude, or the reader has received nothing
swapped : {T : Type 0} (given words rest later : List T) → (rest ≡ []) ⊎ (words ≡ []) → (given ++ words) ++ (rest ++ later) ≡ (given ++ rest) ++ (words ++ later)
swapped given words rest later (inl none) =
    ap (λ l. (given ++ words) ++ (l ++ later)) none ∙ append_assoc given words later ∙ ap (λ l. l ++ (words ++ later)) (sym (append-nil given) ∙ ap (λ l. given ++ l) (sym none))
swapped given words rest later (inr none) =
    ap (λ l. (given ++ l) ++ (rest ++ later)) none ∙ ap (λ l. l ++ (rest ++ later)) (append-nil given) ∙ sym (append_assoc given rest later) ∙ ap (λ l. (given ++ rest) ++ (l ++ later)) (sym none)

module _ {T : Type 0} (read_as : ℕ → T) where
  -- its reader gave these words
  pub received_more : (given : List T) (r t : ReaderSeen) (words : List ℕ) → words_received t ≡ words_received r ++ words
      → given ++ map read_as (words_received t) ≡ (given ++ map read_as (words_received r)) ++ map read_as words
  received_more given r t words more =
      ap (λ l. given ++ map read_as l) more ∙ ap (λ l. given ++ l) (map-append read_as (words_received r) words)
      ∙ sym (append_assoc given (map read_as (words_received r)) (map read_as words))

  -- it was given these of its prelude, while its reader had received nothing
  pub given_more : (s t : Subscribed T) (values : List T) → t.given ≡ s.given ++ values → t.reader ≡ s.reader → words_received s.reader ≡ [] → received read_as t ≡ received read_as s ++ values
  given_more s t values given same none =
      let nothing : map read_as (words_received s.reader) ≡ [] = ap (map read_as) none in
      ap (λ r. t.given ++ map read_as (words_received r)) same ∙ ap (λ l. t.given ++ l) nothing ∙ append-nil t.given ∙ given
      ∙ ap (λ l. l ++ values) (sym (append-nil s.given) ∙ ap (λ l. s.given ++ l) (sym nothing))

  -- what it received, then what is left and what is pending
  pub receives_all : (s : Subscribed T) → KnowsReceived s.reader → (s.rest ≡ []) ⊎ (words_received s.reader ≡ []) → ReceivesAllButDropped read_as s
  receives_all s knows first =
      let r = s.reader in
      let xs = since_start r in
      let k = r.start - r.shape.first in
      let n = length xs - length r.story in
      let begins = knows.begins in
      let pends : pending r ≡ values_at xs (range_with_len (length r.story) n) =
      ap (λ c. drop c (words_seen r)) (omega (arith, begins)) ∙ sym (drop-drop k (length r.story) (words_seen r)) ∙ sym (values_at-range (length r.story) xs) in
      let words = map read_as (words_received r) in
      let later = map read_as (pending r) in
      record {
        kept = received_at 0 r.story ++ range_with_len (length r.story) n;
        dropped = lost 0 r.story;
        received_then_pending =
            swapped s.given words s.rest later (⊎_elim (λ none. inl none) (λ none. inr (ap (map read_as) none)) first)
            ∙ ap (λ l. (s.given ++ s.rest) ++ l) (sym (map-append read_as (words_received r) (pending r))
            ∙ ap (map read_as) (ap (λ l. words_received r ++ l) pends ∙ sym (filter_map-append (slice_get xs) (received_at 0 r.story) (range_with_len (length r.story) n))));
        in_order_and_once = let all : length r.story + n ≡ max (length r.story) (length xs) = omega arith in subst (λ m. Interleaves (received_at 0 r.story ++ range_with_len (length r.story) n) (lost 0 r.story) (range_with_len 0 m)) all
            (subst (λ j. Interleaves (received_at 0 r.story ++ range_with_len j n) (lost 0 r.story) (range_with_len 0 (length r.story + n))) (zero-add (length r.story)) (mixed n 0 r.story));
        only_drop_oldest_drops = knows.keeps;
      }

  -- of these, those that it lost
  pub drops_what_it_lost : (s : Subscribed T) (knows : KnowsReceived s.reader) (first : (s.rest ≡ []) ⊎ (words_received s.reader ≡ []))
      → (receives_all s knows first).dropped ≡ lost 0 s.reader.story
  unfolding receives_all
  drops_what_it_lost s knows first = refl

-- ---- what a subscription keeps

-- it is a reader of the flow still
pub still_reads : (flow : Option FlowName) (r t : ReaderSeen) → ((name : FlowName) → flow ≡ Some name → IsReaderOf name.lane r) → IsSameReader r t → (name : FlowName) → flow ≡ Some name → IsReaderOf name.lane t
still_reads flow r t reads same = λ name is. let it = reads name is in (same.4 ∙ it.0, same.2 ∙ it.1)

-- the prelude comes first, where its reader received nothing more
pub still_first : {T : Type 0} (rest : RestSeen T) (r t : ReaderSeen) → words_received t ≡ words_received r → PreludeFirst rest r → PreludeFirst rest t
still_first rest r t same first = ⊎_elim (λ none. inl none) (λ none. inr (same ∙ none)) first

-- nothing was received of the flow, where some of the prelude is left
pub nothing_yet : {T : Type 0} (rest : RestSeen T) (r : ReaderSeen) → PreludeFirst rest r → (rest.left ≡ [] → ⊥) → words_received r ≡ []
nothing_yet rest r first is_left = ⊎_elim (λ none. absurd (is_left none)) (λ none. none) first

-- some were appended, then one, and then more
pub with_one : {X : Type 0} (xs ys more : List X) (x : X) → ((xs ++ ys) ++ x ∷ []) ++ more ≡ xs ++ (ys ++ x ∷ more)
with_one xs ys more x = append_assoc (xs ++ ys) (x ∷ []) more ∙ append_assoc xs ys (x ∷ more)
