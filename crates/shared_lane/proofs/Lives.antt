-- What a reader was given, beside its story.
use Rattle.std.proofs.Common.{◌≡◌, ◌≢◌, ℕ, zero, suc, ◌+◌, ◌-◌, ◌<◌, ◌≤◌, Bool, true, false, true≢false, Option, None, Some, List, [], ◌∷◌, ◌++◌, length, map, take, drop, replicate, slice_get, refl, sym, ap, ◌∙◌, subst, arith, length-append, append_assoc, suc-add, zero-add, add-zero}
use mathlib.Core.Option.{some, some-ne-none, some-injective}
use lib.ListN.{get_elem?, length-replicate}
use Rattle.std.proofs.lemmas.List.{append-nil, length-map, map-append, drop-append-le, length-drop, take-append-drop}
use Rattle.std.proofs.lemmas.Option.{slice_get-map, slice_get_within}
use Rattle.std.proofs.Math.Seq.{drop-append_seam}
use Rattle.std.proofs.lemmas.List.Elements.{filter_map-append}
use Rattle.std.specs.List.{range_with_len}
use Rattle.circular_buffer.proofs.Places.{slice_get-drop, slice_get-append_left}
use Rattle.shared_core.specs.Flow.{values_at}
use Rattle.shared_core.specs.Story.{Interleaves, none as neither, left as from_left, right as from_right}
use Rattle.shared_core.proofs.Lists.{values_at-range}
use Rattle.flow_terms.specs.Lists.{IsPrefix}
use Rattle.shared_lane.specs.Law.{Entry, HasWord, HasWords, received, lost}
use Rattle.shared_lane.proofs.Lists.{within}
use Rattle.shared_lane.specs.Views.{ReaderSeen}
use Rattle.shared_lane.specs.Caches.{word_of, IsLastOf}
use Rattle.shared_lane.specs.declared.reader.Taken.{Taken}
use Rattle.shared_lane.specs.declared.reader.Taken.TheVariants.{Value, Nothing, Overtaken}
use Rattle.shared_lane.specs.Readers.{at, story_to, WentTo, IsSameReader, TookNext}
use Rattle.shared_lane.specs.Picks.{TookAll}
use Rattle.shared_lane.specs.Headline.{words_seen, Went, Lived, gave, given, StartsAtCache, cache_then_later, pending, ReceivesCacheThenLater}

-- ---- a story and a list of words, by index

-- of the list xs from the index j on, these are the values that the story received
abbrev Fits : List ℕ → ℕ → List Bool → List ℕ → Type 0
Fits xs j [] ws = ws ≡ []
Fits xs j (true ∷ bs) ws = (w : ℕ) × (rest : List ℕ) × (ws ≡ w ∷ rest) × (slice_get xs j ≡ Some w) × Fits xs (suc j) bs rest
Fits xs j (false ∷ bs) ws = Fits xs (suc j) bs ws

abbrev Extends : List ℕ → List ℕ → Type 0
Extends ys xs = (i w : ℕ) → slice_get xs i ≡ Some w → slice_get ys i ≡ Some w

fits_on : (xs ys : List ℕ) → Extends ys xs → (j : ℕ) (bs : List Bool) (ws : List ℕ) → Fits xs j bs ws → Fits ys j bs ws
fits_on xs ys more j [] ws fits = fits
fits_on xs ys more j (true ∷ bs) ws fits = (fits.0, fits.1, fits.2, more j fits.0 fits.3, fits_on xs ys more (suc j) bs fits.1 fits.4)
fits_on xs ys more j (false ∷ bs) ws fits = fits_on xs ys more (suc j) bs ws fits

fits_lost : (xs : List ℕ) (k j : ℕ) (bs : List Bool) (ws : List ℕ) → Fits xs j bs ws → Fits xs j (bs ++ replicate k false) ws
fits_lost xs zero j [] ws fits = fits
fits_lost xs (suc k) j [] ws fits = fits_lost xs k (suc j) [] ws fits
fits_lost xs k j (true ∷ bs) ws fits = (fits.0, fits.1, fits.2, fits.3, fits_lost xs k (suc j) bs fits.1 fits.4)
fits_lost xs k j (false ∷ bs) ws fits = fits_lost xs k (suc j) bs ws fits

fits_one : (xs : List ℕ) (w j : ℕ) (bs : List Bool) (ws : List ℕ) → Fits xs j bs ws → slice_get xs (j + length bs) ≡ Some w → Fits xs j (bs ++ true ∷ []) (ws ++ w ∷ [])
fits_one xs w j [] ws fits here = (w, [], ap (λ l. l ++ w ∷ []) fits, ap (slice_get xs) (sym (add-zero j)) ∙ here, refl)
fits_one xs w j (true ∷ bs) ws fits here =
    (fits.0, fits.1 ++ w ∷ [], ap (λ l. l ++ w ∷ []) fits.2, fits.3, fits_one xs w (suc j) bs fits.1 fits.4 (ap (slice_get xs) (omega arith) ∙ here))
fits_one xs w j (false ∷ bs) ws fits here = fits_one xs w (suc j) bs ws fits (ap (slice_get xs) (omega arith) ∙ here)

cons_value : (xs : List ℕ) (j w : ℕ) (is : List ℕ) → slice_get xs j ≡ Some w → values_at xs (j ∷ is) ≡ w ∷ values_at xs is
cons_value xs j w is at_j = rw at_j refl

fits_values : (xs : List ℕ) (j : ℕ) (bs : List Bool) (ws : List ℕ) → Fits xs j bs ws → ws ≡ values_at xs (received j bs)
fits_values xs j [] ws fits = fits
fits_values xs j (true ∷ bs) ws fits = fits.2 ∙ ap (λ l. fits.0 ∷ l) (fits_values xs (suc j) bs fits.1 fits.4) ∙ sym (cons_value xs j fits.0 (received (suc j) bs) fits.3)
fits_values xs j (false ∷ bs) ws fits = fits_values xs (suc j) bs ws fits

-- ---- indexes

all_left : (a n : ℕ) → Interleaves (range_with_len a n) [] (range_with_len a n)
all_left a zero = neither
all_left a (suc n) = from_left a (all_left (a + 1) n)

-- the indexes received and those lost, and then those that are pending
pub mixed : (n j : ℕ) (bs : List Bool) → Interleaves (received j bs ++ range_with_len (j + length bs) n) (lost j bs) (range_with_len j (length bs + n))
mixed n j [] = let same : j + 0 ≡ j = add-zero j in rw same (rw (zero-add) (all_left j n))
mixed n j (true ∷ bs) =
    let here : suc j ≡ j + 1 = omega arith in
    let there : j + suc (length bs) ≡ suc j + length bs = omega arith in
    let count : suc (length bs) + n ≡ suc (length bs + n) = omega arith in
    rw (count, there, sym here) (from_left j (mixed n (suc j) bs))
mixed n j (false ∷ bs) =
    let here : suc j ≡ j + 1 = omega arith in
    let there : j + suc (length bs) ≡ suc j + length bs = omega arith in
    let count : suc (length bs) + n ≡ suc (length bs + n) = omega arith in
    rw (count, there, sym here) (from_right j (mixed n (suc j) bs))

lost_from : (s j : ℕ) (bs : List Bool) → map (λ index. s + index) (lost j bs) ≡ lost (s + j) bs
lost_from s j [] = refl
lost_from s j (true ∷ bs) = lost_from s (suc j) bs ∙ ap (λ a. lost a bs) (omega arith)
lost_from s j (false ∷ bs) = ap (λ l. (s + j) ∷ l) (lost_from s (suc j) bs ∙ ap (λ a. lost a bs) (omega arith))

pub lost_then : (j : ℕ) (bs : List Bool) → lost j (bs ++ true ∷ []) ≡ lost j bs
lost_then j [] = refl
lost_then j (true ∷ bs) = lost_then (suc j) bs
lost_then j (false ∷ bs) = ap (λ l. j ∷ l) (lost_then (suc j) bs)

-- ---- lists of entries

get_at : {X : Type 0} (xs : List X) (i : ℕ) (x : X) → get_elem? xs i ≡ some x → slice_get xs i ≡ Some x
get_at [] i x is = absurd (some-ne-none x (sym is))
get_at (y ∷ ys) zero x is = ap Some (some-injective y x is)
get_at (y ∷ ys) (suc i) x is = get_at ys i x is

word_at : (log : List Entry) (i e w : ℕ) → get_elem? log i ≡ some (e, w) → slice_get (map word_of log) i ≡ Some w
word_at log i e w is = slice_get-map word_of log i ∙ rw (get_at log i (e, w) is) refl

grown : (k : ℕ) (log more : List Entry) → Extends (drop k (map word_of (log ++ more))) (drop k (map word_of log))
grown k log more i w is =
    let was : slice_get (map word_of log) (k + i) ≡ Some w = sym (slice_get-drop k (map word_of log) i (k + i) refl) ∙ is in
    let inside = slice_get_within (map word_of log) (k + i) w was in
    slice_get-drop k (map word_of (log ++ more)) i (k + i) refl ∙ ap (λ l. slice_get l (k + i)) (map-append word_of log more)
    ∙ slice_get-append_left (map word_of log) (map word_of more) (k + i) inside ∙ was

drop_none : (n : ℕ) → drop {A = ℕ} n [] ≡ []
drop_none zero = refl
drop_none (suc n) = refl

drop-drop : (k n : ℕ) (xs : List ℕ) → drop n (drop k xs) ≡ drop (k + n) xs
drop-drop zero n xs = ap (λ c. drop c xs) (sym (zero-add n))
drop-drop (suc k) n [] = drop_none n ∙ sym (drop_none (suc k + n))
drop-drop (suc k) n (x ∷ xs) = drop-drop k n xs ∙ ap (λ c. drop c (x ∷ xs)) (sym (suc-add k n))

-- ---- a reader's life

-- a reader that began at f + k, and was given these
record Good (f k : ℕ) (drops : Bool) (r : ReaderSeen) (ws : List ℕ) : Type 0 where
  first : r.shape.first ≡ f
  drops_is : r.shape.drops ≡ drops
  start : r.start ≡ f + k
  fits : Fits (drop k (words_seen r)) 0 r.story ws
  whole : drops ≡ false → lost 0 r.story ≡ []

module _ (f k : ℕ) (drops : Bool) where
  length_to : (n : ℕ) (r : ReaderSeen) → at r ≤ n → r.start + length (story_to n r) ≡ n
  length_to n r le = let h = length-append r.story (replicate (n - at r) false) in let e = length-replicate (n - at r) false in omega (arith, h, e, le)

  seen_more : (r m : ReaderSeen) (bs : List Bool) (ws : List ℕ) → IsSameReader r m → Fits (drop k (words_seen r)) 0 bs ws → Fits (drop k (words_seen m)) 0 bs ws
  seen_more r m bs ws same fits =
      subst (λ l. Fits (drop k (map word_of l)) 0 bs ws) (sym same.3.1) (fits_on _ _ (grown k r.seen same.3.0) 0 bs ws fits)

  all_kept : (n : ℕ) (r : ReaderSeen) (ws : List ℕ) → Good f k drops r ws → (r.shape.drops ≡ false → n ≡ at r) → drops ≡ false → lost 0 (story_to n r) ≡ []
  all_kept n r ws good kept keeps =
      let none : n - at r ≡ 0 = (let e = kept (good.drops_is ∙ keeps) in omega (arith, e)) in
      ap (λ c. lost 0 (r.story ++ replicate c false)) none ∙ ap (lost 0) (append-nil r.story) ∙ good.whole keeps

  one_call : (r m : ReaderSeen) (x : Option ℕ) (ws : List ℕ) → Good f k drops r ws → Went r x m → IsSameReader r m → Good f k drops m (ws ++ given (x ∷ []))
  one_call r m None ws good went same =
      record {
        first = ap (λ z. z.first) same.2 ∙ good.first;
        drops_is = ap (λ z. z.drops) same.2 ∙ good.drops_is;
        start = same.0 ∙ good.start;
        fits = subst (λ l. Fits (drop k (words_seen m)) 0 m.story l) (sym (append-nil ws))
            (subst (λ bs. Fits (drop k (words_seen m)) 0 bs ws) (sym went.1.2) (fits_lost _ (went.0 - at r) 0 r.story ws (seen_more r m r.story ws same good.fits)));
        whole = λ keeps. ap (lost 0) went.1.2 ∙ all_kept went.0 r ws good went.1.1 keeps;
      }
  one_call r m (Some w) ws good went same =
      let n = went.0 in let i : ℕ = went.4.0 in
      let long = length_to n r went.1 in
      let number : n ≡ r.shape.first + i = went.4.2 in
      let index : k + length (story_to n r) ≡ i = omega (arith, long, number, good.first, good.start) in
      let here : slice_get (drop k (words_seen m)) (0 + length (story_to n r)) ≡ Some w =
      slice_get-drop k (words_seen m) (0 + length (story_to n r)) i (omega (arith, index)) ∙ word_at m.seen i went.4.1 w went.4.3 in
      record {
        first = ap (λ z. z.first) same.2 ∙ good.first;
        drops_is = ap (λ z. z.drops) same.2 ∙ good.drops_is;
        start = same.0 ∙ good.start;
        fits = subst (λ bs. Fits (drop k (words_seen m)) 0 bs (ws ++ w ∷ [])) (sym went.3)
            (fits_one _ w 0 (story_to n r) ws (fits_lost _ (n - at r) 0 r.story ws (seen_more r m r.story ws same good.fits)) here);
        whole = λ keeps. ap (lost 0) went.3 ∙ lost_then 0 (story_to n r) ∙ all_kept n r ws good went.2 keeps;
      }

  given_more : (x : Option ℕ) (xs : List (Option ℕ)) (ws : List ℕ) → (ws ++ given (x ∷ [])) ++ given xs ≡ ws ++ given (x ∷ xs)
  given_more (Some w) xs ws = append_assoc ws (w ∷ []) (given xs)
  given_more None xs ws = ap (λ l. l ++ given xs) (append-nil ws)

  all_calls : (r t : ReaderSeen) (calls : List (Option ℕ)) (ws : List ℕ) → Good f k drops r ws → Lived r calls t → Good f k drops t (ws ++ given calls)
  all_calls r t [] ws good lived = subst (λ z. Good f k drops z (ws ++ [])) (sym lived) (subst (λ l. Good f k drops r l) (sym (append-nil ws)) good)
  all_calls r t (x ∷ xs) ws good lived =
      subst (λ l. Good f k drops t l) (given_more x xs ws) (all_calls lived.0 t xs (ws ++ given (x ∷ [])) (one_call r lived.0 x ws good lived.1 lived.2) lived.3)

grows : (r t : ReaderSeen) (calls : List (Option ℕ)) → Lived r calls t → IsPrefix r.seen t.seen
grows r t [] lived = ([], ap (λ (z : ReaderSeen). z.seen) lived ∙ sym (append-nil r.seen))
grows r t (x ∷ xs) lived =
    let m = lived.0 in let rest = grows m t xs lived.3 in let now = lived.2.3 in
    (now.0 ++ rest.0, rest.1 ∙ ap (λ l. l ++ rest.0) now.1 ∙ append_assoc r.seen now.0 rest.0)

-- what was cached and what came later, as one part of what was seen
one_list : (cache : List ℕ) (log more : List Entry) (k : ℕ) → IsLastOf log cache → k + length cache ≡ length log
    → cache ++ drop (length log) (map word_of (log ++ more)) ≡ drop k (map word_of (log ++ more))
one_list cache log more k latest count =
    let xs = map word_of log in let ys = map word_of more in
    let all : map word_of (log ++ more) ≡ xs ++ ys = map-append word_of log more in
    let as_long : length xs ≡ length log = length-map _ _ in
    let index : length xs - length cache ≡ k = omega (arith, as_long, count) in
    let cached : cache ≡ drop k xs = sym latest ∙ ap (λ c. drop c xs) index in
    let later : drop (length log) (xs ++ ys) ≡ ys = ap (λ c. drop c (xs ++ ys)) (sym as_long) ∙ drop-append_seam xs ys in
    rw all (ap (λ l. l ++ drop (length log) (xs ++ ys)) cached ∙ ap (λ l. drop k xs ++ l) later ∙ sym (drop-append-le k xs ys (omega (arith, as_long, count))))

pub receives : (cache : List ℕ) (start now : ReaderSeen) (calls : List (Option ℕ)) → StartsAtCache cache start → Lived start calls now
    → at now ≤ now.shape.first + length now.seen → ReceivesCacheThenLater cache start now (given calls)
receives cache start now calls starts lived near =
    let f = start.shape.first in
    let begun = starts.starts_at_the_cache in let latest = starts.caches_the_latest in let nothing = starts.nothing_yet in
    let words_count : length (words_seen start) ≡ length start.seen = length-map _ _ in
    let cached : length cache ≡ length (words_seen start) - (length (words_seen start) - length cache) = sym (ap length latest) ∙ length-drop (length (words_seen start) - length cache) (words_seen start) in
    let long : length cache ≤ length start.seen = omega (arith, cached, words_count) in
    let k = length start.seen - length cache in
    let began : start.start ≡ f + k = omega (arith, begun, long, ap length nothing) in
    let first : Good f k start.shape.drops start [] = record { first = refl; drops_is = refl; start = began; fits = subst (λ bs. Fits (drop k (words_seen start)) 0 bs []) (sym nothing) refl; whole = λ keeps. ap (lost 0) nothing } in
    let good = all_calls f k start.shape.drops start now calls [] first lived in
    let grew = grows start now calls lived in
    let xs = drop k (words_seen now) in
    let bs = now.story in
    let one : cache_then_later cache start now ≡ xs =
    subst (λ l. cache ++ drop (length start.seen) (map word_of l) ≡ drop k (map word_of l)) (sym grew.1) (one_list cache start.seen grew.0 k latest (omega (arith, long))) in
    let count : length xs ≡ length (words_seen now) - k = length-drop k (words_seen now) in
    let seen_count : length (words_seen now) ≡ length now.seen = length-map _ _ in
    let within : length bs ≤ length xs = omega (arith, near, good.start, good.first, count, seen_count) in
    let pends : pending now ≡ values_at xs (range_with_len (length bs) (length xs - length bs)) =
    ap (λ c. drop c (words_seen now)) (omega (arith, good.start, good.first)) ∙ sym (drop-drop k (length bs) (words_seen now)) ∙ sym (values_at-range (length bs) xs) in
    record {
      kept = received 0 bs ++ range_with_len (length bs) (length xs - length bs);
      dropped = lost 0 bs;
      received_then_pending_is_cache_then_later = rw one (ap (λ l. l ++ pending now) (fits_values xs 0 bs (given calls) good.fits) ∙ ap (λ l. values_at xs (received 0 bs) ++ l) pends
          ∙ sym (filter_map-append (slice_get xs) (received 0 bs) (range_with_len (length bs) (length xs - length bs))));
      in_order_and_once = rw one (subst (λ c. Interleaves (received 0 bs ++ range_with_len (length bs) (length xs - length bs)) (lost 0 bs) (range_with_len 0 c)) (omega (arith, within)) (subst (λ c. Interleaves (received 0 bs ++ range_with_len c (length xs - length bs)) (lost 0 bs) (range_with_len 0 (length bs + (length xs - length bs)))) (zero-add (length bs)) (mixed (length xs - length bs) 0 bs)));
      in_order_of_acceptance = rw one (take k (words_seen now), sym (take-append-drop k (words_seen now)));
      dropped_are_lost = lost_from now.start 0 bs ∙ ap (λ a. lost a bs) (add-zero now.start);
      only_drop_oldest_drops = λ keeps. good.whole keeps;
    }

-- ---- a life that grows call by call

pub no_calls : (r : ReaderSeen) → Lived r [] r
no_calls r = refl

-- an attempt to take the next value is a call
pub took_went : (r t : ReaderSeen) (taken : Taken ℕ) → TookNext r taken t → Went r (gave taken) t
took_went r t (Value w) took = took
took_went r t Nothing took = (took.0, took.1)
took_went r t Overtaken took = let n : ℕ = took.0 in let far : at r < n = took.1 in (n, ((omega arith), (λ keeps. absurd (true≢false (sym took.2 ∙ keeps))), took.3))

-- one call more
pub lived_more : (r m t : ReaderSeen) (calls : List (Option ℕ)) (x : Option ℕ) → Lived r calls m → Went m x t → IsSameReader m t → Lived r (calls ++ x ∷ []) t
lived_more r m t [] x lived went same = (t, subst (λ z. Went z x t) lived went, subst (λ z. IsSameReader z t) lived same, refl)
lived_more r m t (y ∷ ys) x lived went same = (lived.0, lived.1, lived.2, lived_more lived.0 m t ys x lived.3 went same)

pub given_one : (calls : List (Option ℕ)) (x : Option ℕ) → given (calls ++ x ∷ []) ≡ given calls ++ given (x ∷ [])
given_one [] x = refl
given_one (Some w ∷ xs) x = ap (λ l. w ∷ l) (given_one xs x)
given_one (None ∷ xs) x = given_one xs x

reaches : (n : ℕ) (r : ReaderSeen) → at r ≤ n → r.start + length (story_to n r) ≡ n
reaches n r le = let h = length-append r.story (replicate (n - at r) false) in let e = length-replicate (n - at r) false in omega (arith, h, e, le)

-- a reader that took a value, or found nothing, has seen as far as its position
pub has_seen_so_far : (r t : ReaderSeen) (taken : Taken ℕ) → TookNext r taken t → IsSameReader r t → taken ≢ Overtaken → at t ≤ t.shape.first + length t.seen
has_seen_so_far r t (Value w) took same other =
    let n : ℕ = took.0 in let long = reaches n r took.1 in let story : length t.story ≡ length (story_to n r ++ true ∷ []) = ap length took.3 in let one = length-append (story_to n r) (true ∷ []) in
    let start = same.0 in let first : t.shape.first ≡ r.shape.first = (λ i. (same.2 i).first) in let index : ℕ = took.4.0 in let number : n ≡ r.shape.first + index = took.4.2 in let inside = within t.seen index (took.4.1, w) took.4.3 in omega arith
has_seen_so_far r t Nothing took same other =
    let n : ℕ = took.0 in let long = reaches n r took.1.0 in let story : length t.story ≡ length (story_to n r) = ap length took.1.2 in
    let start = same.0 in let first : t.shape.first ≡ r.shape.first = (λ i. (same.2 i).first) in let end : n ≡ r.shape.first + length t.seen = took.2 in omega arith
has_seen_so_far r t Overtaken took same other = absurd (other refl)

-- ---- several values at once

-- words that were accepted from the position on are taken one after another
takes_each : (t : ReaderSeen) (story : List Bool) (words : List ℕ) (n : ℕ) → t.start + length story ≡ n → HasWords t.shape.first t.seen n words
    → Lived (record t { story = story }) (map Some words) (record t { story = story ++ replicate (length words) true })
takes_each t story [] n here has = λ i. record t { story = append-nil story i }
takes_each t story (w ∷ ws) n here has = let r : ReaderSeen = record t { story = story } in let m : ReaderSeen = record t { story = story ++ true ∷ [] } in
    let longer = length-append story (true ∷ []) in let first : HasWord t.shape.first t.seen (n + 0) w = has 0 w refl in let none_lost : n - at r ≡ 0 = omega arith in
    let same : n + 0 ≡ n = omega arith in
    let rest : HasWords t.shape.first t.seen (n + 1) ws = λ i x is. subst (λ (z : ℕ). HasWord t.shape.first t.seen z x) (let e : n + suc i ≡ n + 1 + i = omega arith in e) (has (suc i) x is) in (
      m,
      (
        n,
        omega arith,
        (λ _. sym here),
        (λ i. (sym (append-nil story) ∙ ap (λ (z : ℕ). story ++ replicate z false) (sym none_lost)) i ++ true ∷ []),
        subst (λ (z : ℕ). HasWord t.shape.first t.seen z w) same first,
      ),
      (refl, refl, refl, ([], sym (append-nil t.seen)), refl, refl),
      subst (λ (bs : List Bool). Lived m (map Some ws) (record t { story = bs })) (append_assoc story (true ∷ []) (replicate (length ws) true)) (takes_each t (story ++ true ∷ []) ws (n + 1) (omega arith) rest),
    )

given_some : (words : List ℕ) → given (map Some words) ≡ words
given_some [] = refl
given_some (w ∷ ws) = ap (λ l. w ∷ l) (given_some ws)

-- an attempt that took none is one call
found_none : (r t : ReaderSeen) (n : ℕ) → IsSameReader r t → WentTo n r t → Lived r (None ∷ []) t
found_none r t n same went = (t, (n, went), same, refl)

pub took_all_lived : (r t : ReaderSeen) (room : ℕ) (taken : Taken ℕ) (words : List ℕ) → IsSameReader r t → TookAll r room taken words t → Lived r (None ∷ map Some words) t × (given (None ∷ map Some words) ≡ words)
took_all_lived r t room (Value k) words same took = let n : ℕ = took.0 in let story : List Bool = story_to n r in let m : ReaderSeen = record t { story = story } in let first : r.shape.first ≡ t.shape.first = (λ i. (sym same.2 i).first) in
    let there = reaches n r took.1 in let start = same.0 in
    let each = takes_each t story words n (omega arith) (subst (λ (f : ℕ). HasWords f t.seen n words) first took.4) in (
      (
        m,
        (n, (took.1, took.2, refl)),
        same,
        subst (λ (z : ReaderSeen). Lived m (map Some words) z) (λ i. record t { story = (ap (λ (z : ℕ). story ++ replicate z true) took.5 ∙ sym took.3) i }) each,
      ),
      given_some words,
    )
took_all_lived r t room Nothing words same took = let found = took.1 in
    (subst (λ (ws : List ℕ). Lived r (None ∷ map Some ws) t) (sym took.0) (found_none r t found.0 same found.1), given_some words)
took_all_lived r t room Overtaken words same took = let far = took.1 in let n : ℕ = far.0 in let above = far.1 in
    (subst (λ (ws : List ℕ). Lived r (None ∷ map Some ws) t) (sym took.0) (found_none r t n same ((omega arith), (λ keeps. absurd (true≢false (sym far.2 ∙ keeps))), far.3)), given_some words)
