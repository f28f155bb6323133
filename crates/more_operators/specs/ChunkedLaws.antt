-- Laws of `chunked`: what it gives value by value is the list cut into pieces.
use Rattle.std.specs.Prelude.{◌≡◌, ◌≢◌, ℕ, zero, suc, ◌+◌, ◌-◌, ◌<◌, ◌≤◌, ◌==◌, Bool, true, false, List, [], ◌∷◌, ◌++◌, length, take, drop, Option, Some, None, IsTrue, ◌&&◌, nat_lt, nat_le, if◌then◌else◌, refl}
use Rattle.std.proofs.Common.{ap, sym, ◌∙◌, arith, append_assoc, append-nil, length-append, length-drop, take_all, take_at, drop_at, eqb-true, eq-eqb, ne_eqb, true≢false, inl, inr, lt-ltb, ltb-true, le-leb, leb-true}
use Rattle.std.proofs.lemmas.List.{drop_all}
use Rattle.flow_terms.specs.Few.{values_of}
use Rattle.cold_flow.specs.declared.cause.Cause.{Cause}
use Rattle.cold_flow.specs.declared.cause.Cause.TheVariants.{Finished, Failed, Cancelled, Refused}
use Rattle.cold_flow.specs.Poll.{Traces, Makes, MakesExactly}
use Rattle.cold_flow.specs.Trace.{Trace, led_by}
use Rattle.more_operators.specs.declared.operators.onward.Onward.TheVariants.{More}
use Rattle.flow_terms.specs.declared.few.Few.TheVariants.{Zero, One}
use Rattle.more_operators.specs.Chunked.{pieces, cut, full_pieces, chunks_by, chunked_trace}
use Rattle.more_operators.specs.Gathers.{Gathers, values_in, given_for, gathered_after, given_last, few_of, is_gathering, silent_for}
use Rattle.more_operators.specs.Relayed.{relayed, relayed_on, relayed_end, relayed_trace, given_by, GivesSoon}
use Rattle.more_operators.specs.RelayedLaws.{makes-same, exactly-same, both-true, first-true, second-true}

module _ {A : Type 0} (n : ℕ) (some : 0 < n) where
  -- more pieces than values make no difference
  enough : (most least : ℕ) (xs : List A) → length xs ≤ most → length xs ≤ least → pieces most n xs ≡ pieces least n xs
  enough zero zero [] high low = refl
  enough zero (suc least) [] high low = refl
  enough (suc most) zero [] high low = refl
  enough (suc most) (suc least) [] high low = refl
  enough zero least (x ∷ xs) high low = absurd (omega arith)
  enough (suc most) zero (x ∷ xs) high low = absurd (omega arith)
  enough (suc most) (suc least) (x ∷ xs) high low =
      let left = length-drop n (x ∷ xs) in
      ap (λ later. take n (x ∷ xs) ∷ later) (enough most least (drop n (x ∷ xs)) (omega (arith, left)) (omega (arith, left)))

  -- the first piece is the first n values
  cut-front : (piece xs : List A) → length piece ≡ n → cut n (piece ++ xs) ≡ piece ∷ cut n xs
  cut-front [] xs len = absurd (omega arith)
  cut-front (x ∷ piece) xs len =
      let front = take_at (x ∷ piece) xs n len in
      let back = drop_at (x ∷ piece) xs n len in
      rw (front, back) (ap (λ later. (x ∷ piece) ∷ later)
      (enough (length (piece ++ xs)) (length xs) xs (omega (arith, length-append piece xs)) (omega arith)))

  -- fewer than n values are one piece
  cut-short : (piece : List A) → length piece < n → piece ≢ [] → cut n piece ≡ piece ∷ []
  cut-short [] len none = absurd (none refl)
  cut-short (x ∷ piece) len none =
      rw (take_all n (x ∷ piece) (omega arith), drop_all n (x ∷ piece) (omega arith))
      (ap (λ later. (x ∷ piece) ∷ later) (enough (length piece) 0 [] (omega arith) (omega arith)))

  full-front : (piece xs : List A) → length piece ≡ n → full_pieces n (piece ++ xs) ≡ piece ∷ full_pieces n xs
  full-front piece xs len = let full : (length piece == n) ≡ true = eq-eqb _ _ len in rw (cut-front piece xs len, full) refl

  full-short : (piece : List A) → length piece < n → piece ≢ [] → full_pieces n piece ≡ []
  full-short piece len none =
      let short : (length piece == n) ≡ false = ne_eqb _ _ (λ is. omega arith) in
      rw (cut-short piece len none, short) refl

  -- the same of what is given by the end
  by-front : {E : Type 0} (piece xs : List A) (end : Option (Cause E)) → length piece ≡ n → chunks_by n (piece ++ xs) end ≡ piece ∷ chunks_by n xs end
  by-front piece xs None len = full-front piece xs len
  by-front piece xs (Some Finished) len = cut-front piece xs len
  by-front piece xs (Some (Failed e)) len = full-front piece xs len
  by-front piece xs (Some Cancelled) len = full-front piece xs len
  by-front piece xs (Some (Refused r)) len = full-front piece xs len

  -- where no value is left
  nothing-left : {E : Type 0} (gathered : Option (List A)) (end : Option (Cause E)) → length (values_in gathered) < n → gathered ≢ Some []
      → relayed_end (values_of (few_of gathered)) end ≡ (chunks_by n (values_in gathered) end, end)
  nothing-left None None len none = refl
  nothing-left None (Some Finished) len none = refl
  nothing-left None (Some (Failed e)) len none = refl
  nothing-left None (Some Cancelled) len none = refl
  nothing-left None (Some (Refused r)) len none = refl
  nothing-left (Some xs) None len none = ap (λ l. (l, None)) (sym (full-short xs len (λ is. none (ap Some is))))
  nothing-left (Some xs) (Some Finished) len none = ap (λ l. (l, Some Finished)) (sym (cut-short xs len (λ is. none (ap Some is))))
  nothing-left (Some xs) (Some (Failed e)) len none = ap (λ l. (l, Some (Failed e))) (sym (full-short xs len (λ is. none (ap Some is))))
  nothing-left (Some xs) (Some Cancelled) len none = ap (λ l. (l, Some Cancelled)) (sym (full-short xs len (λ is. none (ap Some is))))
  nothing-left (Some xs) (Some (Refused r)) len none = ap (λ l. (l, Some (Refused r))) (sym (full-short xs len (λ is. none (ap Some is))))

  -- one more value, which makes this of those that were gathered
  one-more : {E : Type 0} (full : Bool) (piece xs : List A) (end : Option (Cause E)) → (length piece == n) ≡ full → length piece ≤ n
      → relayed given_for gathered_after given_last (record { size = n; gathered = None }) xs end ≡ chunked_trace n (xs, end)
      → (length piece < n → relayed given_for gathered_after given_last (record { size = n; gathered = Some piece }) xs end ≡ chunked_trace n (piece ++ xs, end))
      → relayed_on (if full then More (One piece) else More Zero)
      (relayed given_for gathered_after given_last (record { size = n; gathered = if full then None else Some piece }) xs end)
      ≡ chunked_trace n (piece ++ xs, end)
  one-more true piece xs end is len given gathers = ap (led_by piece) given ∙ ap (λ l. (l, end)) (sym (by-front piece xs end (eqb-true _ _ is)))
  one-more false piece xs end is len given gathers = gathers (let short = (λ (e : length piece ≡ n). true≢false (sym (eq-eqb _ _ e) ∙ is)) in omega (arith, short))

  gathers : {E : Type 0} (gathered : Option (List A)) (xs : List A) (end : Option (Cause E)) → length (values_in gathered) < n → gathered ≢ Some []
      → relayed given_for gathered_after given_last (record { size = n; gathered = gathered }) xs end ≡ chunked_trace n (values_in gathered ++ xs, end)
  gathers gathered [] end len none = nothing-left gathered end len none ∙ ap (λ l. chunked_trace n (l, end)) (sym (append-nil (values_in gathered)))
  gathers gathered (x ∷ xs) end len none =
      let more = length-append (values_in gathered) (x ∷ []) in
      one-more (length (values_in gathered ++ x ∷ []) == n) (values_in gathered ++ x ∷ []) xs end refl (omega (arith, more))
      (gathers None xs end some (λ is. absurd (cc)))
      (λ short. gathers (Some (values_in gathered ++ x ∷ [])) xs end short (λ is. omega (arith, more, ap (λ o. length (values_in o)) is)))
      ∙ ap (λ l. chunked_trace n (l, end)) (append_assoc (values_in gathered) (x ∷ []) xs)

  chunked-same : {E : Type 0} (t : Trace A E) → relayed_trace given_for gathered_after given_last (record { size = n; gathered = None }) t ≡ chunked_trace n t
  chunked-same t = gathers None t.0 t.1 some (λ is. absurd (cc))

  pub chunked_makes : {E : Type 0} (source : Traces A E) (made : Traces (List A) E)
      → Makes (relayed_trace given_for gathered_after given_last (record { size = n; gathered = None })) source made → Makes (chunked_trace n) source made
  chunked_makes source made = makes-same _ (chunked_trace n) chunked-same source made

  pub chunked_exactly : {E : Type 0} (source : Traces A E) (made : Traces (List A) E)
      → MakesExactly (relayed_trace given_for gathered_after given_last (record { size = n; gathered = None })) source made → MakesExactly (chunked_trace n) source made
  chunked_exactly source made = exactly-same _ (chunked_trace n) chunked-same source made

-- ---- within 16 values a chunk is full

module _ {A : Type 0} where
  soon-by : (full : Bool) (size : ℕ) (gathered : Option (List A)) (piece : List A) → (length piece == size) ≡ full
      → length piece ≡ length (values_in gathered) + 1 → length (values_in gathered) < size → size ≤ 16
      → GivesSoon (size - (length (values_in gathered) + 1)) (given_by (if full then More (One piece) else More Zero))
      (size - (length (values_in (if full then None else Some piece)) + 1))
      × IsTrue (is_gathering (record { size = size; gathered = if full then None else Some piece }))
  soon-by true size gathered piece is more room short = ((omega arith, inl refl), both-true _ _ (lt-ltb _ _ (omega arith)) (le-leb _ _ short))
  soon-by false size gathered piece is more room short =
      let fewer : length piece < size = let apart = (λ (e : length piece ≡ size). true≢false (sym (eq-eqb _ _ e) ∙ is)) in omega (arith, more, room, apart) in
      ((omega (arith, short), inr (omega (arith, more, fewer))), both-true _ _ (lt-ltb _ _ fewer) (le-leb _ _ short))

  pub gathers_soon : (g : Gathers A) (x : A) → IsTrue (is_gathering g)
      → GivesSoon (silent_for g) (given_by (given_for g x)) (silent_for (gathered_after g x)) × IsTrue (is_gathering (gathered_after g x))
  gathers_soon g x room =
      soon-by (length (values_in g.gathered ++ x ∷ []) == g.size) g.size g.gathered (values_in g.gathered ++ x ∷ []) refl
      (length-append (values_in g.gathered) (x ∷ [])) (ltb-true _ _ (first-true _ _ room)) (leb-true _ _ (second-true _ _ room))

-- a new one, where the size is not refused
pub gathers_from : (size : ℕ) → 0 < size → size ≤ 16 → IsTrue (nat_lt 0 size && nat_le size 16)
gathers_from size some short = both-true _ _ (lt-ltb _ _ some) (le-leb _ _ short)
