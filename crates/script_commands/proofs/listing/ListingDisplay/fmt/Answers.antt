use Rattle.std.proofs.Common.{◌≡◌, ℕ, ◌≤◌, ◌-◌, ◌+◌, List, [], ◌∷◌, ◌++◌, length, take, drop, get_or, codes, decimal, refl, sym, ap, ◌∙◌, arith, rules}
use Rattle.std.proofs.lemmas.Grind.{put_two, put_three}
use Rattle.std.proofs.lemmas.List.{take_all, take_more, flat_map_more}
use Rattle.std.specs.Prelude.{flat_map}
use Rattle.script_commands.specs.Listings.{listing, next_item}
use Rattle.script_commands.proofs.listing.ListingDisplay.fmt.Goals as goal

-- Left to the search, the two goals take half a minute.

-- what stands after the first value
abbrev after_first : List ℕ → List ℕ
after_first values = take (length values - 1) (drop 1 values)

shown : (values : List ℕ) (index : ℕ) → 1 ≤ length values → length (after_first values) ≤ index
    → (codes "[" ++ decimal (get_or values 0 0)) ++ (flat_map next_item (take index (after_first values)) ++ codes "]") ≡ listing values
shown [] index filled past = absurd (omega arith)
shown (value ∷ values) index filled past =
    let whole : after_first (value ∷ values) ≡ values = take_all (length (value ∷ values) - 1) values (omega arith) in
    let all : take index values ≡ values = take_all index values (omega (arith, ap length whole, past)) in
    rw (whole, all) refl

pub loop-value-preserved : goal.loop-value-preserved
loop-value-preserved g c = λ plain.
    let rest = after_first c.as_slice.result.now in
    let index = c.loop-value.value-index in
    put_two g.W.Write.write_str_gives c.write-2.new.self c.loop-value.f c.write-in-loop-value.new.self
    (flat_map next_item (take index rest)) (next_item (get_or rest index 0)) (flat_map next_item (take (index + 1) rest))
    (c.loop-value.invariant plain) (search rules)
    (flat_map_more next_item [] (take index rest) (get_or rest index 0) ∙ ap (flat_map next_item) (sym (take_more rest index 0 c.loop-value-test.true)))

pub returns-clause-writes : goal.returns-clause-writes
returns-clause-writes g c = λ plain done.
    let values = c.as_slice.result.now in
    let index = c.loop-value.value-index in
    let same : values ≡ c.args.self.now = cc in
    put_three g.W.Write.write_str_gives c.args.f.now c.write-2.new.self c.loop-value.f c.write-3.new.self
    (codes "[" ++ decimal (get_or values 0 0)) (flat_map next_item (take index (after_first values))) (codes "]") (listing c.args.self.now)
    (search rules) (c.loop-value.invariant (search rules)) (search rules)
    (shown values index c.in-len1-up.len_at_least c.loop-value-test.false ∙ ap listing same)
