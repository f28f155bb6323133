-- A hasher takes eight bytes at a time.
use Rattle.std.proofs.Common.{◌≡◌, ◌<◌, ◌-◌, ◌∙◌, ℕ, zero, suc, List, take, drop, refl, sym, ap, arith}
use Rattle.script_commands.specs.Hashes.{in_eights}

one_more : {S : Type 0} (write : S → List ℕ → S) (count : ℕ) (state : S) (bytes : List ℕ) → 0 < count
    → in_eights write count state bytes ≡ in_eights write (count - 1) (write state (take 8 bytes)) (drop 8 bytes)
unfolding in_eights
one_more write zero state bytes some = elim some [ ]
one_more write (suc count) state bytes some =
    let less : count ≡ suc count - 1 = omega arith in ap (λ n. in_eights write n (write state (take 8 bytes)) (drop 8 bytes)) less

-- what comes of all is what comes of the rest, once eight more were taken
pub kept : {S : Type 0} (write : S → List ℕ → S) (count : ℕ) (state after whole : S) (bytes front back : List ℕ) → 0 < count
    → front ≡ take 8 bytes → back ≡ drop 8 bytes → after ≡ write state front → in_eights write count state bytes ≡ whole
    → in_eights write (count - 1) after back ≡ whole
kept write count state after whole bytes front back some at_front at_back taken before =
    ap (λ it. in_eights write (count - 1) it back) (taken ∙ ap (write state) at_front)
    ∙ ap (in_eights write (count - 1) (write state (take 8 bytes))) at_back
    ∙ sym (one_more write count state bytes some) ∙ before

-- what comes of all comes of the last ones
pub last : {S : Type 0} (write : S → List ℕ → S) (count : ℕ) (state after whole : S) (bytes : List ℕ) → count ≡ 0
    → after ≡ write state bytes → in_eights write count state bytes ≡ whole → after ≡ whole
unfolding in_eights
last write count state after whole bytes none taken before = taken ∙ ap (λ n. in_eights write n state bytes) (sym none) ∙ before
