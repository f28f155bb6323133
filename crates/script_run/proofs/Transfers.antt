-- What reads and writes make of known bytes.
use Rattle.std.proofs.Common.{◌≡◌, ℕ, ◌+◌, ◌-◌, ◌≤◌, List, ◌++◌, take, drop, length, length-append, Option, sym, subst, arith}
use Rattle.script_run.specs.Input.{TakesAtMost}
use Rattle.std.proofs.Math.Seq.{take-add}
use Rattle.std.specs.Io.KnownBytes.{Appends, Consumes}
use Rattle.std.proofs.KnownBytes.{Appends-trans, Consumes-trans}

-- one more write
pub written_more : (old mid new : Option (List ℕ)) (text rest : List ℕ) (i n : ℕ) → rest ≡ drop i text → Appends old mid (take i text) → Appends mid new (take n rest) → Appends old new (take (i + n) text)
written_more old mid new text rest i n e p q =
    let q' : Appends mid new (take n (drop i text)) = subst (λ r. Appends mid new (take n r)) e q in
    subst (Appends old new) (sym (take-add i n text)) (Appends-trans old mid new (take i text) (take n (drop i text)) p q')

-- one more read
pub read_more : (old mid new : Option (List ℕ)) (before after bytes : List ℕ) → after ≡ before ++ bytes → Consumes old mid before → Consumes mid new bytes → Consumes old new after
read_more old mid new before after bytes e p q = subst (Consumes old new) (sym e) (Consumes-trans old mid new before bytes p q)

-- what came before, and what came of what was left
pub taken_more : (old mid new : Option (List ℕ)) (before : List ℕ) (most : ℕ) → length before ≤ most → Consumes old mid before → TakesAtMost mid new (most - length before) → TakesAtMost old new most
taken_more old mid new before most small p (bytes, came, few) =
    (before ++ bytes, Consumes-trans old mid new before bytes p came, simp length-append (omega arith))
