-- The calls on one part of what stands for a name, beside which all the rest stays as it was.
use Rattle.std.specs.Prelude.{◌≡◌}
use Rattle.script_calls.specs.Calls.{Receipts}

module _ {X S R : Type 0} (part : X → S) (rest : X → R) where
  abbrev pub receipts_beside : Receipts S → Receipts X
  receipts_beside calls = record {
    Subscribes = λ old prelude reply new. calls.Subscribes (part old) prelude reply (part new) × (rest new ≡ rest old);
    Nexts = λ old id reply new. calls.Nexts (part old) id reply (part new) × (rest new ≡ rest old);
    Cancels = λ old id reply new. calls.Cancels (part old) id reply (part new) × (rest new ≡ rest old);
    Caches = λ old reply new. calls.Caches (part old) reply (part new) × (rest new ≡ rest old);
    Counts = λ old reply new. calls.Counts (part old) reply (part new) × (rest new ≡ rest old);
  }
