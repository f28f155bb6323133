-- Texts that are added one after another.
use Rattle.std.proofs.Common.{◌≡◌, ◌++◌, ◌∙◌, ℕ, List, Result, Ok, Err, is_ok, if◌then◌else◌, OnOk, ap, append_assoc}

-- one more
pub both : (old mid new a b : List ℕ) → mid ≡ old ++ a → new ≡ mid ++ b → new ≡ old ++ (a ++ b)
both old mid new a b first second = second ∙ ap (λ m. m ++ b) first ∙ append_assoc old a b

-- one more, where it comes
pub after : {T E : Type 0} (r : Result T E) (old mid new a b : List ℕ) → mid ≡ old ++ a → OnOk r (new ≡ mid ++ b) → OnOk r (new ≡ old ++ (a ++ b))
after (Ok value) old mid new a b first second = both old mid new a b first second
after (Err error) old mid new a b first second = second

-- one more, as a string takes it
pub after_text : {T E : Type 0} (r : Result T E) (old mid new a b : List ℕ) → mid ≡ old ++ a → new ≡ (if is_ok r then mid ++ b else mid) → OnOk r (new ≡ old ++ (a ++ b))
after_text (Ok value) old mid new a b first second = both old mid new a b first second
after_text (Err error) old mid new a b first second = tt

-- ---- before what comes after, which stands already

-- a text
pub text_before : {T E : Type 0} (r : Result T E) (old mid new a rest : List ℕ) → mid ≡ old ++ a → OnOk r (new ≡ mid ++ rest) → OnOk r (new ≡ old ++ (a ++ rest))
text_before (Ok value) old mid new a rest first second = second ∙ ap (λ m. m ++ rest) first ∙ append_assoc old a rest
text_before (Err error) old mid new a rest first second = second

-- a text with a number
pub number_before : {T E : Type 0} (r : Result T E) (old mid new a n rest : List ℕ) → mid ≡ old ++ (a ++ n) → OnOk r (new ≡ mid ++ rest) → OnOk r (new ≡ old ++ (a ++ (n ++ rest)))
number_before (Ok value) old mid new a n rest first second = second ∙ ap (λ m. m ++ rest) first ∙ append_assoc old (a ++ n) rest ∙ ap (λ t. old ++ t) (append_assoc a n rest)
number_before (Err error) old mid new a n rest first second = second

-- the last text
pub text_last : {T E : Type 0} (r : Result T E) (old new a : List ℕ) → new ≡ (if is_ok r then old ++ a else old) → OnOk r (new ≡ old ++ a)
text_last (Ok value) old new a given = given
text_last (Err error) old new a given = tt
