-- A keyword is found among those of as many letters.
use Rattle.std.proofs.Common.{◌≡◌, ◌≢◌, ℕ, List, [], ◌∷◌, length, true, false, if◌then◌else◌, ◌==◌, filter, bytes_eq, ap, sym, ◌∙◌, refl, inl, inr, None}
use Rattle.std.proofs.lemmas.Slice.Eq.{bytes_eq-Decides}
use Rattle.std.proofs.lemmas.Bool.Decides.{eqb_tells}
use Rattle.script_commands.specs.Commands.{Form, forms, form_in, command_of}
use Rattle.script_commands.specs.Keywords.{of_length}

-- texts of other lengths differ
other_text : (xs ys : List ℕ) → length xs ≢ length ys → bytes_eq xs ys ≡ false
other_text xs ys other =
    (elim (bytes_eq xs ys) as (λ b. bytes_eq xs ys ≡ b → b ≡ false) [ true ↦ λ e. absurd (other (ap length ((bytes_eq-Decides xs ys).0 e))) | false ↦ λ e. refl ]) refl

same_letters : (letters : ℕ) (first : List ℕ) (words : List (List ℕ)) → length first ≡ letters → (table : List Form)
    → form_in table first words ≡ form_in (filter (λ form. length form.0 == letters) table) first words
same_letters letters first words is [] = refl
same_letters letters first words is (form ∷ rest) =
    let ih = same_letters letters first words is rest in
    elim (eqb_tells (length form.0) letters) [
      | inl same ↦ rw same.0 (ap (λ r. if bytes_eq first form.0 then form.1 words else r) ih)
      | inr other ↦ rw (other.0, other_text first form.0 (λ e. other.1 (sym e ∙ is))) ih
    ]

-- the command is one of the keywords of as many letters
pub among : (letters : ℕ) (first : List ℕ) (words : List (List ℕ)) → length first ≡ letters → command_of first words ≡ form_in (of_length letters) first words
unfolding command_of
among letters first words is = same_letters letters first words is forms

differs : (letters n : ℕ) → n ≢ letters → (letters == n) ≡ false
differs letters n other = elim (eqb_tells letters n) [ inl same ↦ absurd (other (sym same.1)) | inr told ↦ told.0 ]

-- no keyword has fewer than three letters, or more than eight
pub no_keyword : (first : List ℕ) (words : List (List ℕ)) → length first ≢ 3 → length first ≢ 4 → length first ≢ 5 → length first ≢ 6 → length first ≢ 7 → length first ≢ 8
    → None ≡ command_of first words
no_keyword first words three four five six seven eight =
    let n = length first in
    let none : of_length n ≡ [] = simp (differs 3 n three, differs 4 n four, differs 5 n five, differs 6 n six, differs 7 n seven, differs 8 n eight) refl in
    sym (among n first words refl ∙ ap (λ table. form_in table first words) none)
