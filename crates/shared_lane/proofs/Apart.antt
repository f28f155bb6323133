-- The words of a lane keep apart. What the proofs know of the places of words is here alone.
use Rattle.std.proofs.Common.{◌≡◌, ◌≢◌, ℕ, ◌+◌, ◌%◌, ◌<◌, List, replicate, get_or, set, sym, ap, ◌∙◌, arith, mod-lt, get_or-set_other}
use Rattle.std.proofs.Math.Nat.{suc-mod, mod-eq_of_lt, mod_self}
use Rattle.std.proofs.Math.Numerals.{suc-eq-add-one}
use Rattle.std.proofs.lemmas.List.{get_or-replicate}
use Rattle.shared_lane.specs.declared.view.Shape.{Shape}
use Rattle.shared_lane.specs.Layout.{tail_word, cursor_word, cell_index, cell_word, width}

pub cursor_is_no_tail : (p : ℕ) → tail_word ≢ cursor_word p
unfolding cursor_word
cursor_is_no_tail p e = omega arith

pub cursors_differ : (p q : ℕ) → cursor_word p ≡ cursor_word q → p ≡ q
unfolding cursor_word
cursors_differ p q e = omega arith

next_rest : (n m : ℕ) → (n + 1) % m ≡ (n % m + 1) % m
next_rest n m = ap (λ (z : ℕ). z % m) (sym (suc-eq-add-one n)) ∙ (suc-mod n m ∙ ap (λ (z : ℕ). z % m) (suc-eq-add-one (n % m)))

module _ (key : Shape) where
  pub cell_is_no_tail : (n : ℕ) → tail_word ≢ cell_word key n
  unfolding cell_word
  cell_is_no_tail n e = omega arith

  pub cell_is_no_cursor : (p n : ℕ) → p < key.places → cell_word key n ≢ cursor_word p
  unfolding cell_word cursor_word
  cell_is_no_cursor p n inside e = omega arith

  pub cells_differ : (m n : ℕ) → cell_word key m ≡ cell_word key n → m % key.cells ≡ n % key.cells
  unfolding cell_word cell_index
  cells_differ m n e = omega arith

  pub tail_within : tail_word < width key
  unfolding width
  tail_within = omega arith

  pub cursor_within : (p : ℕ) → p < key.places → 0 < key.cells → cursor_word p < width key
  unfolding cursor_word width
  cursor_within p inside cells = omega arith

  pub index_within : (n : ℕ) → 0 < key.cells → cell_index key n < key.cells
  unfolding cell_index
  index_within n cells = mod-lt n cells

  -- the next number's index is one more, but after the last cell it is the first
  pub index_counts : (n : ℕ) → cell_index key n + 1 < key.cells → cell_index key (n + 1) ≡ cell_index key n + 1
  unfolding cell_index
  index_counts n inside = next_rest n key.cells ∙ mod-eq_of_lt inside

  pub index_turns : (n : ℕ) → key.cells ≡ cell_index key n + 1 → cell_index key (n + 1) ≡ 0
  unfolding cell_index
  index_turns n last = next_rest n key.cells ∙ (ap (λ (z : ℕ). z % key.cells) (sym last) ∙ mod_self key.cells)

  pub cell_within : (n : ℕ) → 0 < key.cells → cell_word key n < width key
  unfolding cell_word width
  cell_within n cells = let h = index_within n cells in omega arith

  -- an index that is a cursor's, or a cell's, lies in the table
  pub cursor_inside : (words i p : ℕ) → words ≡ width key → i ≡ cursor_word p → p < key.places → 0 < key.cells → i < words
  cursor_inside words i p wide is inside cells = let h = cursor_within p inside cells in omega arith

  pub index_inside : (cell n : ℕ) → cell ≡ cell_index key n → 0 < key.cells → cell < key.cells
  index_inside cell n is cells = let h = index_within n cells in omega arith

  pub cell_inside : (words i n : ℕ) → words ≡ width key → i ≡ cell_word key n → 0 < key.cells → i < words
  cell_inside words i n wide is cells = let h = cell_within n cells in omega arith

  -- the cursors of words that were all alike before the tail was set
  pub cursors_alike : (ws : List ℕ) (x first : ℕ) → ws ≡ replicate (width key) x → 0 < key.cells → (p : ℕ) → p < key.places → get_or (set ws tail_word first) (cursor_word p) 0 ≡ x
  cursors_alike ws x first alike cells p inside = get_or-set_other ws tail_word (cursor_word p) first 0 (λ e. cursor_is_no_tail p (sym e))
      ∙ (ap (λ l. get_or l (cursor_word p) 0) alike ∙ get_or-replicate (width key) (cursor_word p) x 0 (cursor_within p inside cells))
