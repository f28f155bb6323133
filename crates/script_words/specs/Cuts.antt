-- Where a line may be cut without cutting a word.
use Rattle.std.specs.Prelude.{◌≡◌, ℕ, false, List, ◌++◌}
use Rattle.script_words.specs.Lines.{starts_with_word}

-- what is left begins with no word, so that the words of both parts are the words of the whole
pub record LeavesEnd (old new : List ℕ) : Type 0 where
  pub front : List ℕ
  pub splits : old ≡ front ++ new
  pub between : starts_with_word new ≡ false
