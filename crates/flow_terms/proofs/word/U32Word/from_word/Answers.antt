use Rattle.std.proofs.Common.{rules}
use Rattle.flow_terms.proofs.word.U32Word.from_word.Goals as goal

-- A wrong body makes this false: so answered, it is refused at once.
pub returns : goal.returns
returns c = search rules
