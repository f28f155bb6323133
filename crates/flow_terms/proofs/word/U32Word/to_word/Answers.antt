use Rattle.std.proofs.Common.{rules}
use Rattle.flow_terms.proofs.word.U32Word.to_word.Goals as goal

-- A wrong body makes this false: so answered, it is refused at once.
pub returns-clause-word : goal.returns-clause-word
returns-clause-word c = search rules
