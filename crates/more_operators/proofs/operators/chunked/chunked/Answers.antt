use Rattle.std.proofs.Common.{arith}
use Rattle.more_operators.specs.ChunkedLaws.{chunked_makes, chunked_exactly, gathers_from}
use Rattle.more_operators.specs.RelayedLaws.{both-true}
use Rattle.more_operators.proofs.operators.chunked.chunked.Goals as goal

pub returns-clause-gives : goal.returns-clause-gives
returns-clause-gives g c = chunked_makes c.args.size (omega (arith, c.if-size-eq0.false)) _ _ c.new.ensures.gives

pub returns-clause-exact : goal.returns-clause-exact
returns-clause-exact g c = chunked_exactly c.args.size (omega (arith, c.if-size-eq0.false)) _ _ c.new.ensures.exact

pub returns-clause-prompt : goal.returns-clause-prompt
returns-clause-prompt g c on =
    c.new.ensures.prompt (both-true _ _ (gathers_from c.args.size (omega (arith, c.if-size-eq0.false)) (omega (arith, c.if-size-gt-LONGEST.false))) on)
