use Rattle.script_commands.specs.Sources.{origin_in, given}
use Rattle.script_commands.proofs.Gathering.{given_ends}
use Rattle.script_commands.proofs.source.Source.run.Goals as goal

pub of-requires : goal.of-requires
of-requires c = (given (origin_in c.args.self), rw c.in-Range.is c.range.ensures.exact, given_ends (origin_in c.args.self))

pub returns-in-Range : goal.returns-in-Range
returns-in-Range c = c.of.ensures (given (origin_in c.args.self)) (rw c.in-Range.is c.range.ensures.exact)

pub of-requires-in-Of : goal.of-requires-in-Of
of-requires-in-Of c = (given (origin_in c.args.self), rw c.new.ensures (λ t came. came), given_ends (origin_in c.args.self))

pub returns-in-Of : goal.returns-in-Of
returns-in-Of c = c.of-in-Of.ensures (given (origin_in c.args.self)) (rw c.new.ensures (λ t came. came))
