use Rattle.std.proofs.Common.{subst}
use Rattle.std.specs.Prelude.{IfSome, IfNone}
use Rattle.value_states.specs.Watching.{Misses, Takes}
use Rattle.value_states.proofs.watcher.Watcher.news.Goals as goal

pub returns-clause-taken : goal.returns-clause-taken
returns-clause-taken g c = subst (λ o. IfSome c.find.result (λ guarded. Takes o guarded.state c.find.new.lock)) c.self.view_is c.find.ensures.taken

pub returns-clause-missed : goal.returns-clause-missed
returns-clause-missed g c = subst (λ o. IfNone c.find.result (Misses o c.find.new.lock)) c.self.view_is c.find.ensures.missed
