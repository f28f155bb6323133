use Rattle.std.proofs.Common.{subst}
use Rattle.value_states.specs.Watching.{ComesTo}
use Rattle.value_states.proofs.watcher.Watcher.collected.Goals as goal

pub give_clone-requires : goal.give_clone-requires
give_clone-requires g c =
    let came = subst (λ a. ComesTo c.requires.0 a c.args.self.now) c.in-News.is c.requires.1 in (came.0, came.2)

pub returns-in-Stopped : goal.returns-in-Stopped
returns-in-Stopped g c = λ before came. subst (λ a. ComesTo before a c.args.self.now) c.in-Stopped.is came
