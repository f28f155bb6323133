use Rattle.std.proofs.Common.{rules, ◌≡◌, Some}
use Rattle.slab.specs.Slab.{get}
use Rattle.shared_rounds.proofs.Rises.{sleeps_still}
use Rattle.shared_rounds.proofs.wait_list.WaitList.register.Goals as goal

pub returns-clause-sleeps : goal.returns-clause-sleeps
returns-clause-sleeps c =
    let read : get c.args.self.now.sleeping c.in-Some.key ≡ Some c.in-Some-get_mut.sleeper.now = search rules in
    sleeps_still c.args.self.now.sleeping _ _ _ _ _ c.requires c.in-Some.is read
