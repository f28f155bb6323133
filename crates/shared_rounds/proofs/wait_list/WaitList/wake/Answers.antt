use Rattle.std.proofs.Common.{rules, ◌≡◌, ◌≢◌, refl}
use Rattle.shared_rounds.proofs.Rises.{only_these}
use Rattle.shared_rounds.proofs.wait_list.WaitList.wake.Goals as goal

-- each call of the closure has the same number
pub returns-clause-others : goal.returns-clause-others
returns-clause-others c =
    only_these _ (λ f. f.0.now ≡ c.args.number) (λ n. n ≢ c.args.number)
    (λ f key old keep new next stays called. (search rules, search rules, search rules, search rules))
    _ c.args.self.now.sleeping c.retain.new.self refl c.retain.ensures.retained
