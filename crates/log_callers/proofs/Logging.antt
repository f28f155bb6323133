-- A log after no event, and after more of them.
use Rattle.std.proofs.Common.{ℕ, List, [], ◌++◌}
use Rattle.shared_flow.specs.Parties.{Subscribed, received}
use Rattle.shared_flow.proofs.Growing.{appends_nothing, appends_more}
use Rattle.log_callers.specs.Logs.{Logs}

pub logs_nothing : (log : List ℕ) (s : Subscribed ℕ) → Logs log s log s
logs_nothing log s = ([], appends_nothing log, appends_nothing (received (λ word. word) s))

pub logs_more : (a b c : List ℕ) (s t u : Subscribed ℕ) → Logs a s b t → Logs b t c u → Logs a s c u
logs_more a b c s t u (xs, e, f) (ys, g, h) =
    (xs ++ ys, appends_more a b c xs ys e g, appends_more (received (λ word. word) s) (received (λ word. word) t) (received (λ word. word) u) xs ys f h)
