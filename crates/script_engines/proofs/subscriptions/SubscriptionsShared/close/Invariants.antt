use Rattle.std.proofs.Common.{vec_len}
use Rattle.script_engines.proofs.subscriptions.SubscriptionsShared.close.Given as goal

abbrev pub decreases-loop-place : goal.decreases-loop-place
decreases-loop-place g l = vec_len l.places
