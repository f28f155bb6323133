use Rattle.shared_core.proofs.Bounded.{at_most_its_places_pending, none_waits_beside_room}
use Rattle.shared_core.proofs.Caching.{caches_the_latest}
use Rattle.shared_core.proofs.Closing.{nothing_without_opening}
use Rattle.shared_core.proofs.Emissions.{each_emitter_in_its_own_order, numbers_count_what_was_accepted}
use Rattle.shared_core.proofs.Receiving.{each_live_was_opened, each_receives_prelude_cache_then_later, live_until_cancelled, nothing_after_cancellation}
use Rattle.shared_core.proofs.headline.each_subscription_receives_prelude_cache_then_later.Goals as goal

pub returns : goal.returns
returns g c = record {
  each_receives_prelude_cache_then_later = each_receives_prelude_cache_then_later _;
  each_emitter_in_its_own_order = each_emitter_in_its_own_order _;
  numbers_count_what_was_accepted = numbers_count_what_was_accepted _;
  each_live_was_opened = each_live_was_opened _;
  live_until_cancelled = live_until_cancelled _;
  nothing_after_cancellation = nothing_after_cancellation _;
  nothing_without_opening = nothing_without_opening _;
  at_most_its_places_pending = at_most_its_places_pending _;
  none_waits_beside_room = none_waits_beside_room _;
  caches_the_latest = caches_the_latest _;
}
