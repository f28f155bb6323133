use Rattle.shared_core.proofs.Telling.{story_law}
use Rattle.shared_core.proofs.Happening.{event_law, event_growth_law, event_cache_law}
use Rattle.shared_core.proofs.Growing.{growth_law, cache_law}
use Rattle.shared_core.proofs.Sequence.{order_law}
use Rattle.shared_core.proofs.Given.{received_law}
use Rattle.shared_core.proofs.laws.each_subscription_has_its_story.Goals as goal

pub returns : goal.returns
returns g c = record { story = story_law _; events = event_law _; events_grow = event_growth_law _; events_cache = event_cache_law _; grows = growth_law _; cache = cache_law _; received = received_law _; order = order_law _ }
