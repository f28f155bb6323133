use Rattle.flow_terms.specs.declared.answers.Next.TheVariants.{Closed}
use Rattle.script_engines.specs.Subscribing.{LooksIn}
use Rattle.script_engines.proofs.Found.{at_place, at_none}
use Rattle.script_engines.proofs.subscriptions.SubscriptionsShared.next.Goals as goal

pub returns-in_default : goal.returns-in_default
returns-in_default g c = rw (← c.place_of.ensures) (at_none LooksIn Closed c.args.self.now.places.items c.place_of.result _ _ _ c.args.self.now.places.ok.0 c.in_default.ensures.variant.1)

pub returns : goal.returns
returns g c = rw (← c.place_of.ensures) (at_place LooksIn Closed c.looked.result c.args.self.now.places.items c.place_of.result _ c.in-Some.place.now c.looked.new.place _ _ c.args.self.now.places.ok.0 c.in-Some.ensures.variant.0 c.in-Some.ensures.value c.looked.ensures)
