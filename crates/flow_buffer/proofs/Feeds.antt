-- What a feed keeps after a value was put in, or dropped.
use Rattle.std.proofs.Common.{◌≡◌, ℕ, Option, None, sym, subst}
use Rattle.atomic_table.specs.declared.badge.Badge.{Badge}
use Rattle.crossbeam_channel.specs.declared.flavors.array.Doing.{Doing}
use Rattle.crossbeam_channel.specs.declared.flavors.array.Key.{Key}
use Rattle.crossbeam_channel.specs.declared.flavors.array.Rows.{Rows}
use Rattle.crossbeam_channel.specs.Claims.{Pass, view as knows, IsSeatAt}
use Rattle.cold_flow.specs.declared.cause.Cause.{Cause}
use Rattle.cold_flow.specs.declared.event.Event.{Event}
use Rattle.flow_terms.specs.declared.policy.Policy.{Policy}
use Rattle.flow_buffer.specs.declared.side.Side.{Side}
use Rattle.flow_buffer.specs.Sides.{may_drop, saturated, drops, NothingAfter}
use Rattle.flow_buffer.specs.Channel.{feed_side}
use Rattle.flow_buffer.specs.Fitting.{IsFeed}

module _ {T E Q M L A : Type 0} (c other : Rows (Badge (Key (Event T E))) (Doing (Event T E) (Side T E)) Q M (Key (Event T E)) L A) (policy : Policy) (was is : Pass (Event T E) (Side T E)) where
  pub fed : (dropped now_dropped : ℕ) (waiting : Option (Event T E)) (sent : Option (Cause E)) → IsFeed c other policy was dropped waiting sent → sent ≡ None
      → IsSeatAt c is → knows is ≡ feed_side (may_drop policy) None (knows is).produced (knows is).level → now_dropped ≡ saturated (drops (knows is).produced)
      → IsFeed c other policy is now_dropped None sent
  fed dropped now_dropped waiting sent feed unsent seat open_still counted =
      let side : knows is ≡ feed_side (may_drop policy) sent (knows is).produced (knows is).level = subst (λ (n : Option (Cause E)). knows is ≡ feed_side (may_drop policy) n (knows is).produced (knows is).level) (sym unsent) open_still in
      let after : NothingAfter {T = T} sent None = subst (λ (n : Option (Cause E)). NothingAfter {T = T} n None) (sym unsent) tt in
      (feed.0, seat, side, counted, after)
