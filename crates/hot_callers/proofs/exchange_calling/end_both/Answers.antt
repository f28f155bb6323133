use Rattle.std.proofs.Common.{◌≡◌, ap, subst, ◌∙◌}
use Rattle.shared_rounds.specs.declared.round.Round.TheVariants as round
use Rattle.shared_rounds.specs.Entering.{Made}
use Rattle.shared_rounds.specs.Reach.{Party}
use Rattle.shared_flow.specs.Parties.{Emitting, taking_of}
use Rattle.hot_callers.proofs.exchange_calling.end_both.Goals as goal

pub returns : goal.returns
returns g c =
    let cancelled = c.cancel.ensures.ended in
    let closed = c.close.ensures.ended in
    let then = c.cancel.new.self.party in
    let last = c.subscription_count.new.self.party in
    let is : c.close.new.self.party ≡ taking_of c.args.emitter.party then = closed.4 ∙ ap (λ (e : Emitting). taking_of e.party then) (closed.3 c.requires.idle) in
    record {
      then = then;
      takes_in = record { counts = c.cancel.result; left = cancelled.0; ended = cancelled.1; after = cancelled.2 };
      count = c.subscription_count.result;
      made = subst (λ (p : Party). Made (round.Count c.subscription_count.result) p last) is c.subscription_count.ensures.made;
    }
