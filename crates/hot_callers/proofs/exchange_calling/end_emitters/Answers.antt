use Rattle.std.proofs.Common.{◌≡◌, ap, subst, ◌∙◌}
use Rattle.shared_rounds.specs.declared.round.Round.TheVariants as round
use Rattle.shared_rounds.specs.Entering.{Made}
use Rattle.shared_rounds.specs.Reach.{Party}
use Rattle.shared_flow.specs.Parties.{Emitting, taking_of}
use Rattle.hot_callers.proofs.exchange_calling.end_emitters.Goals as goal

pub returns : goal.returns
returns g c =
    let p = c.args.flow.now.party in
    let one = c.close.ensures.ended in
    let two = c.close-2.ensures.ended in
    let last = c.subscription_count.new.self.party in
    let first : c.close.new.self.party ≡ taking_of c.args.one.party p = one.4 ∙ ap (λ (e : Emitting). taking_of e.party p) (one.3 c.requires.idle.0) in
    let both : c.close-2.new.self.party ≡ taking_of c.args.two.party (taking_of c.args.one.party p) =
    two.4 ∙ ap (λ (e : Emitting). taking_of e.party c.close.new.self.party) (two.3 c.requires.idle.1) ∙ ap (taking_of c.args.two.party) first in
    record {
      count = c.subscription_count.result;
      made = subst (λ (q : Party). Made (round.Count c.subscription_count.result) q last) both c.subscription_count.ensures.made;
    }
