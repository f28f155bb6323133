use Rattle.std.proofs.Common.{ℕ, List, sym, ap, subst, ◌∙◌}
use Rattle.round_lock.specs.History.{own_of}
use Rattle.shared_rounds.specs.Reach.{Party}
use Rattle.hot_callers.specs.Exchanges.{TakesInTurn}
use Rattle.hot_callers.proofs.Exchanging.{tries_heard}
use Rattle.hot_callers.proofs.exchange_calling.receive_between.Goals as goal

pub returns-clause-two : goal.returns-clause-two
returns-clause-two g c =
    let met = c.meet_both.ensures in
    tries_heard c.args.second.now met.meets.made.before c.args.two.now c.in_three_threads-taken.new.two c.meet_both.new.emitter c.in_three_threads-taken.ensures.two met.emitter met.only

pub returns-clause-receives : goal.returns-clause-receives
returns-clause-receives g c =
    let began = c.in_ok-subscription.subscription in
    let took = c.in_three_threads-taken.new.subscription in
    let received = c.in_three_threads-taken.new.received.items in
    let met = c.meet_both.ensures in
    let heard = met.emitter in
    let ended = c.cancel.ensures.ended in
    record {
      began = began;
      took = took;
      met = c.meet_both.new.subscription;
      then = c.subscribe_with.new.self.party;
      last = c.meet_both.new.flow.party;
      counts = met.counts;
      is_newcomer = c.in_ok-subscription.ensures.flow;
      admission = c.in_ok-subscription.ensures.begins;
      prelude_is = c.in_ok-subscription.ensures.prelude;
      takes = subst (λ (l : List ℕ). TakesInTurn l began received took) c.new-received.ensures.items c.in_three_threads-taken.ensures.turns;
      meets = met.meets;
      heard = ap (λ (p : Party). p.rounds) heard.same ∙ heard.part ∙ ap (λ (p : Party). own_of p.pass met.meets.made.before) (sym heard.same);
      takes_in = record { counts = c.cancel.result; left = ended.0; ended = ended.1; after = ended.2 };
    }
