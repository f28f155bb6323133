use Rattle.std.proofs.Common.{sym, subst, arith}
use Rattle.flow_terms.specs.Lists.{IsPrefix}
use Rattle.state_flow.proofs.Lists.{picks_on}
use Rattle.state_flow.proofs.Sums.{collectors_in-le-shares_in}
use Rattle.state_flow.proofs.Shares.{made_all}
use Rattle.state_flow.proofs.laws.one_history.Goals as goal

pub returns : goal.returns
returns g c = record {
  history = λ key s r. record {
    history_at = r.history_at;
    begins = r.at_making;
    turns = r.turns;
    grows = r.grows;
    is_history = r.is_history r.turns (let is = r.turns_is in omega arith) (omega arith);
    seen = λ i v at. let mine = r.each i v at in (mine.turn_by, mine.seen_is);
    collected = λ i v at. let mine = r.each i v at in
        picks_on v.collected v.seen (r.history_at r.turns) (subst (λ front. IsPrefix front (r.history_at r.turns)) (sym mine.seen_is) (r.grows v.turn r.turns mine.turn_by (omega arith))) mine.picks;
    collectors = r.collecting;
    at_most = let few = collectors_in-le-shares_in s.views (λ i v e. (r.each i v e).within) in let whole = r.whole in omega arith;
    all_steps = λ held all. made_all g.T.Word.word g.T.Word.fits key s.words s.views r held all;
  };
  two_seats = λ key s r i j v w at at' le. let a = r.each i v at in let b = r.each j w at' in
      subst (λ seen. IsPrefix v.seen seen) (sym b.seen_is) (subst (λ front. IsPrefix front (r.history_at w.turn)) (sym a.seen_is) (r.grows v.turn w.turn le b.turn_by));
}
