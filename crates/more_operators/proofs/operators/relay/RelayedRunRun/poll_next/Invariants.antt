use Rattle.std.proofs.Common.{◌≡◌, ◌+◌, ◌<◌, ◌&&◌, IsTrue}
use Rattle.futures.specs.Task.{Keeps}
use Rattle.flow_terms.specs.declared.few.Few.TheVariants.{Zero}
use Rattle.cold_flow.specs.declared.operators.closing.Closing.TheVariants.{Open}
use Rattle.cold_flow.specs.Poll.{Through, Within}
use Rattle.cold_flow.specs.Polled.{IsNearer}
use Rattle.more_operators.specs.Relayed.{relayed_trace}
use Rattle.more_operators.proofs.operators.relay.RelayedRunRun.poll_next.Given as goal

abbrev pub invariant-loop-asked : goal.invariant-loop-asked
invariant-loop-asked g l = record {
  was : l.fn.self.holding.closing ≡ Open;
  empty : l.fn.self.holding.held ≡ Zero;
  going : l.self.holding.closing ≡ Open;
  holds : l.self.holding.held ≡ Zero;
  narrows : Within (Through (relayed_trace g.M.Relay.takes g.M.Relay.after g.M.Relay.closes l.fn.self.relay) (g.S.Run.may l.fn.self.source))
      (Through (relayed_trace g.M.Relay.takes g.M.Relay.after g.M.Relay.closes l.self.relay) (g.S.Run.may l.self.source));
  nearer : IsNearer l._asked (g.S.Run.polls l.fn.self.source) (g.S.Run.polls l.self.source);
  prompt : IsTrue (g.M.Relay.steady l.fn.self.relay && g.S.Run.prompt l.fn.self.source)
      → (0 < l._asked → l._asked + g.M.Relay.silent l.self.relay < 64) × IsTrue (g.M.Relay.steady l.self.relay && g.S.Run.prompt l.self.source);
  kept : Keeps l.fn.cx l.cx;
}
