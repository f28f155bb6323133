use Rattle.std.proofs.Common.{rules, sym, arith}
use Rattle.shared_core.specs.Flow.{cache}
use Rattle.script_engines.proofs.Caching.{take_more, one_longer}
use Rattle.script_engines.proofs.one_thread.cached.Goals as goal

pub push_reserved-requires : goal.push_reserved-requires
push_reserved-requires c = omega (arith, c.loop-index.values.ok.0, c.loop-index.invariant.filled, c.loop-index-test.true, c.loop-index.invariant.room)

pub loop-index-preserved : goal.loop-index-preserved
loop-index-preserved c = record {
  front = λ M shown. rw (c.push_reserved.ensures.items, c.loop-index.invariant.front M shown) (sym (take_more (cache M) c.loop-index.index c.replay_at.result (sym (c.replay_at.ensures.shows M shown))));
  filled = rw c.push_reserved.ensures.items (one_longer c.loop-index.values.items c.replay_at.result c.loop-index.index c.loop-index.invariant.filled);
  room = rw c.push_reserved.ensures.capacity c.loop-index.invariant.room;
}

-- A wrong body makes this false: so answered, it is refused at once.
pub loop-index-init : goal.loop-index-init
loop-index-init c = search rules
