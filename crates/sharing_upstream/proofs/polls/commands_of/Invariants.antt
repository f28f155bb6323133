use Rattle.std.proofs.Common.{◌≡◌, map, reverse, take}
use Rattle.sharing_upstream.specs.Strategies.{commands, look_of}
use Rattle.sharing_upstream.specs.Shown.{Shows}
use Rattle.sharing_upstream.proofs.polls.commands_of.Given as goal

abbrev pub invariant-loop-index : goal.invariant-loop-index
invariant-loop-index l = record {
  started : l.strategy.started ≡ l.fn.started;
  shows : Shows l.strategy (reverse (map look_of (take l.index l.polls)));
  commanded : take l.index l.answers ≡ commands l.fn.started (map look_of (take l.index l.polls));
}
