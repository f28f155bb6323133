use Rattle.std.proofs.Common.{◌<◌, ◌≤◌, take, length, arith}
use Rattle.std.proofs.lemmas.List.{take_more, take_all}
use Rattle.more_merges.specs.StandingLaws.{within_end}
use Rattle.more_merges.specs.JoinsLaws.{zip-push}
use Rattle.more_merges.proofs.flows.sides.start_sides.Goals as goal

pub starts-init : goal.starts-init
starts-init g c = record {
  many = c.in_ok-sides.ensures.len;
  room = omega (arith, c.in_ok-sides.ensures.capacity);
  began = rw c.in_ok-sides.ensures.items tt;
}

pub starts-preserved : goal.starts-preserved
starts-preserved g c =
    let flows = c.args.flows.now in
    let inside : c.starts.flow-index < length c.args.flows.now = omega arith in
    record {
      many = omega (arith, c.push_reserved.ensures.len, c.starts.invariant.many);
      room = omega (arith, c.push_reserved.ensures.capacity, c.starts.invariant.room);
      began =
          rw (c.push_reserved.ensures.items, take_more flows c.starts.flow-index c.flow-item.result inside, ← c.flow-item.is)
          (zip-push g.F.Flow.may g.F.Flow.polls g.F.Flow.prompt g.F.Running.Run.may g.F.Running.Run.polls g.F.Running.Run.prompt
          (take c.starts.flow-index flows) c.starts.sides.items c.flow-item.result _ c.starts.invariant.began
          (record { gives = c.in-Ok.ensures.gives; lasts = within_end _ _ c.in-Ok.ensures.lasts; answers = c.in-Ok.ensures.prompt }));
    }

pub returns-clause-began : goal.returns-clause-began
returns-clause-began g c =
    let over : length c.args.flows.now ≤ c.starts.flow-index = omega arith in
    rw (take_all c.starts.flow-index c.args.flows.now over) at c.starts.invariant.began
