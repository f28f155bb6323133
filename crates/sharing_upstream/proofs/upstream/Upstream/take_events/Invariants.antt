use Rattle.std.proofs.Common.{◌≡◌, List, length}
use Rattle.futures.specs.Task.{Keeps}
use Rattle.sharing_upstream.specs.Courses.{GoesOn}
use Rattle.sharing_upstream.specs.Destinations.{AcceptsEach}
use Rattle.sharing_upstream.proofs.upstream.Upstream.take_events.Given as goal

abbrev pub invariant-loop-event : goal.invariant-loop-event
invariant-loop-event g l = let to = g.D.Destination in record {
  free : to.free (to.seen l.destination);
  goes : (values : List _) × (length values ≡ l._event) × GoesOn (λ live. g.F.Running.Run.may live.run) (λ live. g.F.Running.Run.ended live.run) l.initial.self.course values l.self.course
      × AcceptsEach (to.steps (to.kept l.initial.destination)) (to.seen l.initial.destination) values (to.seen l.destination);
  flow : l.self.flow ≡ l.initial.self.flow;
  kept : to.kept l.destination ≡ to.kept l.initial.destination;
  wakes : Keeps l.initial.cx l.cx;
}
