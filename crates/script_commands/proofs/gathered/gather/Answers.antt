use Rattle.std.proofs.Common.{◌≡◌, ◌++◌, ◌∷◌, [], length-append, inr, arith}
use Rattle.cold_flow.specs.Laws.{ended-begins}
use Rattle.cold_flow.specs.Trace.{so_far}
use Rattle.cold_flow.specs.GatherLaws.{gathers_none, gathers_so_far}
use Rattle.script_commands.proofs.Gathering.{too_many, not_cancelled, not_refused, all_there}
use Rattle.script_commands.proofs.gathered.gather.Goals as goal

pub rooms-init : goal.rooms-init
rooms-init g c = record {
  within = rw c.requires.empty (gathers_none _);
  few = rw c.requires.empty (omega arith);
  room = omega (arith, c.min-room.ensures, c.capacity.ensures);
  limit = omega (arith, c.min-room.ensures);
}

pub rooms-preserved : goal.rooms-preserved
rooms-preserved g c =
    let fills = rw c.in-Value.is at c.fill.ensures.fills in
    let more : c.push.new.self.items ≡ c.fill.new.values.items ++ c.in-Value.value ∷ [] = rw (c.push.ensures.items, c.is_err.ensures.negation, c.if-is_err.false) in
    record {
      within = λ t h. c.rooms.invariant.within t (fills t (rw (← more) h));
      few = rw more (omega (arith, length-append c.fill.new.values.items (c.in-Value.value ∷ []), c.if-len-ge-MOST_VALUES.false, c.len.ensures));
      room = omega (arith, c.min-room-in-Value.ensures, c.capacity-in-Value.ensures);
      limit = omega (arith, c.min-room-in-Value.ensures);
    }

-- one value more than the limit has come
pub returns-then-len-ge-MOST_VALUES : goal.returns-then-len-ge-MOST_VALUES
returns-then-len-ge-MOST_VALUES g c = λ whole fixed.
    let values = c.fill.new.values.items in
    let value = c.in-Value.value in
    let more = values ++ value ∷ [] in
    let came = c.in-Value.ensures.fills (so_far more) (gathers_so_far more (g.R.Run.may c.fill.new.run) (g.met.R.Run.begins c.fill.new.run)) in
    inr (too_many values value whole (fixed (so_far more) (c.rooms.invariant.within _ came)) (omega (arith, c.if-len-ge-MOST_VALUES.true, c.len.ensures)))

pub fault_of-requires : goal.fault_of-requires
fault_of-requires g c =
    let whole = c.requires.certain.0 in
    let same = ended-begins _ _ whole (c.requires.certain.1 _ (c.rooms.invariant.within _ c.in-End.ensures.fills)) in
    not_cancelled c.fill.new.values.items c.in-End.cause whole same c.requires.certain.2

-- no end that is certain is a refusal
pub returns-in_err-fault-in-End : goal.returns-in_err-fault-in-End
returns-in_err-fault-in-End g c =
    let whole = c.requires.certain.0 in
    let same = ended-begins _ _ whole (c.requires.certain.1 _ (c.rooms.invariant.within _ c.in-End.ensures.fills)) in
    absurd (not_refused c.fill.new.values.items c.in-End.cause whole _ same c.requires.certain.2 c.in_err-fault-in-End.ensures)

pub returns-in-End : goal.returns-in-End
returns-in-End g c = λ whole fixed.
    let same = ended-begins _ _ whole (fixed _ (c.rooms.invariant.within _ c.in-End.ensures.fills)) in
    all_there c.fill.new.values.items c.in-End.cause c.in_ok-fault-in-End.fault whole same c.in_ok-fault-in-End.ensures (c.fill.ensures.few c.rooms.invariant.few)
