use Rattle.flow_buffer.proofs.Pumps.{unsent_by, never_pending, may_pump}
use Rattle.flow_buffer.proofs.feed.Feed.try_pump.Goals as goal

pub returns-in-Ready-Value-clause-pumps : goal.returns-in-Ready-Value-clause-pumps
returns-in-Ready-Value-clause-pumps g c =
    let brings = rw c.in-Ready-Value.field-0-is at c.in-Ready-Value.ensures.brings in
    let fill = rw c.bring.ensures.same at c.try_fill.ensures.fill in
    let level = rw c.bring.ensures.same at c.try_fill.ensures.level in
    let same = rw c.bring.ensures.same at c.try_fill.ensures.same in
    may_pump g.U.Run.may c.args.self.now.upstream c.bring.new.self.upstream c.args.self.now.inlet c.try_fill.new.self c.in-Ready-Value.value c.try_fill.result
    (unsent_by _ _ c.has_ended.ensures c.if-has_ended.false) brings fill level same

pub returns-in-Ready-Value-clause-waits : goal.returns-in-Ready-Value-clause-waits
returns-in-Ready-Value-clause-waits g c is = never_pending _ _ _ _ _ _ _ _ c.try_fill.ensures.fill is

pub returns-in-Ready-Value-clause-armed : goal.returns-in-Ready-Value-clause-armed
returns-in-Ready-Value-clause-armed g c is = never_pending _ _ _ _ _ _ _ _ c.try_fill.ensures.fill is
