use Rattle.std.proofs.Common.{rules, refl, inl, sym, ◌∙◌}
use Rattle.cold_flow.specs.Laws.{told-some}
use Rattle.cold_flow.proofs.operators.map.MappedRun.poll_next.Goals as goal

pub returns-in-Some-clause-narrows : goal.returns-in-Some-clause-narrows
returns-in-Some-clause-narrows g c = rw (← c.end.ensures, c.in-Some.is) (inl refl)

pub returns-in-Some-clause-ends : goal.returns-in-Some-clause-ends
returns-in-Some-clause-ends g c = sym c.end.ensures ∙ c.in-Some.is

pub returns-in-Some-clause-stops : goal.returns-in-Some-clause-stops
returns-in-Some-clause-stops g c h = g.met.S.Run.halts c.args.self.now.source (told-some _ _ _ c.end.ensures c.in-Some.is)

pub returns-in-Some-clause-stays : goal.returns-in-Some-clause-stays
returns-in-Some-clause-stays g c k e = let told = c.end.ensures in let is = c.in-Some.is in cc

-- A wrong body makes these false: so answered, it is refused at once.
pub returns-in-Pending-clause-ends : goal.returns-in-Pending-clause-ends
returns-in-Pending-clause-ends g c = search rules

pub returns-in-Pending-clause-stays : goal.returns-in-Pending-clause-stays
returns-in-Pending-clause-stays g c = search rules

pub returns-in-Pending-clause-approaches : goal.returns-in-Pending-clause-approaches
returns-in-Pending-clause-approaches g c = search rules

pub returns-in-Pending-clause-prompt : goal.returns-in-Pending-clause-prompt
returns-in-Pending-clause-prompt g c = search rules
