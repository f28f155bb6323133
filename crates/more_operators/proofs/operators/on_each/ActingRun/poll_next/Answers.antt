use Rattle.std.proofs.Common.{refl, inl, sym, ◌∙◌}
use Rattle.cold_flow.specs.Laws.{told-some}
use Rattle.more_operators.proofs.operators.on_each.ActingRun.poll_next.Goals as goal

pub returns-in-Some-clause-narrows : goal.returns-in-Some-clause-narrows
returns-in-Some-clause-narrows g c = rw (← c.end.ensures, c.in-Some.is) (inl refl)

pub returns-in-Some-clause-ends : goal.returns-in-Some-clause-ends
returns-in-Some-clause-ends g c = sym c.end.ensures ∙ c.in-Some.is

pub returns-in-Some-clause-stops : goal.returns-in-Some-clause-stops
returns-in-Some-clause-stops g c h = g.met.S.Run.halts c.args.self.now.source (told-some _ _ _ c.end.ensures c.in-Some.is)

pub returns-in-Some-clause-stays : goal.returns-in-Some-clause-stays
returns-in-Some-clause-stays g c k e = let told = c.end.ensures in let is = c.in-Some.is in cc
