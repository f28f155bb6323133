use Rattle.script_commands.proofs.gathered.Gathered.of.Goals as goal

pub gather-requires-clause-certain : goal.gather-requires-clause-certain
gather-requires-clause-certain g c = (c.requires.0, λ t h. c.requires.1 t (c.in_ok-run.ensures.gives t h), c.requires.2)

pub returns : goal.returns
returns g c = λ whole fixed. c.gather.ensures whole (λ t h. fixed t (c.in_ok-run.ensures.gives t h))
