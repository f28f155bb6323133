use Rattle.std.proofs.Common.{◌≡◌, Some, vec_len}
use Rattle.std.specs.Prelude.{slice_get}
use Rattle.flow_merge.specs.StandingLaws.{stand_answered}
use Rattle.std.proofs.lemmas.Option.{slice_get_read}
use Rattle.flow_merge.proofs.flows.standing.ask_at.Goals as goal

pub returns-clause-answered : goal.returns-clause-answered
returns-clause-answered g c =
    let there : slice_get c.args.runs.now.items c.args.index ≡ Some c.index_mut-run.result.now = slice_get_read c.args.runs.now.items (vec_len c.args.runs.now) c.args.index _ c.args.runs.now.ok.0 c.requires c.index_mut-run.ensures.value in
    stand_answered g.R.Run.may _ _ _ _ _ there c.poll_next.ensures.narrows
