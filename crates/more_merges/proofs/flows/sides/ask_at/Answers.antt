use Rattle.std.proofs.Common.{◌≡◌, Some, vec_len, refl}
use Rattle.std.specs.Prelude.{slice_get}
use Rattle.std.proofs.lemmas.Option.{slice_get_read}
use Rattle.flow_merge.specs.Concat.{MayStand}
use Rattle.more_merges.specs.StandingLaws.{standing_begins}
use Rattle.more_merges.specs.JoinsLaws.{join_asks, all_approach, all_prompt}
use Rattle.more_merges.proofs.flows.sides.ask_at.Goals as goal

pub returns-clause-asked : goal.returns-clause-asked
returns-clause-asked g c =
    let there : slice_get c.args.sides.now.items c.args.place ≡ Some c.index_mut-side.result.now = slice_get_read c.args.sides.now.items (vec_len c.args.sides.now) c.args.place _ c.args.sides.now.ok.0 c.requires c.index_mut-side.ensures.value in
    join_asks (MayStand g.R.Run.may) (standing_begins g.R.Run.may g.met.R.Run.begins) _ _ _ _ _ there c.ask_standing.ensures.fails c.ask_standing.ensures.asked

pub returns-clause-approaches : goal.returns-clause-approaches
returns-clause-approaches g c =
    let there : slice_get c.args.sides.now.items c.args.place ≡ Some c.index_mut-side.result.now = slice_get_read c.args.sides.now.items (vec_len c.args.sides.now) c.args.place _ c.args.sides.now.ok.0 c.requires c.index_mut-side.ensures.value in
    all_approach g.R.Run.polls c.args.sides.now.items c.args.place _ _ _ there c.ask_standing.ensures.approaches

pub returns-clause-prompt : goal.returns-clause-prompt
returns-clause-prompt g c =
    let there : slice_get c.args.sides.now.items c.args.place ≡ Some c.index_mut-side.result.now = slice_get_read c.args.sides.now.items (vec_len c.args.sides.now) c.args.place _ c.args.sides.now.ok.0 c.requires c.index_mut-side.ensures.value in
    all_prompt g.R.Run.prompt c.args.sides.now.items c.args.place _ _ _ there c.ask_standing.ensures.prompt

pub returns-clause-stands : goal.returns-clause-stands
returns-clause-stands g c = (c.ask_standing.new.standing, refl, c.ask_standing.ensures.waits, c.ask_standing.ensures.nothing)
