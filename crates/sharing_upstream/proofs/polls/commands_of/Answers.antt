use Rattle.std.proofs.Common.{◌≡◌, ◌∷◌, ◌<◌, map, reverse, take, length, arith, get_or, refl, ap, ◌∙◌}
use Rattle.flow_terms.specs.declared.started.Started.{Started}
use Rattle.std.proofs.lemmas.List.{map_more, take_more_set}
use Rattle.sharing_upstream.specs.Strategies.{command, look_of}
use Rattle.sharing_upstream.specs.Shown.{Shows}
use Rattle.sharing_upstream.proofs.Commands.{commands-more, reverse-more}
use Rattle.sharing_upstream.proofs.polls.commands_of.Goals as goal

pub loop-index-preserved : goal.loop-index-preserved
loop-index-preserved c =
    let polls = c.args.polls.now in
    let within : c.loop-index.index < length polls = c.loop-index-test.true in
    let also_within : c.loop-index.index < length c.loop-index.answers = omega arith in
    let looks = map look_of (take c.loop-index.index polls) in
    let look = look_of (get_or polls c.loop-index.index (0, 0)) in
    let shown : Shows c.step.new.self (look ∷ reverse looks) = c.step.ensures.shows (reverse looks) c.loop-index.invariant.shows in
    let commanded : c.step.result ≡ command c.args.started (look ∷ reverse looks) =
    c.step.ensures.commands (reverse looks) c.loop-index.invariant.shows ∙ ap (λ (started : Started). command started (look ∷ reverse looks)) c.loop-index.invariant.started in
    let more = map_more look_of polls c.loop-index.index (0, 0) within in
    record {
      started = c.step.ensures.started ∙ c.loop-index.invariant.started;
      shows = rw (more, reverse-more looks look) shown;
      commanded = rw (take_more_set c.loop-index.answers c.loop-index.index c.step.result also_within, more, commands-more c.args.started looks look, c.loop-index.invariant.commanded, commanded) refl;
    }
