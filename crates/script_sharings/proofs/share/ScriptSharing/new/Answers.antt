use Rattle.std.proofs.Common.{◌≡◌, Option, inr, sym, ap, ◌∙◌, subst, refl}
use Rattle.std.proofs.lemmas.Result.{err_from_is_err_and}
use Rattle.shared_core.specs.Kept.{making_refusal}
use Rattle.shared_rounds.specs.Names.{FlowName, IsMadeWith}
use Rattle.shared_flow.specs.Owners.{Owning}
use Rattle.shared_flow.specs.Parties.{named}
use Rattle.script_calls.proofs.Refusals.{no_reason, refused_for}
use Rattle.script_sharings.proofs.Fresh.{gave_half}
use Rattle.script_sharings.proofs.share.ScriptSharing.new.Goals as goal

pub returns-in_err-flow-clause-made : goal.returns-in_err-flow-clause-made
returns-in_err-flow-clause-made g c =
    let p = err_from_is_err_and c.from_residual.result c.from_residual.ensures.1 in
    rw (p.1, p.2) (refused_for (making_refusal c.args.config) c.in_err-flow.field-0.0 _ refl c.in_err-flow.ensures.refused c.in_err-flow.ensures.made)

pub returns-in_err-sharing-clause-made : goal.returns-in_err-sharing-clause-made
returns-in_err-sharing-clause-made g c =
    let p = err_from_is_err_and c.from_residual-in_err-sharing.result c.from_residual-in_err-sharing.ensures.1 in
    rw (p.1, p.2) (inr (no_reason (making_refusal c.args.config) c.in_ok-flow.flow c.in_ok-flow.ensures.refused, c.in_err-sharing.ensures.memory))

pub returns-clause-made : goal.returns-clause-made
returns-clause-made g c = (
  no_reason (making_refusal c.args.config) c.in_ok-flow.flow c.in_ok-flow.ensures.refused,
  (
    subst (λ (known : Option FlowName). IsMadeWith c.args.config known) (sym (ap (λ (o : Owning). o.party.flow) c.in_ok-sharing.ensures.half)) c.in_ok-flow.ensures.config,
    gave_half c.in_ok-flow.flow c.share_in.new.flow (c.in_ok-flow.ensures.rounds.0, c.in_ok-flow.ensures.rounds.1, c.in_ok-flow.ensures.rounds.2) c.in_ok-sharing.ensures.half,
  ),
)

pub returns-clause-sharing : goal.returns-clause-sharing
returns-clause-sharing g c = (
  c.in_ok-sharing.ensures.flow ∙ sym (ap (λ (o : Owning). named o.party) c.in_ok-sharing.ensures.half),
  c.in_ok-sharing.ensures.place,
  c.in_ok-sharing.ensures.started.0,
  c.in_ok-sharing.ensures.upstream,
)

pub returns-clause-shows : goal.returns-clause-shows
returns-clause-shows g c = c.in_ok-sharing.ensures.started.1
