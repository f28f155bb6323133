use Rattle.flow_terms.specs.Few.{values_of}
use Rattle.cold_flow.specs.Laws.{Through-fixed}
use Rattle.more_operators.specs.RelayedLaws.{relayed-monotone}
use Rattle.more_operators.proofs.operators.relay.Relayed.new.Goals as goal

pub returns-clause-exact : goal.returns-clause-exact
returns-clause-exact g c whole fixed =
    let relay = g.M.Relay in
    Through-fixed _ (relayed-monotone relay.takes relay.after relay.closes c.args.relay (values_of c.args.first)) _ whole fixed
