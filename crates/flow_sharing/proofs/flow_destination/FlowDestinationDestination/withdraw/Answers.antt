use Rattle.flow_sharing.proofs.flow_destination.FlowDestinationDestination.withdraw.Goals as goal

pub returns-clause-withdraws : goal.returns-clause-withdraws
returns-clause-withdraws g c = c.withdraw.ensures.withdrew c.args.self.now.flow.now
