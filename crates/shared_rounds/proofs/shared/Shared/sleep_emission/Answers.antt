use Rattle.shared_rounds.proofs.shared.Shared.sleep_emission.Goals as goal

pub returns-in-Waiting-clause-waits : goal.returns-in-Waiting-clause-waits
returns-in-Waiting-clause-waits c = λ _. rw (← c.self.view_is) c.sleep.ensures.asleep
