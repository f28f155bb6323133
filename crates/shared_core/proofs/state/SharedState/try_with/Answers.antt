use Rattle.std.proofs.Common.{⊎_elim, Ok, refl, subst}
use Rattle.flow_terms.specs.declared.answers.Tried.TheVariants as tried
use Rattle.shared_core.specs.Calls.{dropped, handed_over, held_up}
use Rattle.shared_core.specs.Accepting.{HasFate}
use Rattle.shared_core.proofs.Emitting.{try_enters, try_pushes, try_stays, below_limit}
use Rattle.shared_core.proofs.state.SharedState.try_with.Goals as goal

pub accept-requires-clause-numbers : goal.accept-requires-clause-numbers
accept-requires-clause-numbers g c = c.requires.numbers

pub push_in-requires : goal.push_in-requires
push_in-requires g c = c.requires.numbers

pub returns-in-Enters : goal.returns-in-Enters
returns-in-Enters g c =
    rw (c.accept.ensures.number, c.accept.ensures.accepted)
    (try_enters c.args.emitter c.args.value c.args.self.now (below_limit _ c.requires.numbers) (subst (HasFate c.args.self.now) c.in-Enters.is c.requires.fate))

pub returns-in-PushesIn : goal.returns-in-PushesIn
returns-in-PushesIn g c =
    rw (c.push_in.ensures.number, c.push_in.ensures.accepted)
    (try_pushes c.args.emitter c.args.value c.args.self.now (below_limit _ c.requires.numbers) (subst (HasFate c.args.self.now) c.in-PushesIn.is c.requires.fate))

pub returns-in-Dropped : goal.returns-in-Dropped
returns-in-Dropped g c =
    try_stays c.args.emitter c.args.value c.args.self.now (below_limit _ c.requires.numbers) dropped (Ok tried.Dropped) (subst (HasFate c.args.self.now) c.in-Dropped.is c.requires.fate) (λ M. refl)

pub returns-in-HandedOver : goal.returns-in-HandedOver
returns-in-HandedOver g c =
    let stays = try_stays c.args.emitter c.args.value c.args.self.now (below_limit _ c.requires.numbers) in
    ⊎_elim
    (λ hands. stays handed_over (Ok tried.Full) (subst (HasFate c.args.self.now) hands c.requires.fate) (λ M. refl))
    (λ holds. stays held_up (Ok tried.Full) (subst (HasFate c.args.self.now) holds c.requires.fate) (λ M. refl))
    c.in-HandedOver.is
