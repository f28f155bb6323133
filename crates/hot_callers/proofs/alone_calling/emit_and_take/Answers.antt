use Rattle.std.proofs.Common.{◌≡◌, ◌⊎◌, inl, ℕ, Result, subst}
use Rattle.flow_terms.specs.declared.refusal.Refusal.{Refusal}
use Rattle.flow_terms.specs.declared.refusal.Refusal.TheVariants.{NoMemory, Spent, EmitsFull}
use Rattle.shared_flow.specs.Emitted.{GrewByAll, emitted}
use Rattle.shared_flow.specs.declared.emitter.blocks.CutShort.{CutShort}
use Rattle.hot_callers.proofs.Exchanging.{takes_none}
use Rattle.hot_callers.proofs.Keeping.{takes_only}
use Rattle.hot_callers.proofs.Refused.{if_err_too, if_ok_anyhow}
use Rattle.hot_callers.proofs.alone_calling.emit_and_take.Goals as goal

pub returns-in_err-sending-clause-has : goal.returns-in_err-sending-clause-has
returns-in_err-sending-clause-has g c = takes_none c.args.received.now.items c.args.subscription.now

pub returns-in_err-sending-clause-only : goal.returns-in_err-sending-clause-only
returns-in_err-sending-clause-only g c = takes_only c.args.subscription.now

pub returns-in_err-receiving-clause-has : goal.returns-in_err-receiving-clause-has
returns-in_err-receiving-clause-has g c = takes_none c.args.received.now.items c.args.subscription.now

pub returns-in_err-receiving-clause-only : goal.returns-in_err-receiving-clause-only
returns-in_err-receiving-clause-only g c = takes_only c.args.subscription.now

pub returns-in-Ok-clause-emits : goal.returns-in-Ok-clause-emits
returns-in-Ok-clause-emits g c =
    let took = c.take_while_emitting-sent in
    let grew = subst (λ (answer : Result ℕ CutShort). GrewByAll (emitted c.args.emitter.now) c.args.values.now answer (emitted took.new.emitter)) c.in-Ok.is took.ensures.emits in
    if_ok_anyhow took.result.1 _ (c.in-Ok._count, grew)

pub returns-in-Ok-clause-refused : goal.returns-in-Ok-clause-refused
returns-in-Ok-clause-refused g c =
    let took = c.take_while_emitting-sent in
    if_err_too took.result.1 (λ (refusal : Refusal). refusal ≡ NoMemory) (λ (refusal : Refusal). (refusal ≡ NoMemory) ⊎ ((refusal ≡ Spent) ⊎ (refusal ≡ EmitsFull)))
    (λ refusal. λ it. inl it) took.ensures.refused
