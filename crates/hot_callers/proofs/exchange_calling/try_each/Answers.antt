use Rattle.std.proofs.Common.{ℕ, List, take, get_or, sym, subst}
use Rattle.std.proofs.lemmas.List.{take_all, take_more}
use Rattle.hot_callers.specs.Exchanges.{TriesEach}
use Rattle.hot_callers.proofs.Accepting.{each_tried}
use Rattle.hot_callers.proofs.Exchanging.{tries_none, tries_more}
use Rattle.hot_callers.proofs.exchange_calling.try_each.Goals as goal

pub loop-value-init : goal.loop-value-init
loop-value-init g c = tries_none c.args.emitter.now c.requires.idle

pub loop-value-preserved : goal.loop-value-preserved
loop-value-preserved g c =
    let i = c.loop-value.value-index in
    let words = c.args.values.now in
    subst (λ (l : List ℕ). TriesEach l c.args.emitter.now c.try_emit-answer.new.self) (sym (take_more words i 0 c.loop-value-test.true))
    (tries_more (take i words) (get_or words i 0) c.try_emit-answer.result c.args.emitter.now c.loop-value.emitter c.try_emit-answer.new.self c.loop-value.invariant c.try_emit-answer.ensures.round)

pub returns : goal.returns
returns g c =
    let words = c.args.values.now in
    let tries : TriesEach words c.args.emitter.now c.loop-value.emitter = subst (λ (l : List ℕ). TriesEach l c.args.emitter.now c.loop-value.emitter) (take_all c.loop-value.value-index words c.loop-value-test.false) c.loop-value.invariant in
    record { has = each_tried words c.args.emitter.now c.loop-value.emitter tries; tries = tries }
