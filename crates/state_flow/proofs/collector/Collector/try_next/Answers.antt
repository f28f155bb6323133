use Rattle.std.proofs.Common.{sym, ◌∙◌}
use Rattle.state_flow.proofs.Calls.{gathered_none, gathered_some, gathered_knew, collects_alone, seated_after, value_is, last_same, last_new}
use Rattle.state_flow.proofs.Collected.{collected_on}
use Rattle.state_flow.proofs.ValueSteps.{apart_by}
use Rattle.state_flow.proofs.collector.Collector.try_next.Goals as goal

pub invariant_of-self : goal.invariant_of-self
invariant_of-self g c =
    let was = c.self.invariant in
    let apart = apart_by g.T.Word.word g.T.Word.read_as g.T.Word.fits g.met.T.Word.undoes in
    let told = c.gather.ensures.value in
    let x = value_is g.T.Word.word g.T.Word.fits apart g.T.PartialEq.eq g.met.T.Word.tells_apart _ _ _ told g.T.Word.read_as g.met.T.Word.undoes _ c.from_word-value.ensures in
    let none = gathered_none g.T.Word.word g.T.Word.fits apart g.T.PartialEq.eq g.met.T.Word.tells_apart _ _ _ told _ _ x was.2 (sym c.eq.ensures ∙ c.if-eq.true) in
    (seated_after g.T.Word.word g.T.Word.fits apart _ _ _ _ _ told c.gather.ensures.same_flow was.0, none.subsequence, last_same g.T.Word.word g.T.Word.fits apart _ _ _ none was.2)

pub returns-then-eq-clause-asks : goal.returns-then-eq-clause-asks
returns-then-eq-clause-asks g c =
    let was = c.self.invariant in
    let apart = apart_by g.T.Word.word g.T.Word.read_as g.T.Word.fits g.met.T.Word.undoes in
    let told = c.gather.ensures.value in
    let x = value_is g.T.Word.word g.T.Word.fits apart g.T.PartialEq.eq g.met.T.Word.tells_apart _ _ _ told g.T.Word.read_as g.met.T.Word.undoes _ c.from_word-value.ensures in
    rw (← c.self.view_is) (gathered_none g.T.Word.word g.T.Word.fits apart g.T.PartialEq.eq g.met.T.Word.tells_apart _ _ _ told _ _ x was.2 (sym c.eq.ensures ∙ c.if-eq.true))

pub returns-then-eq-clause-has : goal.returns-then-eq-clause-has
returns-then-eq-clause-has g c =
    let was = c.self.invariant in
    let apart = apart_by g.T.Word.word g.T.Word.read_as g.T.Word.fits g.met.T.Word.undoes in
    let told = c.gather.ensures.value in
    let x = value_is g.T.Word.word g.T.Word.fits apart g.T.PartialEq.eq g.met.T.Word.tells_apart _ _ _ told g.T.Word.read_as g.met.T.Word.undoes _ c.from_word-value.ensures in
    rw (← c.self.view_is) (collected_on _ _ _ (gathered_none g.T.Word.word g.T.Word.fits apart g.T.PartialEq.eq g.met.T.Word.tells_apart _ _ _ told _ _ x was.2 (sym c.eq.ensures ∙ c.if-eq.true)))

pub invariant_of-self-2 : goal.invariant_of-self-2
invariant_of-self-2 g c =
    let was = c.self.invariant in
    let apart = apart_by g.T.Word.word g.T.Word.read_as g.T.Word.fits g.met.T.Word.undoes in
    let told = c.gather.ensures.value in
    let x = value_is g.T.Word.word g.T.Word.fits apart g.T.PartialEq.eq g.met.T.Word.tells_apart _ _ _ told g.T.Word.read_as g.met.T.Word.undoes _ c.from_word-value.ensures in
    let some = gathered_some g.T.Word.word g.T.Word.fits apart g.T.PartialEq.eq g.met.T.Word.tells_apart _ _ _ told _ _ x was.2 (sym c.eq.ensures ∙ c.if-eq.false) in
    (seated_after g.T.Word.word g.T.Word.fits apart _ _ _ _ _ told c.gather.ensures.same_flow was.0, some.subsequence, last_new g.T.Word.word g.T.Word.fits apart _ _ _ some)

pub returns-clause-asks : goal.returns-clause-asks
returns-clause-asks g c =
    let was = c.self.invariant in
    let apart = apart_by g.T.Word.word g.T.Word.read_as g.T.Word.fits g.met.T.Word.undoes in
    let told = c.gather.ensures.value in
    let x = value_is g.T.Word.word g.T.Word.fits apart g.T.PartialEq.eq g.met.T.Word.tells_apart _ _ _ told g.T.Word.read_as g.met.T.Word.undoes _ c.from_word-value.ensures in
    rw (← c.self.view_is) (gathered_some g.T.Word.word g.T.Word.fits apart g.T.PartialEq.eq g.met.T.Word.tells_apart _ _ _ told _ _ x was.2 (sym c.eq.ensures ∙ c.if-eq.false))

pub returns-clause-has : goal.returns-clause-has
returns-clause-has g c =
    let was = c.self.invariant in
    let apart = apart_by g.T.Word.word g.T.Word.read_as g.T.Word.fits g.met.T.Word.undoes in
    let told = c.gather.ensures.value in
    let x = value_is g.T.Word.word g.T.Word.fits apart g.T.PartialEq.eq g.met.T.Word.tells_apart _ _ _ told g.T.Word.read_as g.met.T.Word.undoes _ c.from_word-value.ensures in
    rw (← c.self.view_is) (collected_on _ _ _ (gathered_some g.T.Word.word g.T.Word.fits apart g.T.PartialEq.eq g.met.T.Word.tells_apart _ _ _ told _ _ x was.2 (sym c.eq.ensures ∙ c.if-eq.false)))

pub returns-then-eq-clause-alone : goal.returns-then-eq-clause-alone
returns-then-eq-clause-alone g c =
    let was = c.self.invariant in
    let apart = apart_by g.T.Word.word g.T.Word.read_as g.T.Word.fits g.met.T.Word.undoes in
    let told = c.gather.ensures.value in
    let x = value_is g.T.Word.word g.T.Word.fits apart g.T.PartialEq.eq g.met.T.Word.tells_apart _ _ _ told g.T.Word.read_as g.met.T.Word.undoes _ c.from_word-value.ensures in
    let none = gathered_none g.T.Word.word g.T.Word.fits apart g.T.PartialEq.eq g.met.T.Word.tells_apart _ _ _ told _ _ x was.2 (sym c.eq.ensures ∙ c.if-eq.true) in
    rw (← c.self.view_is) (collects_alone g.T.Word.word g.T.Word.fits apart _ _ _ was.0.untold none (gathered_knew g.T.Word.word g.T.Word.fits apart _ _ _ told))

pub returns-clause-alone : goal.returns-clause-alone
returns-clause-alone g c =
    let was = c.self.invariant in
    let apart = apart_by g.T.Word.word g.T.Word.read_as g.T.Word.fits g.met.T.Word.undoes in
    let told = c.gather.ensures.value in
    let x = value_is g.T.Word.word g.T.Word.fits apart g.T.PartialEq.eq g.met.T.Word.tells_apart _ _ _ told g.T.Word.read_as g.met.T.Word.undoes _ c.from_word-value.ensures in
    let some = gathered_some g.T.Word.word g.T.Word.fits apart g.T.PartialEq.eq g.met.T.Word.tells_apart _ _ _ told _ _ x was.2 (sym c.eq.ensures ∙ c.if-eq.false) in
    rw (← c.self.view_is) (collects_alone g.T.Word.word g.T.Word.fits apart _ _ _ was.0.untold some (gathered_knew g.T.Word.word g.T.Word.fits apart _ _ _ told))
