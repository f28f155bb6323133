use Rattle.std.proofs.Common.{arith, ◌&&◌, refl, inl, inr, sym, ◌∙◌}
use Rattle.flow_terms.specs.Few.{split}
use Rattle.cold_flow.specs.ClosingLaws.{open_gave, open_rests}
use Rattle.more_operators.specs.HeldLaws.{settled_narrows, settled_approaches, asks_open, asks_empty, asked_narrows, asked_approaches, asked_none, pends_narrows}
use Rattle.more_operators.specs.HeldLaws.{pends_approaches}
use Rattle.more_operators.specs.HeldLaws.{ends_by, stops_by, stays_by, prompt_by, prompt_once, stopped_by, holds_none, nearer_more, nearer_enough}
use Rattle.more_operators.specs.RelayedLaws.{never_true, gives_later, still_soon}
use Rattle.more_operators.proofs.operators.relay.RelayedRunRun.poll_next.Goals as goal

-- what was held, or the end
pub returns-in-Some-clause-narrows : goal.returns-in-Some-clause-narrows
returns-in-Some-clause-narrows g c =
    settled_narrows _ _ _ _ _ (sym c.settle.ensures.event ∙ c.in-Some.is) c.settle.ensures.closing c.settle.ensures.held _ _

pub returns-in-Some-clause-ends : goal.returns-in-Some-clause-ends
returns-in-Some-clause-ends g c = rw c.settle.ensures.closing (ends_by _ _ _ (sym c.settle.ensures.event ∙ c.in-Some.is))

pub returns-in-Some-clause-stops : goal.returns-in-Some-clause-stops
returns-in-Some-clause-stops g c h =
    let was = c.args.self.now in
    stops_by was.holding.closing (split was.holding.held) _ _ (sym c.settle.ensures.event ∙ c.in-Some.is)
    (stopped_by was.holding.closing (split was.holding.held) (g.S.Run.stopped was.source) was.stopped) h

pub returns-in-Some-clause-stays : goal.returns-in-Some-clause-stays
returns-in-Some-clause-stays g c k over = stays_by _ _ _ k (sym c.settle.ensures.event ∙ c.in-Some.is) over

pub returns-in-Some-clause-approaches : goal.returns-in-Some-clause-approaches
returns-in-Some-clause-approaches g c =
    settled_approaches _ _ _ _ _ (sym c.settle.ensures.event ∙ c.in-Some.is) c.settle.ensures.closing c.settle.ensures.held _

pub returns-in-Some-clause-prompt : goal.returns-in-Some-clause-prompt
returns-in-Some-clause-prompt g c on =
    let was = c.args.self.now in (
      tt,
      rw c.settle.ensures.closing
          (prompt_by was.holding.closing (split was.holding.held) (g.M.Relay.steady was.relay && g.S.Run.prompt was.source) on),
    )

pub returns-in-Some-clause-polled : goal.returns-in-Some-clause-polled
returns-in-Some-clause-polled g c = (tt, λ k over. refl, λ some. refl)

pub invariant_of-self : goal.invariant_of-self
invariant_of-self g c =
    let was = c.args.self.now in
    record {
      stopped = rw c.settle.ensures.closing (stopped_by was.holding.closing (split was.holding.held) (g.S.Run.stopped was.source) was.stopped);
    }

-- it follows its source, and holds nothing
pub loop-asked-init : goal.loop-asked-init
loop-asked-init g c =
    let was = c.args.self.now.holding in
    let none = sym c.settle.ensures.event ∙ c.in_default.is in
    let follows = asks_open was.closing was.held none in
    let empty = asks_empty was.closing was.held none in
    record {
      was = follows;
      empty = empty;
      going = rw (c.settle.ensures.closing, follows) refl;
      holds = rw (c.settle.ensures.held, follows, empty) refl;
      narrows = λ t h. h;
      nearer = λ known. (known, omega arith);
      prompt = λ on. ((λ none. absurd (omega (arith, none))), on);
      kept = λ fact h. h;
    }

-- what came of a question to the source
pub returns-in-Some-settle-clause-narrows : goal.returns-in-Some-settle-clause-narrows
returns-in-Some-settle-clause-narrows g c =
    let before = c.loop-asked.invariant in
    asked_narrows _ _ _ _ _ (sym c.settle-in-loop-asked.ensures.event ∙ c.in-Some-settle.is) c.settle-in-loop-asked.ensures.closing c.settle-in-loop-asked.ensures.held _ _ before.was
    before.empty _ _ _ _ _ _ before.narrows c.in-Some-ask.ensures.narrows

pub returns-in-Some-settle-clause-ends : goal.returns-in-Some-settle-clause-ends
returns-in-Some-settle-clause-ends g c = rw c.settle-in-loop-asked.ensures.closing (ends_by _ _ _ (sym c.settle-in-loop-asked.ensures.event ∙ c.in-Some-settle.is))

pub returns-in-Some-settle-clause-stops : goal.returns-in-Some-settle-clause-stops
returns-in-Some-settle-clause-stops g c h =
    let now = c.in-Some-ask.holding in
    stops_by now.closing (split now.held) _ _ (sym c.settle-in-loop-asked.ensures.event ∙ c.in-Some-settle.is)
    (stopped_by now.closing (split now.held) (g.S.Run.stopped c.ask.new.source) c.in-Some-ask.ensures.stops) h

pub returns-in-Some-settle-clause-stays : goal.returns-in-Some-settle-clause-stays
returns-in-Some-settle-clause-stays g c k over = absurd (open_gave _ k c.loop-asked.invariant.was over)

pub returns-in-Some-settle-clause-approaches : goal.returns-in-Some-settle-clause-approaches
returns-in-Some-settle-clause-approaches g c =
    let before = c.loop-asked.invariant in
    asked_approaches _ _ _ _ _ (sym c.settle-in-loop-asked.ensures.event ∙ c.in-Some-settle.is) c.settle-in-loop-asked.ensures.closing c.settle-in-loop-asked.ensures.held _ _ before.was
    before.empty _ _ _ _ before.nearer c.in-Some-ask.ensures.within

pub returns-in-Some-settle-clause-prompt : goal.returns-in-Some-settle-clause-prompt
returns-in-Some-settle-clause-prompt g c on =
    let before = c.loop-asked.invariant in
    let source = rw before.was at on in
    let now = c.in-Some-ask.ensures.prompt (before.prompt source).1 in
    let came = c.in-Some-ask.holding in (
      tt,
      rw c.settle-in-loop-asked.ensures.closing
          (prompt_once came.closing (split came.held) (g.M.Relay.steady c.ask.new.relay && g.S.Run.prompt c.ask.new.source) (λ going. (now.1 going).1)),
    )

pub returns-in-Some-settle-clause-polled : goal.returns-in-Some-settle-clause-polled
returns-in-Some-settle-clause-polled g c =
    (tt, open_rests _ _ _ c.loop-asked.invariant.was, λ some. holds_none _ c.loop-asked.invariant.empty some)

pub invariant_of-self-in-loop-asked : goal.invariant_of-self-in-loop-asked
invariant_of-self-in-loop-asked g c =
    let now = c.in-Some-ask.holding in
    record {
      stopped = rw c.settle-in-loop-asked.ensures.closing
          (stopped_by now.closing (split now.held) (g.S.Run.stopped c.ask.new.source) c.in-Some-ask.ensures.stops);
    }

-- nothing came of it
pub loop-asked-preserved : goal.loop-asked-preserved
loop-asked-preserved g c =
    let before = c.loop-asked.invariant in
    let now = c.in-Some-ask.holding in
    let none = sym c.settle-in-loop-asked.ensures.event ∙ c.in_default-settle.is in
    let follows = asks_open now.closing now.held none in
    let empty = asks_empty now.closing now.held none in
    record {
      was = before.was;
      empty = before.empty;
      going = rw (c.settle-in-loop-asked.ensures.closing, follows) refl;
      holds = rw (c.settle-in-loop-asked.ensures.held, follows, empty) refl;
      narrows = λ t h. before.narrows t (asked_none _ _ _ _ _ follows empty c.in-Some-ask.ensures.narrows t h);
      nearer = nearer_more _ _ _ _ before.nearer (c.in-Some-ask.ensures.nearer follows);
      prompt = λ on.
          let was = before.prompt on in
          let came = (c.in-Some-ask.ensures.prompt was.1).1 follows in
          let fewer = gives_later now.closing now.held _ _ none came.0 in
          ((λ _. still_soon _ _ _ was.0 fewer.0 fewer.1), came.1);
      kept = λ fact h. c.ask.ensures.kept fact (before.kept fact h);
    }

-- the source answered pending
pub returns-in-None-clause-narrows : goal.returns-in-None-clause-narrows
returns-in-None-clause-narrows g c =
    let before = c.loop-asked.invariant in
    pends_narrows _ _ _ _ before.was before.empty before.going before.holds _ _ _ _ (λ t h. before.narrows t (c.in-None.ensures.waits t h))

pub returns-in-None-clause-ends : goal.returns-in-None-clause-ends
returns-in-None-clause-ends g c = rw c.loop-asked.invariant.going refl

pub returns-in-None-clause-stays : goal.returns-in-None-clause-stays
returns-in-None-clause-stays g c k over = absurd (open_gave _ k c.loop-asked.invariant.was over)

pub returns-in-None-clause-approaches : goal.returns-in-None-clause-approaches
returns-in-None-clause-approaches g c =
    let before = c.loop-asked.invariant in
    pends_approaches _ _ _ _ before.was before.empty before.going before.holds _ _ _ (nearer_more _ _ _ _ before.nearer c.in-None.ensures.later)

pub returns-in-None-clause-prompt : goal.returns-in-None-clause-prompt
returns-in-None-clause-prompt g c on =
    let before = c.loop-asked.invariant in
    let source = rw before.was at on in
    never_true ((c.in-None.ensures.prompt (before.prompt source).1).0)

pub returns-in-None-clause-polled : goal.returns-in-None-clause-polled
returns-in-None-clause-polled g c =
    let before = c.loop-asked.invariant in
    (inl (c.loop-asked.self.source, c.in-None.ensures.polled), open_rests _ _ _ before.was, λ some. holds_none _ before.empty some)

pub invariant_of-self-in-None : goal.invariant_of-self-in-None
invariant_of-self-in-None g c = record { stopped = rw c.loop-asked.invariant.going refl }

-- 64 answers gave nothing
pub returns-clause-narrows : goal.returns-clause-narrows
returns-clause-narrows g c =
    let before = c.loop-asked.invariant in
    rw c.yield_now.ensures.pending (pends_narrows _ _ _ _ before.was before.empty before.going before.holds _ _ _ _ before.narrows)

pub returns-clause-ends : goal.returns-clause-ends
returns-clause-ends g c = rw (c.yield_now.ensures.pending, c.loop-asked.invariant.going) refl

pub returns-clause-stays : goal.returns-clause-stays
returns-clause-stays g c k over = absurd (open_gave _ k c.loop-asked.invariant.was over)

pub returns-clause-approaches : goal.returns-clause-approaches
returns-clause-approaches g c =
    let before = c.loop-asked.invariant in
    rw c.yield_now.ensures.pending
    (pends_approaches _ _ _ _ before.was before.empty before.going before.holds _ _ 63 (nearer_enough _ _ _ 64 before.nearer c.loop-asked-test.false))

pub returns-clause-prompt : goal.returns-clause-prompt
returns-clause-prompt g c on =
    let before = c.loop-asked.invariant in
    let source = rw before.was at on in
    let few = (before.prompt source).0 (omega (arith, c.loop-asked-test.false)) in
    absurd (omega (arith, few, c.loop-asked-test.false))

pub returns-clause-polled : goal.returns-clause-polled
returns-clause-polled g c =
    let before = c.loop-asked.invariant in
    rw c.yield_now.ensures.pending
    (inr (nearer_enough _ _ _ 64 before.nearer c.loop-asked-test.false), open_rests _ _ _ before.was, λ some. holds_none _ before.empty some)
