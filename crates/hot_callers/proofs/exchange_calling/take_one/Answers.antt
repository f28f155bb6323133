use Rattle.std.proofs.Common.{List, ℕ, [], ◌∷◌, ◌++◌, inl, inr, sym, ap, ◌∙◌}
use Rattle.std.proofs.lemmas.List.{append-nil}
use Rattle.hot_callers.proofs.Looks.{tried_one, tried_none}
use Rattle.hot_callers.proofs.exchange_calling.take_one.Goals as goal

pub returns-in-Nothing : goal.returns-in-Nothing
returns-in-Nothing c =
    let missed = c.in-Nothing.ensures.taken in
    let same = c.reserve.ensures.items ∙ sym (append-nil c.args.received.now.items) in record {
      has = ([], same, c.in-Nothing.ensures.has);
      turns = ([], same, tried_none c.args.subscription.now c.try_next.new.self (missed.0, inl missed.1), c.try_next.ensures.same.0);
    }

pub returns-in-Overtaken : goal.returns-in-Overtaken
returns-in-Overtaken c =
    let missed = c.in-Overtaken.ensures.taken in
    let same = c.reserve.ensures.items ∙ sym (append-nil c.args.received.now.items) in record {
      has = ([], same, c.in-Overtaken.ensures.has);
      turns = ([], same, tried_none c.args.subscription.now c.try_next.new.self (missed.0, inr missed.1), c.try_next.ensures.same.0);
    }

pub returns : goal.returns
returns c =
    let more = c.push_reserved.ensures.items ∙ ap (λ (l : List ℕ). l ++ c.in-Value.value ∷ []) c.reserve.ensures.items in record {
      has = (c.in-Value.value ∷ [], more, c.in-Value.ensures.has);
      turns = (c.in-Value.value ∷ [], more, tried_one c.args.subscription.now c.try_next.new.self c.in-Value.value c.in-Value.ensures.taken, c.try_next.ensures.same.0);
    }
