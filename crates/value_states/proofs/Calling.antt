-- What a call under the lock comes to.
use Rattle.std.proofs.Common.{◌≡◌, ℕ, ◌+◌, Some, List, refl, sym, ap, ◌∙◌, subst}
use Rattle.round_lock.specs.Locking.{Locking}
use Rattle.round_lock.specs.History.{Saw}
use Rattle.value_states.specs.declared.round.Round.{Round}
use Rattle.value_states.specs.declared.round.Round.TheVariants as round
use Rattle.value_states.specs.declared.versioned.Versioned.{Versioned}
use Rattle.value_states.specs.Does.{IsFirst, Does}
use Rattle.value_states.specs.History.{history_after, IsLast}
use Rattle.value_states.specs.Calls.{history, Finds, Holds, holding, giving, after_call, Reads, Writes}
use Rattle.value_states.proofs.Histories.{history_more, history_stays, left_last}

module _ {T : Type 0} where
  pub finds : (owner : Locking (Versioned T) Round) (calls : List (ℕ × Round × Versioned T)) (state : Versioned T) → Saw IsFirst Does owner.pass owner.log state calls → Finds owner calls state
  finds owner calls state saw = record {
    seen = saw.seen_on;
    own = saw.own_is;
    last = subst (λ made. IsLast (history_after made calls) state) (sym saw.made_is) (left_last saw.made calls state saw.after);
    taken_in = saw.taken_in;
  }

  pub holds : (before taken : Locking (Versioned T) Round) (state : Versioned T) → taken ≡ holding state taken.log.seen before → Saw IsFirst Does before.pass before.log state taken.log.seen → Holds before state taken
  holds before taken state took saw = record { finds = finds before taken.log.seen state saw; only = took }

  pub held_is : (before : Locking (Versioned T) Round) (state : Versioned T) (taken : Locking (Versioned T) Round) → Holds before state taken → taken.log.held ≡ Some state
  held_is before state taken has = ap (λ (o : Locking (Versioned T) Round). o.log.held) has.only

  -- taken, and given back
  pub gave : (before : Locking (Versioned T) Round) (state : Versioned T) (taken after : Locking (Versioned T) Round) (left : Versioned T) (call : Round) → Holds before state taken → after ≡ giving call left taken → after ≡ after_call taken.log.seen call left before
  gave before state taken after left call has given = given ∙ ap (giving call left) has.only

  pub reads : (before : Locking (Versioned T) Round) (state : Versioned T) (taken after : Locking (Versioned T) Round) → Holds before state taken → after ≡ giving round.Read state taken → Reads before state.value after
  reads before state taken after has given =
      let only = gave before state taken after state round.Read has given in record {
        calls = taken.log.seen;
        version = state.version;
        finds = has.finds;
        only = only;
        same_history = ap history only ∙ history_stays before.log.made taken.log.seen (before.pass, round.Read, state) refl;
      }

  pub writes : (before : Locking (Versioned T) Round) (state : Versioned T) (taken after : Locking (Versioned T) Round) (value : T) → Holds before state taken → after ≡ giving round.Write (record { value = value; version = state.version + 1 }) taken → Writes before state.value value after
  writes before state taken after value has given =
      let left : Versioned T = record { value = value; version = state.version + 1 } in
      let only = gave before state taken after left round.Write has given in record {
        calls = taken.log.seen;
        version = state.version;
        finds = has.finds;
        only = only;
        joins = ap history only ∙ history_more before.log.made taken.log.seen (before.pass, round.Write, left);
      }

  -- the same, of an owner that contracts see as another
  pub reads_of : (before now : Locking (Versioned T) Round) → before ≡ now → (state : Versioned T) (taken after : Locking (Versioned T) Round) → Holds before state taken → after ≡ giving round.Read state taken → Reads now state.value after
  reads_of before now is state taken after has given = subst (λ (o : Locking (Versioned T) Round). Reads o state.value after) is (reads before state taken after has given)

  pub writes_of : (before now : Locking (Versioned T) Round) → before ≡ now → (state : Versioned T) (taken after : Locking (Versioned T) Round) (value : T) → Holds before state taken → after ≡ giving round.Write (record { value = value; version = state.version + 1 }) taken → Writes now state.value value after
  writes_of before now is state taken after value has given = subst (λ (o : Locking (Versioned T) Round). Writes o state.value value after) is (writes before state taken after value has given)
