-- What a store shows, after each of its calls.
use Rattle.std.proofs.Common.{◌≡◌, ℕ, ◌+◌, ◌<◌, ◌≤◌, Some, None, Bool, true, false, cond, List, [], ◌∷◌, ◌++◌, map, length, drop, refl, sym, ap, ◌∙◌, subst, arith, length-append, length-drop}
use Rattle.std.proofs.lemmas.List.{map-append, length-map, drop-map}
use Rattle.circular_buffer.specs.Buffer.{buffer}
use Rattle.cold_flow.specs.declared.cause.Cause.TheVariants.{Cancelled}
use Rattle.flow_buffer.specs.declared.ending.Ending.{Ending}
use Rattle.flow_buffer.specs.declared.ending.Ending.TheVariants.{Given}
use Rattle.flow_terms.specs.declared.fill.Fill.{Fill}
use Rattle.flow_terms.specs.declared.fill.Fill.TheVariants.{Took, Overwrote, Dropped as DroppedIt, Full, Pending, Ended}
use Rattle.flow_buffer.specs.declared.side.Fate.{Fate}
use Rattle.flow_buffer.specs.declared.side.Fate.TheVariants.{Taken, Stored, Dropped}
use Rattle.flow_buffer.specs.declared.store.Store.{Store}
use Rattle.flow_buffer.specs.History.{is_taken, is_stored, is_dropped, picked, Rises}
use Rattle.flow_buffer.specs.Sides.{saturated}
use Rattle.flow_buffer.specs.Endings.{given}
use Rattle.flow_buffer.specs.Contents.{Contents, nothing, taken_of, stored_of, dropped_of, IsRising, IsOrdered, oldest, turned, produced, FillsTo, TakesTo, PassesTo, GivesUp, IsAllTold}
use Rattle.flow_buffer.specs.Stored.{Shows, Becomes, Puts, Gets, one_more}
use Rattle.flow_buffer.proofs.Histories.{picked_same, picked-rises}
use Rattle.flow_buffer.proofs.Oldest.{picked_last, oldest_held, oldest_counts, oldest_same, oldest_ordered, ordered_last, all_fates}

not_true : (b : Bool) → (b ≡ true → ⊥) → b ≡ false
not_true true never = absurd (never refl)
not_true false never = refl

-- a count goes up by one
counts_one : (count n m : ℕ) → count ≡ saturated n → m ≡ n + 1 → one_more count ≡ saturated m
counts_one count n m was is = omega arith

abbrev values : {T : Type 0} → List (ℕ × T) → List T
values = map (λ e. e.1)

rising_held : {T : Type 0} (given_up : Bool) (l : List (Fate × T)) → Rises 0 (cond given_up [] (picked is_stored 0 l))
rising_held true l = tt
rising_held false l = picked-rises is_stored 0 l

all_rise : {T : Type 0} (c : Contents T) → IsRising c
all_rise c = (picked-rises is_taken 0 c.history, rising_held c.given_up c.history, picked-rises is_dropped 0 c.history)

module _ {T E : Type 0} where
  pub begins : (capacity : ℕ) (s : Store T E) → s.held ≡ buffer [] capacity → s.taken ≡ 0 → s.dropped ≡ 0 → Shows s (nothing capacity s.policy)
  begins capacity s empty none lost = record {
    capacity = ap (λ b. b.capacity) (sym empty);
    policy = refl;
    values = ap (λ b. b.items) (sym empty);
    taken = none;
    dropped = lost;
    rising = all_rise (nothing {T = T} capacity s.policy);
    within = omega arith;
    ordered = tt;
    gave_up = λ is. cc;
  }

  module _ (s : Store T E) (alive : given s.ending ≡ None) (c : Contents T) (shows : Shows s c) where
    not_given_up : c.given_up ≡ false
    not_given_up = not_true c.given_up (λ is. let e : given s.ending ≡ Some Cancelled = ap given (shows.gave_up is) in cc)

    held_is : (history : List (Fate × T)) → stored_of (record c { history = history }) ≡ picked is_stored 0 history
    held_is history = ap (λ b. cond b [] (picked is_stored 0 history)) not_given_up

    long : length (stored_of c) ≡ length s.held.items
    long = sym (length-map (stored_of c) (λ (e : ℕ × T). e.1)) ∙ ap length shows.values

    items_are : values (picked is_stored 0 c.history) ≡ s.held.items
    items_are = ap values (sym (held_is c.history)) ∙ shows.values

    -- the contents with another history, where the store holds its held values
    pub shows_still : (r : Store T E) (history : List (Fate × T)) → r.held.capacity ≡ s.held.capacity → r.policy ≡ s.policy → r.ending ≡ s.ending
        → values (picked is_stored 0 history) ≡ r.held.items → length r.held.items ≤ s.held.capacity
        → r.taken ≡ saturated (length (picked is_taken 0 history)) → r.dropped ≡ saturated (length (picked is_dropped 0 history)) → IsOrdered history
        → Shows r (record c { history = history })
    shows_still r history same_capacity same_policy same_ending holds within took lost ordered = record {
      capacity = shows.capacity ∙ sym same_capacity;
      policy = shows.policy ∙ sym same_policy;
      values = ap values (held_is history) ∙ holds;
      taken = took;
      dropped = lost;
      rising = all_rise (record c { history = history });
      within =
          let many : length (stored_of (record c { history = history })) ≡ length r.held.items = sym (length-map (stored_of (record c { history = history })) (λ (e : ℕ × T). e.1)) ∙ ap length (ap values (held_is history) ∙ holds) in
          let wide = shows.capacity in omega arith;
      ordered = ordered;
      gave_up = λ is. same_ending ∙ shows.gave_up is;
    }

    -- x comes to the end, and is held
    pub shows_more : (x : T) → length s.held.items < s.held.capacity → Shows (record s { held = buffer (s.held.items ++ x ∷ []) s.held.capacity }) (produced Stored x c)
    shows_more x room = shows_still (record s { held = buffer (s.held.items ++ x ∷ []) s.held.capacity }) (c.history ++ (Stored, x) ∷ []) refl refl refl
        (ap values (picked_last is_stored c.history Stored x refl) ∙ (map-append (λ (e : ℕ × T). e.1) (picked is_stored 0 c.history) ((0 + length c.history, x) ∷ []) ∙ ap (λ t. t ++ x ∷ []) items_are))
        (omega (arith, length-append s.held.items (x ∷ [])))
        (shows.taken ∙ ap (λ l. saturated (length l)) (sym (picked_same is_taken 0 c.history (Stored, x) refl)))
        (shows.dropped ∙ ap (λ l. saturated (length l)) (sym (picked_same is_dropped 0 c.history (Stored, x) refl)))
        (ordered_last Stored refl c.history x shows.ordered)

    -- x comes to the end, and is dropped
    pub shows_loss : (x : T) → Shows (record s { dropped = one_more s.dropped }) (produced Dropped x c)
    shows_loss x = shows_still (record s { dropped = one_more s.dropped }) (c.history ++ (Dropped, x) ∷ []) refl refl refl
        (ap values (picked_same is_stored 0 c.history (Dropped, x) refl) ∙ items_are)
        (let within = shows.within in let wide = shows.capacity in omega (arith, long))
        (shows.taken ∙ ap (λ l. saturated (length l)) (sym (picked_same is_taken 0 c.history (Dropped, x) refl)))
        (counts_one s.dropped (length (dropped_of c)) (length (picked is_dropped 0 (c.history ++ (Dropped, x) ∷ []))) shows.dropped
        (ap length (picked_last is_dropped c.history Dropped x refl) ∙ length-append (dropped_of c) ((0 + length c.history, x) ∷ [])))
        (ordered_last Dropped refl c.history x shows.ordered)

    some_held : 0 < length s.held.items → 0 < length (picked is_stored 0 c.history)
    some_held some = let same : length (picked is_stored 0 c.history) ≡ length (stored_of c) = ap length (sym (held_is c.history)) in omega (arith, long)

    first_gone : (f : Fate) → is_stored f ≡ false → values (picked is_stored 0 (oldest f c.history)) ≡ drop 1 s.held.items
    first_gone f free = ap values (oldest_held f free 0 c.history) ∙ (sym (drop-map (λ (e : ℕ × T). e.1) 1 (picked is_stored 0 c.history)) ∙ ap (drop 1) items_are)

    fewer : length (drop 1 s.held.items) ≤ s.held.capacity
    fewer = let within = shows.within in let wide = shows.capacity in omega (arith, long, length-drop 1 s.held.items)

    -- the oldest is dropped
    pub shows_lost : 0 < length s.held.items → Shows (record s { held = buffer (drop 1 s.held.items) s.held.capacity; dropped = one_more s.dropped }) (turned Dropped c)
    shows_lost some = shows_still (record s { held = buffer (drop 1 s.held.items) s.held.capacity; dropped = one_more s.dropped }) (oldest Dropped c.history) refl refl refl
        (first_gone Dropped refl) fewer
        (shows.taken ∙ ap (λ l. saturated (length l)) (sym (oldest_same is_taken Dropped refl 0 c.history)))
        (counts_one s.dropped (length (dropped_of c)) (length (picked is_dropped 0 (oldest Dropped c.history))) shows.dropped (oldest_counts is_dropped Dropped refl refl 0 c.history (some_held some)))
        (oldest_ordered Dropped refl c.history shows.ordered)

    -- the oldest is taken
    pub shows_taken : 0 < length s.held.items → Shows (record s { held = buffer (drop 1 s.held.items) s.held.capacity; taken = one_more s.taken }) (turned Taken c)
    shows_taken some = shows_still (record s { held = buffer (drop 1 s.held.items) s.held.capacity; taken = one_more s.taken }) (oldest Taken c.history) refl refl refl
        (first_gone Taken refl) fewer
        (counts_one s.taken (length (taken_of c)) (length (picked is_taken 0 (oldest Taken c.history))) shows.taken (oldest_counts is_taken Taken refl refl 0 c.history (some_held some)))
        (shows.dropped ∙ ap (λ l. saturated (length l)) (sym (oldest_same is_dropped Taken refl 0 c.history)))
        (oldest_ordered Taken refl c.history shows.ordered)

  module _ (old new : Store T E) (alive : given old.ending ≡ None) where
    -- a value was put in
    pub puts_become : (x : T) (fill : Fill) → 0 < old.held.capacity → Puts old x fill new → Becomes old (FillsTo x fill) new
    puts_become x Took some puts c shows = (produced Stored x c, (let wide = shows.capacity in omega (arith, long old alive c shows, puts.0), refl), subst (λ r. Shows r (produced Stored x c)) (sym puts.1) (shows_more old alive c shows x puts.0))
    puts_become x Overwrote some puts c shows =
        let d = turned Dropped c in
        let r : Store T E = record old { held = buffer (drop 1 old.held.items) old.held.capacity; dropped = one_more old.dropped } in
        let lost : Shows r d = shows_lost old alive c shows (omega (arith, puts.1)) in (
          produced Stored x d,
          (shows.policy ∙ puts.0, long old alive c shows ∙ (puts.1 ∙ sym shows.capacity), refl),
          subst (λ r. Shows r (produced Stored x d)) (sym puts.2) (shows_more r alive d lost x (omega (arith, length-drop 1 old.held.items, puts.1))),
        )
    puts_become x DroppedIt some puts c shows =
        (produced Dropped x c, (shows.policy ∙ puts.0, long old alive c shows ∙ (puts.1 ∙ sym shows.capacity), refl), subst (λ r. Shows r (produced Dropped x c)) (sym puts.2) (shows_loss old alive c shows x))
    puts_become x Full some puts c shows = absurd puts
    puts_become x Pending some puts c shows = absurd puts
    puts_become x Ended some puts c shows = absurd puts

    nonempty : (l : List (ℕ × T)) (x : T) (rest : List T) → values l ≡ x ∷ rest → (index : ℕ) × (others : List (ℕ × T)) × (l ≡ (index, x) ∷ others)
    nonempty [] x rest is = cc
    nonempty ((i, y) ∷ l) x rest is = let same : y ≡ x = cc in (i, l, ap (λ z. (i, z) ∷ l) same)

    -- the oldest was taken out
    pub gets_become : (x : T) → Gets old (Some x) new → Becomes old (TakesTo x) new
    gets_become x gets c shows =
        let d = turned Taken c in
        let r : Store T E = record old { held = buffer (drop 1 old.held.items) old.held.capacity; taken = one_more old.taken } in
        let taken : Shows r d = shows_taken old alive c shows (let some : length old.held.items ≡ length (x ∷ new.held.items) = ap length gets.0 in omega arith) in
        let same : r ≡ new = ap (λ l. record old { held = buffer (drop 1 l) old.held.capacity; taken = one_more old.taken }) gets.0 ∙ sym gets.1 in
        (d, (nonempty (stored_of c) x new.held.items (shows.values ∙ gets.0), refl), subst (λ r. Shows r d) same taken)

    none_held : (l : List (ℕ × T)) → values l ≡ [] → l ≡ []
    none_held [] is = refl
    none_held (e ∷ l) is = cc

  -- a value was handed over while none was held
  pub passes_become : (old new : Store T E) → given old.ending ≡ None → (x : T) → 0 < old.held.capacity → old.held.items ≡ [] → new ≡ record old { taken = one_more old.taken } → Becomes old (PassesTo x) new
  passes_become old new alive x some empty passes c shows =
      let filled : Store T E = record old { held = buffer (old.held.items ++ x ∷ []) old.held.capacity } in
      let room : length old.held.items < old.held.capacity = rw empty some in
      let fill = puts_become old filled alive x Took some (room, refl) c shows in
      let holds : filled.held.items ≡ x ∷ [] = ap (λ l. l ++ x ∷ []) empty in
      let is : new ≡ record filled { held = buffer [] old.held.capacity; taken = one_more old.taken } = passes ∙ ap (λ l. record old { held = buffer l old.held.capacity; taken = one_more old.taken }) empty in
      let gone : new.held.items ≡ [] = ap (λ r. r.held.items) is in
      let same : new ≡ record filled { held = buffer new.held.items old.held.capacity; taken = one_more old.taken } = is ∙ ap (λ l. record filled { held = buffer l old.held.capacity; taken = one_more old.taken }) (sym gone) in
      let take = gets_become filled new alive x (holds ∙ ap (λ l. x ∷ l) (sym gone), same) fill.0 fill.2 in
      (take.0, (none_held old new alive (stored_of c) (shows.values ∙ empty), (fill.0, fill.1, take.1)), take.2)

  -- an end was seen, or was given
  pub ends_become : (old new : Store T E) (ending : Ending E) → given old.ending ≡ None → new ≡ record old { ending = ending } → Becomes old (λ c d. d ≡ c) new
  ends_become old new ending alive is c shows =
      let here : Shows (record old { ending = ending }) c = record {
        capacity = shows.capacity;
        policy = shows.policy;
        values = shows.values;
        taken = shows.taken;
        dropped = shows.dropped;
        rising = all_rise c;
        within = shows.within;
        ordered = shows.ordered;
        gave_up = λ gave. let free = not_given_up old alive c shows in cc;
      } in
      (c, refl, subst (λ r. Shows r c) (sym is) here)

  -- what is held was given up
  pub gives_up_become : (old new : Store T E) → new ≡ record old { held = buffer [] old.held.capacity; ending = Given Cancelled } → Becomes old GivesUp new
  gives_up_become old new is c shows =
      let here : Shows (record old { held = buffer [] old.held.capacity; ending = Given Cancelled }) (record c { given_up = true }) = record {
        capacity = shows.capacity;
        policy = shows.policy;
        values = refl;
        taken = shows.taken;
        dropped = shows.dropped;
        rising = all_rise (record c { given_up = true });
        within = omega arith;
        ordered = shows.ordered;
        gave_up = λ gave. refl;
      } in
      (record c { given_up = true }, refl, subst (λ r. Shows r (record c { given_up = true })) (sym is) here)

  -- once none is held, each produced value was taken or dropped
  pub all_told : (s : Store T E) (c : Contents T) → s.held.items ≡ [] → Shows s c → IsAllTold c
  all_told s c empty shows alive =
      let many : length (stored_of c) ≡ 0 = sym (length-map (stored_of c) (λ (e : ℕ × T). e.1)) ∙ ap length (shows.values ∙ empty) in
      let same : stored_of c ≡ picked is_stored 0 c.history = ap (λ b. cond b [] (picked is_stored 0 c.history)) alive in
      let none : length (picked is_stored 0 c.history) ≡ 0 = ap length (sym same) ∙ many in
      omega (arith, all_fates 0 c.history)
