-- Each step of the feed and of the drain keeps the rule of the buffer.
use Rattle.std.proofs.Common.{◌≡◌, ◌≢◌, ℕ, zero, suc, ◌+◌, ◌≤◌, arith, Option, Some, None, Bool, true, false, true≢false, cond, List, [], ◌∷◌, ◌++◌, map, length, set, sym, refl, ap, ◌∙◌, subst, inl, inr, ⊎_elim, append_assoc, append-nil, length-append, zero-add}
use Rattle.std.proofs.lemmas.List.{map-append, length-map}
use mathlib.Core.Option.{some, some-ne-none, some-injective}
use lib.ListN.{get_elem?}
use Rattle.crossbeam_channel.specs.Fifo.{Pushes, Pops, Forks, Merges, Learns, Held as HeldAt}
use Rattle.atomic_table.proofs.Lists.{at_set, at_snoc}
use Rattle.flow_buffer.specs.declared.side.Fate.{Fate}
use Rattle.flow_buffer.specs.declared.side.Fate.TheVariants.{Taken, Stored, Dropped}
use Rattle.cold_flow.specs.declared.cause.Cause.{Cause}
use Rattle.cold_flow.specs.declared.event.Event.{Event}
use Rattle.cold_flow.specs.declared.event.Event.TheVariants.{Value, End}
use Rattle.flow_buffer.specs.declared.side.Level.{Level}
use Rattle.flow_buffer.specs.declared.side.Side.{Side}
use Rattle.flow_buffer.specs.History.{is_taken, is_stored, is_dropped, picked, marked, Rises}
use Rattle.flow_buffer.specs.Sides.{WasFull}
use Rattle.flow_buffer.specs.Channel.{Buffers, FitsFeed, FitsLevel, FitsSeen, IsLevel, FitsDrain, IsLast, Sends, Overwrites, Takes, Looks, at_first, less_one, feed_side, drain_side, fresh_side, spare_side, missed_side, joined_side, Agree}
use Rattle.flow_buffer.proofs.Histories.{append_left, append_right, picked-append, picked_same, picked-rises, picked-alike, marked-middle, Front, first_held, turned, turned-length, turned-parts, turned-picked}

module _ {T : Type 0} where
  unmarked : (l : List (Fate × T)) → marked l ≡ [] → l ≡ []
  unmarked [] e = refl
  unmarked (x ∷ l) e = cc

  -- one entry more
  marked_more : (decided pending : List (Fate × T)) (e : Fate × T) → marked (decided ++ (pending ++ e ∷ [])) ≡ marked (decided ++ pending) ++ (is_dropped e.0, e.1) ∷ []
  marked_more decided pending e = ap marked (sym (append_assoc decided pending (e ∷ []))) ∙ marked-middle (decided ++ pending) e []

  picked_more : (p : Fate → Bool) (decided pending : List (Fate × T)) (e : Fate × T) → p e.0 ≡ false → picked p 0 (decided ++ (pending ++ e ∷ [])) ≡ picked p 0 (decided ++ pending)
  picked_more p decided pending e without = ap (picked p 0) (sym (append_assoc decided pending (e ∷ []))) ∙ picked_same p 0 (decided ++ pending) e without

module _ {T E : Type 0} where
  at_end : (l : List (Side T E)) (a b : Side T E) (j : ℕ) → get_elem? l j ≢ some b → get_elem? (l ++ a ∷ []) j ≡ some b → j ≡ length l
  at_end [] a b zero n e = refl
  at_end [] a b (suc j) n e = absurd (some-ne-none b (sym e))
  at_end (x ∷ xs) a b zero n e = absurd (n e)
  at_end (x ∷ xs) a b (suc j) n e = ap suc (at_end xs a b j n e)

  only : (pass : ℕ) (a v : Side T E) → get_elem? (a ∷ []) pass ≡ some v → (pass ≡ 0) × (a ≡ v)
  only zero a v e = (refl, some-injective a v e)
  only (suc pass) a v e = absurd (some-ne-none v (sym e))

  abbrev All : (ℕ → Side T E → Type 0) → List (Side T E) → Type 0
  All F views = (pass : ℕ) (v : Side T E) → get_elem? views pass ≡ some v → F pass v

  all_set : (F : ℕ → Side T E → Type 0) (views : List (Side T E)) (pass : ℕ) (w : Side T E) → F pass w → ((j : ℕ) (u : Side T E) → j ≢ pass → get_elem? views j ≡ some u → F j u) → All F (set views pass w)
  all_set F views pass w mine others j u e = ⊎_elim (λ (x : (j ≡ pass) × (w ≡ u)). subst (λ (y : ℕ × Side T E). F y.0 y.1) (λ i. (sym x.0 i, x.1 i)) mine)
      (λ (x : (j ≢ pass) × (get_elem? views j ≡ some u)). others j u x.0 x.1) (at_set views pass j w u e)

  all_snoc : (F : ℕ → Side T E → Type 0) (views : List (Side T E)) (w : Side T E) → ((j : ℕ) → F j w) → All F views → All F (views ++ w ∷ [])
  all_snoc F views w new all j u e = ⊎_elim (λ (x : get_elem? views j ≡ some u). all j u x) (λ (x : w ≡ u). subst (F j) x (new j)) (at_snoc views w u j e)

  -- a pass that is no feed fits any feed
  no_feed : (feed : ℕ) (lossy : Bool) (sent : Option (Cause E)) (produced : List (Bool × T)) (pass : ℕ) (v : Side T E) → v.feeds ≡ false → FitsFeed feed lossy sent produced pass v
  no_feed feed lossy sent produced pass v without does = absurd (true≢false (sym does ∙ without))

  no_level : (level : Level) (pass : ℕ) (v : Side T E) → v.feeds ≡ false → FitsLevel level pass v
  no_level level pass v without does = absurd (true≢false (sym does ∙ without))

  no_sight : (seen pass : ℕ) (v : Side T E) → v.drains ≡ false → FitsSeen seen pass v
  no_sight seen pass v without does = absurd (true≢false (sym does ∙ without))

  no_drain : (drain : ℕ) (lossy : Bool) (sent : Option (Cause E)) (taken : List (ℕ × T)) (history : List (Fate × T)) (pass : ℕ) (v : Side T E) → v.drains ≡ false → FitsDrain drain lossy sent taken history pass v
  no_drain drain lossy sent taken history pass v without does = absurd (true≢false (sym does ∙ without))

  -- before the end no drain has it, whatever the feed does
  reopens : (drain : ℕ) (lossy : Bool) (sent sent' : Option (Cause E)) (taken : List (ℕ × T)) (history history' : List (Fate × T)) (views : List (Side T E)) → sent ≡ None → All (FitsDrain drain lossy sent taken history) views → All (FitsDrain drain lossy sent' taken history') views
  reopens drain lossy sent sent' taken history history' views unsent all pass v e does =
      let was = all pass v e does in (was.0, was.1, was.2, λ known. absurd (known ((was.3 known).0 ∙ unsent)))

  module _ (views : List (Side T E)) (pass : ℕ) (v w : Side T E) (at : get_elem? views pass ≡ some v) where
    -- the feed's view changes, and with it what was produced
    fed : (feed : ℕ) (lossy : Bool) (sent sent' : Option (Cause E)) (produced produced' : List (Bool × T)) → v.feeds ≡ true → All (FitsFeed feed lossy sent produced) views → FitsFeed feed lossy sent' produced' feed w → All (FitsFeed feed lossy sent' produced') (set views pass w)
    fed feed lossy sent sent' produced produced' feeds all fits = let mine = all pass v at feeds in
        all_set (FitsFeed feed lossy sent' produced') views pass w (subst (λ (p : ℕ). FitsFeed feed lossy sent' produced' p w) (sym mine.0) fits)
        (λ j u other e does. absurd (other ((all j u e does).0 ∙ sym mine.0)))

    -- what it knows of the channel's content then
    leveled : (level : Level) (feed : ℕ) (lossy : Bool) (sent : Option (Cause E)) (produced : List (Bool × T)) → v.feeds ≡ true → All (FitsFeed feed lossy sent produced) views → FitsLevel level pass w → All (FitsLevel level) (set views pass w)
    leveled level feed lossy sent produced feeds all fits = let mine = all pass v at feeds in
        all_set (FitsLevel level) views pass w fits (λ j u other e does. absurd (other ((all j u e does).0 ∙ sym mine.0)))

    -- the same of the drain
    drained : (drain : ℕ) (lossy : Bool) (sent : Option (Cause E)) (taken taken' : List (ℕ × T)) (history history' : List (Fate × T)) → v.drains ≡ true → All (FitsDrain drain lossy sent taken history) views → FitsDrain drain lossy sent taken' history' drain w → All (FitsDrain drain lossy sent taken' history') (set views pass w)
    drained drain lossy sent taken taken' history history' drains all fits = let mine = all pass v at drains in
        all_set (FitsDrain drain lossy sent taken' history') views pass w (subst (λ (p : ℕ). FitsDrain drain lossy sent taken' history' p w) (sym mine.0) fits)
        (λ j u other e does. absurd (other ((all j u e does).0 ∙ sym mine.0)))

    -- after how many puts it took the last value
    sighted : (seen drain : ℕ) (lossy : Bool) (sent : Option (Cause E)) (taken : List (ℕ × T)) (history : List (Fate × T)) → v.drains ≡ true → All (FitsDrain drain lossy sent taken history) views → FitsSeen seen pass w → All (FitsSeen seen) (set views pass w)
    sighted seen drain lossy sent taken history drains all fits = let mine = all pass v at drains in
        all_set (FitsSeen seen) views pass w fits (λ j u other e does. absurd (other ((all j u e does).0 ∙ sym mine.0)))

    -- what the other side knows stays
    others_feed : (feed : ℕ) (lossy : Bool) (sent : Option (Cause E)) (produced : List (Bool × T)) → w.feeds ≡ false → All (FitsFeed feed lossy sent produced) views → All (FitsFeed feed lossy sent produced) (set views pass w)
    others_feed feed lossy sent produced without all = all_set (FitsFeed feed lossy sent produced) views pass w (no_feed feed lossy sent produced pass w without) (λ j u other e. all j u e)

    others_level : (level : Level) → w.feeds ≡ false → All (FitsLevel level) views → All (FitsLevel level) (set views pass w)
    others_level level without all = all_set (FitsLevel level) views pass w (no_level level pass w without) (λ j u other e. all j u e)

    others_sight : (seen : ℕ) → w.drains ≡ false → All (FitsSeen seen) views → All (FitsSeen seen) (set views pass w)
    others_sight seen without all = all_set (FitsSeen seen) views pass w (no_sight seen pass w without) (λ j u other e. all j u e)

    others_drain : (drain : ℕ) (lossy : Bool) (sent : Option (Cause E)) (taken : List (ℕ × T)) (history : List (Fate × T)) → w.drains ≡ false → All (FitsDrain drain lossy sent taken history) views → All (FitsDrain drain lossy sent taken history) (set views pass w)
    others_drain drain lossy sent taken history without all = all_set (FitsDrain drain lossy sent taken history) views pass w (no_drain drain lossy sent taken history pass w without) (λ j u other e. all j u e)

  feeds_is : (v : Side T E) → v ≡ feed_side v.lossy None v.produced v.level → v.feeds ≡ true
  feeds_is v is = ap (λ (s : Side T E). s.feeds) is

  open_is : (v : Side T E) → v ≡ feed_side v.lossy None v.produced v.level → v.sent ≡ None
  open_is v is = ap (λ (s : Side T E). s.sent) is

  -- a feed that may drop
  lossy_is : (v : Side T E) → v ≡ feed_side true None v.produced v.level → (v ≡ feed_side v.lossy None v.produced v.level) × (v.lossy ≡ true)
  lossy_is v is = let may = ap (λ (s : Side T E). s.lossy) is in (is ∙ ap (λ b. feed_side b None v.produced v.level) (sym may), may)

  values : List (ℕ × T) → List (Event T E)
  values = map (λ e. Value e.1)

  -- before the end nothing follows the values
  no_end : (sent : Option (Cause E)) (last : List (Event T E)) → sent ≡ None → IsLast sent last → last ≡ []
  no_end sent last unsent (inl none) = none
  no_end sent last unsent (inr e) = let is = e.1 in cc

  pub begins : Buffers {T = T} {E = E} [] (fresh_side ∷ [])
  begins = record {
    feed = 0;
    drain = 0;
    lossy = false;
    sent = None;
    decided = [];
    pending = [];
    last = [];
    level = at_first;
    seen = 0;
    holds = refl;
    ends = inl refl;
    below = refl;
    above = refl;
    lossless = λ _. refl;
    feeds = λ pass v e does. let o = only pass fresh_side v e in (o.0, ap (λ (s : Side T E). s.lossy) (sym o.1), ap (λ (s : Side T E). s.sent) (sym o.1), ap (λ (s : Side T E). s.produced) (sym o.1));
    levels = λ pass v e does. ap (λ (s : Side T E). s.level) (sym (only pass fresh_side v e).1);
    sights = λ pass v e does. ap (λ (s : Side T E). s.seen) (sym (only pass fresh_side v e).1);
    counts = λ _. (omega arith, omega arith, λ _. refl);
    drains = λ pass v e does. let o = only pass fresh_side v e in (o.0, ap (λ (s : Side T E). s.lossy) (sym o.1), ap (λ (s : Side T E). s.taken) (sym o.1), λ known. absurd (known (ap (λ (s : Side T E). s.got) (sym o.1))));
  }

  held_more : (n : ℕ) (pending : List (Fate × T)) (x : T) → values (picked is_stored n (pending ++ (Stored, x) ∷ [])) ≡ values (picked is_stored n pending) ++ Value x ∷ []
  unfolding values
  held_more n pending x = ap values (picked-append is_stored n pending ((Stored, x) ∷ [])) ∙ map-append (λ (e : ℕ × T). Value e.1) (picked is_stored n pending) ((n + length pending, x) ∷ [])

  -- steps of the feed before the end
  module _ (pass : ℕ) (v : Side T E) (is : v ≡ feed_side v.lossy None v.produced v.level) where
    module _ (items : List (Event T E)) (views : List (Side T E)) (h : Buffers items views) (at : get_elem? views pass ≡ some v) where
      unsent : h.sent ≡ None
      unsent = let mine = h.feeds pass v at (feeds_is v is) in sym mine.2 ∙ open_is v is

      nothing_last : h.last ≡ []
      nothing_last = no_end h.sent h.last unsent h.ends

      all_values : items ≡ values (picked is_stored (length h.decided) h.pending)
      unfolding values
      all_values = h.holds ∙ (ap (λ l. values (picked is_stored (length h.decided) h.pending) ++ l) nothing_last ∙ append-nil (values (picked is_stored (length h.decided) h.pending)))

      level_is : v.level ≡ h.level
      level_is = h.levels pass v at (feeds_is v is)

      counted : IsLevel (length items) h.seen v.level
      counted = subst (IsLevel (length items) h.seen) (sym level_is) (h.counts unsent)

    -- a value joins at the back
    pub sends : (n : ℕ) (x : T) → Pushes (Buffers {T = T} {E = E}) n pass v (Value x) (Sends {E = E} v (Value x))
    unfolding values
    sends n x items views room h at =
        let mine = h.feeds pass v at (feeds_is v is) in
        let w : Side T E = feed_side v.lossy None (v.produced ++ (false, x) ∷ []) (record { puts = v.level.puts + 1; held = length items + 1 }) in
        let was = counted items views h at in
        let before : h.seen ≤ v.level.puts = was.0 in
        let fewer : length items ≤ v.level.held = was.1 in
        let more : length (items ++ Value x ∷ []) ≡ length items + 1 = length-append items (Value x ∷ []) in
        let pending : List (Fate × T) = h.pending ++ (Stored, x) ∷ [] in (
          w,
          record {
            feed = h.feed;
            drain = h.drain;
            lossy = h.lossy;
            sent = None;
            decided = h.decided;
            pending = pending;
            last = [];
            holds = ap (λ t. t ++ Value x ∷ []) (all_values items views h at) ∙ (sym (held_more (length h.decided) h.pending x) ∙ sym (append-nil (values (picked is_stored (length h.decided) pending))));
            ends = inl refl;
            below = h.below;
            above = picked_same is_taken (length h.decided) h.pending (Stored, x) refl ∙ h.above;
            lossless = λ free. picked_more is_dropped h.decided h.pending (Stored, x) refl ∙ h.lossless free;
            feeds = fed views pass v w at h.feed h.lossy h.sent None (marked (h.decided ++ h.pending)) (marked (h.decided ++ pending)) (feeds_is v is) h.feeds
                (λ _. (refl, mine.1, refl, ap (λ t. t ++ (false, x) ∷ []) mine.3 ∙ sym (marked_more h.decided h.pending (Stored, x))));
            level = w.level;
            seen = h.seen;
            levels = leveled views pass v w at w.level h.feed h.lossy h.sent (marked (h.decided ++ h.pending)) (feeds_is v is) h.feeds (λ _. refl);
            sights = others_sight views pass v w at h.seen refl h.sights;
            counts = λ _. (omega arith, omega arith, λ _. more);
            drains = reopens h.drain h.lossy h.sent None (picked is_taken 0 h.decided) (h.decided ++ h.pending) (h.decided ++ pending) (set views pass w) (unsent items views h at)
                (others_drain views pass v w at h.drain h.lossy h.sent (picked is_taken 0 h.decided) (h.decided ++ h.pending) refl h.drains);
          },
          (refl, refl, omega arith),
        )

    -- the end is sent
    pub closes : (n : ℕ) (cause : Cause E) → Pushes (Buffers {T = T} {E = E}) n pass v (End cause) (Sends {E = E} v (End cause))
    unfolding values
    closes n cause items views room h at =
        let mine = h.feeds pass v at (feeds_is v is) in
        let w : Side T E = feed_side v.lossy (Some cause) v.produced v.level in (
          w,
          record {
            feed = h.feed;
            drain = h.drain;
            lossy = h.lossy;
            sent = Some cause;
            decided = h.decided;
            pending = h.pending;
            last = End cause ∷ [];
            holds = ap (λ t. t ++ End cause ∷ []) (all_values items views h at);
            ends = inr (cause, refl, refl);
            below = h.below;
            above = h.above;
            lossless = h.lossless;
            feeds = fed views pass v w at h.feed h.lossy h.sent (Some cause) (marked (h.decided ++ h.pending)) (marked (h.decided ++ h.pending)) (feeds_is v is) h.feeds (λ _. (refl, mine.1, refl, mine.3));
            level = h.level;
            seen = h.seen;
            levels = leveled views pass v w at h.level h.feed h.lossy h.sent (marked (h.decided ++ h.pending)) (feeds_is v is) h.feeds (λ _. level_is items views h at);
            sights = others_sight views pass v w at h.seen refl h.sights;
            counts = λ unsent. let not : Some cause ≡ None = unsent in cc;
            drains = reopens h.drain h.lossy h.sent (Some cause) (picked is_taken 0 h.decided) (h.decided ++ h.pending) (h.decided ++ h.pending) (set views pass w) (unsent items views h at)
                (others_drain views pass v w at h.drain h.lossy h.sent (picked is_taken 0 h.decided) (h.decided ++ h.pending) refl h.drains);
          },
          refl,
        )

    -- what the channel holds are values of the history
    pub looks : Learns (Buffers {T = T} {E = E}) pass v (Looks v)
    unfolding values
    looks items views h at = let mine = h.feeds pass v at (feeds_is v is) in (
      h.decided ++ h.pending,
      sym mine.3,
      all_values items views h at
          ∙ sym (ap values (picked-append is_stored 0 h.decided h.pending
          ∙ (ap (λ t. t ++ picked is_stored (0 + length h.decided) h.pending) h.below ∙ ap (λ n. picked is_stored n h.pending) (zero-add (length h.decided))))),
      (counted items views h at).1,
    )

    -- a new value is dropped
    pub misses : (x : T) → v.lossy ≡ true → Forks (Buffers {T = T} {E = E}) pass v (feed_side v.lossy None (v.produced ++ (true, x) ∷ []) v.level) spare_side
    unfolding values
    misses x may items views h at =
        let mine = h.feeds pass v at (feeds_is v is) in
        let w : Side T E = feed_side v.lossy None (v.produced ++ (true, x) ∷ []) v.level in
        let pending : List (Fate × T) = h.pending ++ (Dropped, x) ∷ [] in
        let made = marked (h.decided ++ pending) in record {
          feed = h.feed;
          drain = h.drain;
          lossy = h.lossy;
          sent = None;
          decided = h.decided;
          pending = pending;
          last = [];
          holds = all_values items views h at ∙ (sym (ap values (picked_same is_stored (length h.decided) h.pending (Dropped, x) refl)) ∙ sym (append-nil (values (picked is_stored (length h.decided) pending))));
          ends = inl refl;
          below = h.below;
          above = picked_same is_taken (length h.decided) h.pending (Dropped, x) refl ∙ h.above;
          lossless = λ free. absurd (true≢false (sym may ∙ (mine.1 ∙ free)));
          feeds = all_snoc (FitsFeed h.feed h.lossy None made) (set views pass w) spare_side (λ j. no_feed h.feed h.lossy None made j spare_side refl)
              (fed views pass v w at h.feed h.lossy h.sent None (marked (h.decided ++ h.pending)) made (feeds_is v is) h.feeds
              (λ _. (refl, mine.1, refl, ap (λ t. t ++ (true, x) ∷ []) mine.3 ∙ sym (marked_more h.decided h.pending (Dropped, x)))));
          level = h.level;
          seen = h.seen;
          levels = all_snoc (FitsLevel h.level) (set views pass w) spare_side (λ j. no_level h.level j spare_side refl)
              (leveled views pass v w at h.level h.feed h.lossy h.sent (marked (h.decided ++ h.pending)) (feeds_is v is) h.feeds (λ _. level_is items views h at));
          sights = all_snoc (FitsSeen h.seen) (set views pass w) spare_side (λ j. no_sight h.seen j spare_side refl) (others_sight views pass v w at h.seen refl h.sights);
          counts = λ _. h.counts (unsent items views h at);
          drains = all_snoc (FitsDrain h.drain h.lossy None (picked is_taken 0 h.decided) (h.decided ++ pending)) (set views pass w) spare_side (λ j. no_drain h.drain h.lossy None (picked is_taken 0 h.decided) (h.decided ++ pending) j spare_side refl)
              (reopens h.drain h.lossy h.sent None (picked is_taken 0 h.decided) (h.decided ++ h.pending) (h.decided ++ pending) (set views pass w) (unsent items views h at)
              (others_drain views pass v w at h.drain h.lossy h.sent (picked is_taken 0 h.decided) (h.decided ++ h.pending) refl h.drains));
        }

  -- a message leaves at the front: a value, or the end after the last value
  module _ (items : List (Event T E)) (views : List (Side T E)) (item : Event T E) (h : Buffers (item ∷ items) views) where
    record Leaves (i : ℕ) (x : T) (rest : List (ℕ × T)) : Type 0 where
      item_is : item ≡ Value x
      items_are : items ≡ values rest ++ h.last
      front : Front (length h.decided) h.pending i x rest

    leaves : (i : ℕ) (x : T) (rest : List (ℕ × T)) → picked is_stored (length h.decided) h.pending ≡ (i, x) ∷ rest → Leaves i x rest
    unfolding values
    leaves i x rest is =
        let all : item ∷ items ≡ Value x ∷ (values rest ++ h.last) = h.holds ∙ ap (λ t. values t ++ h.last) is in record {
          item_is = cc;
          items_are = cc;
          front = first_held (length h.decided) h.pending i x rest is;
        }

    only_last : picked is_stored (length h.decided) h.pending ≡ [] → item ∷ items ≡ h.last
    unfolding values
    only_last is = h.holds ∙ ap (λ t. values t ++ h.last) is

    end_cases : item ∷ items ≡ h.last → IsLast h.sent h.last → (cause : Cause E) × (h.sent ≡ Some cause) × (item ≡ End cause) × (items ≡ [])
    end_cases is (inl none) = cc
    end_cases is (inr e) = let all : item ∷ items ≡ End e.0 ∷ [] = is ∙ e.2 in (e.0, e.1, cc, cc)

    ended_is : item ∷ items ≡ h.last → (cause : Cause E) × (h.sent ≡ Some cause) × (item ≡ End cause) × (items ≡ [])
    ended_is is = end_cases is h.ends

    -- the value that leaves gets the fate, and is decided
    module _ (i : ℕ) (x : T) (rest : List (ℕ × T)) (l : Leaves i x rest) (f : Fate) (fate_is : is_stored f ≡ false) where
      now_decided : List (Fate × T)
      now_decided = turned h.decided l.front.before f x

      decided_length : length now_decided ≡ i + 1
      unfolding now_decided
      decided_length = turned-length h.decided l.front.before f x ∙ ap (λ n. n + 1) (sym l.front.at)

      nothing_before : picked is_taken (length h.decided) l.front.before ≡ []
      nothing_before = append_left (picked is_taken (length h.decided) l.front.before) (picked is_taken (length h.decided + length l.front.before) ((Stored, x) ∷ l.front.after))
          (sym (picked-append is_taken (length h.decided) l.front.before ((Stored, x) ∷ l.front.after)) ∙ (ap (picked is_taken (length h.decided)) (sym l.front.parts) ∙ h.above))

      nothing_after : picked is_taken (i + 1) l.front.after ≡ []
      nothing_after = ap (λ n. picked is_taken (n + 1) l.front.after) l.front.at
          ∙ append_right (picked is_taken (length h.decided) l.front.before) (picked is_taken (length h.decided + length l.front.before) ((Stored, x) ∷ l.front.after))
          (sym (picked-append is_taken (length h.decided) l.front.before ((Stored, x) ∷ l.front.after)) ∙ (ap (picked is_taken (length h.decided)) (sym l.front.parts) ∙ h.above))

      now_holds : items ≡ values (picked is_stored (length now_decided) l.front.after) ++ h.last
      unfolding values
      now_holds = l.items_are ∙ ap (λ t. values t ++ h.last) (sym l.front.others ∙ ap (λ n. picked is_stored n l.front.after) (sym decided_length))

      now_below : picked is_stored 0 now_decided ≡ []
      unfolding now_decided
      now_below = turned-picked h.decided l.front.before f x is_stored ∙ rw (h.below, l.front.none, fate_is) refl

      now_above : picked is_taken (length now_decided) l.front.after ≡ []
      now_above = ap (λ n. picked is_taken n l.front.after) decided_length ∙ nothing_after

      now_parts : now_decided ++ l.front.after ≡ h.decided ++ (l.front.before ++ (f, x) ∷ l.front.after)
      unfolding now_decided
      now_parts = turned-parts h.decided l.front.before f x l.front.after

      were_parts : h.decided ++ h.pending ≡ h.decided ++ (l.front.before ++ (Stored, x) ∷ l.front.after)
      were_parts = ap (λ t. h.decided ++ t) l.front.parts

      now_taken : picked is_taken 0 now_decided ≡ picked is_taken 0 h.decided ++ cond (is_taken f) ((i, x) ∷ []) []
      unfolding now_decided
      now_taken = turned-picked h.decided l.front.before f x is_taken
          ∙ (ap (λ t. picked is_taken 0 h.decided ++ (t ++ cond (is_taken f) ((length h.decided + length l.front.before, x) ∷ []) [])) nothing_before
          ∙ ap (λ n. picked is_taken 0 h.decided ++ cond (is_taken f) ((n, x) ∷ []) []) (sym l.front.at))

      -- where the fate is no drop, what was dropped stays
      alike : (p : Fate → Bool) → p f ≡ p Stored → picked p 0 (now_decided ++ l.front.after) ≡ picked p 0 (h.decided ++ h.pending)
      alike p same = ap (picked p 0) (now_parts ∙ sym (append_assoc h.decided l.front.before ((f, x) ∷ l.front.after)))
          ∙ (picked-alike p f Stored same 0 (h.decided ++ l.front.before) x l.front.after
          ∙ ap (picked p 0) (append_assoc h.decided l.front.before ((Stored, x) ∷ l.front.after) ∙ sym were_parts))

      now_marked : marked (now_decided ++ l.front.after) ≡ marked (h.decided ++ l.front.before) ++ (is_dropped f, x) ∷ marked l.front.after
      now_marked = ap marked (now_parts ∙ sym (append_assoc h.decided l.front.before ((f, x) ∷ l.front.after))) ∙ marked-middle (h.decided ++ l.front.before) (f, x) l.front.after

      were_marked : marked (h.decided ++ h.pending) ≡ marked (h.decided ++ l.front.before) ++ (false, x) ∷ marked l.front.after
      were_marked = ap marked (were_parts ∙ sym (append_assoc h.decided l.front.before ((Stored, x) ∷ l.front.after))) ∙ marked-middle (h.decided ++ l.front.before) (Stored, x) l.front.after

      -- the record after the step, from what the sides know then
      after_leaving : (views' : List (Side T E)) (level : Level) (seen : ℕ) (lossless : h.lossy ≡ false → picked is_dropped 0 (now_decided ++ l.front.after) ≡ []) → All (FitsFeed h.feed h.lossy h.sent (marked (now_decided ++ l.front.after))) views'
          → All (FitsLevel level) views' → All (FitsSeen seen) views' → (h.sent ≡ None → IsLevel (length items) seen level)
          → All (FitsDrain h.drain h.lossy h.sent (picked is_taken 0 now_decided) (now_decided ++ l.front.after)) views' → Buffers items views'
      unfolding values
      after_leaving views' level seen lossless feeds levels sights counts drains = record {
        feed = h.feed;
        drain = h.drain;
        lossy = h.lossy;
        sent = h.sent;
        decided = now_decided;
        pending = l.front.after;
        last = h.last;
        holds = now_holds;
        ends = h.ends;
        below = now_below;
        above = now_above;
        lossless = lossless;
        feeds = feeds;
        level = level;
        seen = seen;
        levels = levels;
        sights = sights;
        counts = counts;
        drains = drains;
      }

    halves : (p : Fate → Bool) → picked p 0 (h.decided ++ h.pending) ≡ picked p 0 h.decided ++ picked p (length h.decided) h.pending
    halves p = picked-append p 0 h.decided h.pending ∙ ap (λ n. picked p 0 h.decided ++ picked p n h.pending) (zero-add (length h.decided))

    -- the drain takes it
    module _ (pass : ℕ) (v : Side T E) (is : v ≡ drain_side v.lossy None v.taken v.history v.seen) (at : get_elem? views pass ≡ some v) where
      drains_is : v.drains ≡ true
      drains_is = ap (λ (s : Side T E). s.drains) is

      mine_is : (pass ≡ h.drain) × (v.lossy ≡ h.lossy) × (v.taken ≡ picked is_taken 0 h.decided)
      mine_is = let mine = h.drains pass v at drains_is in (mine.0, mine.1, mine.2)

      takes_value : (i : ℕ) (x : T) (rest : List (ℕ × T)) → Leaves i x rest → (w : Side T E) × Buffers items (set views pass w) × Takes v item w
      takes_value i x rest l =
          let w : Side T E = drain_side v.lossy None (v.taken ++ (i, x) ∷ []) v.history h.level.puts in
          let decided = now_decided i x rest l Taken refl in
          let taken_is : picked is_taken 0 decided ≡ w.taken = now_taken i x rest l Taken refl ∙ ap (λ t. t ++ (i, x) ∷ []) (sym mine_is.2) in
          let P : Event T E → Type 0 = λ y. (w : Side T E) × Buffers items (set views pass w) × Takes v y w in
          subst P (sym l.item_is) (
            w,
            after_leaving i x rest l Taken refl (set views pass w) h.level h.level.puts
                (λ free. alike i x rest l Taken refl is_dropped refl ∙ h.lossless free)
                (subst (λ (t : List (Bool × T)). All (FitsFeed h.feed h.lossy h.sent t) (set views pass w)) (were_marked i x rest l Taken refl ∙ sym (now_marked i x rest l Taken refl))
                (others_feed views pass v w at h.feed h.lossy h.sent (marked (h.decided ++ h.pending)) refl h.feeds))
                (others_level views pass v w at h.level refl h.levels)
                (sighted views pass v w at h.level.puts h.drain h.lossy h.sent (picked is_taken 0 h.decided) (h.decided ++ h.pending) drains_is h.drains (λ _. refl))
                (λ open_now. let was : length (item ∷ items) ≤ h.level.held = (h.counts open_now).1 in (omega arith, omega arith, λ later. omega arith))
                (drained views pass v w at h.drain h.lossy h.sent (picked is_taken 0 h.decided) (picked is_taken 0 decided) (h.decided ++ h.pending) (decided ++ l.front.after) drains_is h.drains (λ _. (refl, mine_is.1, sym taken_is, λ known. absurd (known refl)))),
            ((i, refl), subst (λ (t : List (ℕ × T)). Rises 0 t) taken_is (picked-rises is_taken 0 decided)),
          )

      takes_end : picked is_stored (length h.decided) h.pending ≡ [] → (w : Side T E) × Buffers items (set views pass w) × Takes v item w
      unfolding values
      takes_end none =
          let e = ended_is (only_last none) in
          let history : List (Fate × T) = h.decided ++ h.pending in
          let w : Side T E = drain_side v.lossy (Some e.0) v.taken history v.seen in
          let P : Event T E → Type 0 = λ y. (w : Side T E) × Buffers items (set views pass w) × Takes v y w in
          subst P (sym e.2) (
            w,
            record {
              feed = h.feed;
              drain = h.drain;
              lossy = h.lossy;
              sent = h.sent;
              decided = h.decided;
              pending = h.pending;
              last = [];
              holds = e.3 ∙ sym (ap (λ t. values t ++ []) none);
              ends = inl refl;
              below = h.below;
              above = h.above;
              lossless = h.lossless;
              feeds = others_feed views pass v w at h.feed h.lossy h.sent (marked history) refl h.feeds;
              level = h.level;
              seen = h.seen;
              levels = others_level views pass v w at h.level refl h.levels;
              sights = sighted views pass v w at h.seen h.drain h.lossy h.sent (picked is_taken 0 h.decided) (h.decided ++ h.pending) drains_is h.drains (λ _. h.sights pass v at drains_is);
              counts = λ unsent. let both : Some e.0 ≡ None = sym e.1 ∙ unsent in cc;
              drains = drained views pass v w at h.drain h.lossy h.sent (picked is_taken 0 h.decided) (picked is_taken 0 h.decided) history history drains_is h.drains (λ _. (refl, mine_is.1, mine_is.2, λ _. (sym e.1, refl)));
            },
            (
              refl,
              (
                halves is_stored ∙ rw (h.below, none) refl,
                halves is_taken ∙ (ap (λ t. picked is_taken 0 h.decided ++ t) h.above ∙ (append-nil (picked is_taken 0 h.decided) ∙ sym mine_is.2)),
                λ free. h.lossless (sym mine_is.1 ∙ free),
              ),
            ),
          )

      takes_by : (front : List (ℕ × T)) → picked is_stored (length h.decided) h.pending ≡ front → (w : Side T E) × Buffers items (set views pass w) × Takes v item w
      takes_by [] is = takes_end is
      takes_by ((i, x) ∷ rest) is = takes_value i x rest (leaves i x rest is)

    -- the feed takes it
    module _ (pass : ℕ) (v : Side T E) (is : v ≡ feed_side v.lossy None v.produced v.level) (may : v.lossy ≡ true) (at : get_elem? views pass ≡ some v) where
      overwrites_value : (i : ℕ) (x : T) (rest : List (ℕ × T)) → Leaves i x rest → (w : Side T E) × Buffers items (set views pass w) × Overwrites v item w
      overwrites_value i x rest l =
          let mine = h.feeds pass v at (feeds_is v is) in
          let decided = now_decided i x rest l Dropped refl in
          let w : Side T E = feed_side v.lossy None (marked (decided ++ l.front.after)) (less_one v.level) in
          let was : IsLevel (length (item ∷ items)) h.seen v.level = counted pass v is (item ∷ items) views h at in
          let before : h.seen ≤ v.level.puts = was.0 in
          let fewer : length (item ∷ items) ≤ v.level.held = was.1 in (
            w,
            after_leaving i x rest l Dropped refl (set views pass w) (less_one v.level) h.seen
                (λ free. absurd (true≢false (sym may ∙ (mine.1 ∙ free))))
                (fed views pass v w at h.feed h.lossy h.sent h.sent (marked (h.decided ++ h.pending)) (marked (decided ++ l.front.after)) (feeds_is v is) h.feeds (λ _. (refl, mine.1, sym (open_is v is) ∙ mine.2, refl)))
                (leveled views pass v w at (less_one v.level) h.feed h.lossy h.sent (marked (h.decided ++ h.pending)) (feeds_is v is) h.feeds (λ _. refl))
                (others_sight views pass v w at h.seen refl h.sights)
                (λ _. (before, omega arith, λ earlier. let same : length (item ∷ items) ≡ v.level.held = was.2 earlier in omega arith))
                (reopens h.drain h.lossy h.sent h.sent (picked is_taken 0 decided) (h.decided ++ h.pending) (decided ++ l.front.after) (set views pass w) (sym mine.2 ∙ open_is v is)
                (subst (λ (t : List (ℕ × T)). All (FitsDrain h.drain h.lossy h.sent t (h.decided ++ h.pending)) (set views pass w)) (sym (now_taken i x rest l Dropped refl ∙ append-nil (picked is_taken 0 h.decided)))
                (others_drain views pass v w at h.drain h.lossy h.sent (picked is_taken 0 h.decided) (h.decided ++ h.pending) refl h.drains))),
            (
              (marked (h.decided ++ l.front.before), x, marked l.front.after, mine.3 ∙ were_marked i x rest l Dropped refl, now_marked i x rest l Dropped refl),
              refl,
            ),
          )

      overwrites_by : (front : List (ℕ × T)) → picked is_stored (length h.decided) h.pending ≡ front → (w : Side T E) × Buffers items (set views pass w) × Overwrites v item w
      overwrites_by [] none = let mine = h.feeds pass v at (feeds_is v is) in let e = ended_is (only_last none) in let both : Some e.0 ≡ None = sym e.1 ∙ (sym mine.2 ∙ open_is v is) in cc
      overwrites_by ((i, x) ∷ rest) is = overwrites_value i x rest (leaves i x rest is)

  pub takes : (pass : ℕ) (v : Side T E) → v ≡ drain_side v.lossy None v.taken v.history v.seen → Pops (Buffers {T = T} {E = E}) pass v (Takes v)
  takes pass v is item items views h at = takes_by items views item h pass v is at (picked is_stored (length h.decided) h.pending) refl

  pub overwrites : (pass : ℕ) (v : Side T E) → v ≡ feed_side v.lossy None v.produced v.level → v.lossy ≡ true → Pops (Buffers {T = T} {E = E}) pass v (Overwrites v)
  overwrites pass v is may item items views h at = overwrites_by items views item h pass v is may at (picked is_stored (length h.decided) h.pending) refl

  -- the first pass becomes the feed's, and a new one is the drain's
  pub cuts : (pass : ℕ) (lossy : Bool) → Forks (Buffers {T = T} {E = E}) pass fresh_side (feed_side lossy None [] at_first) (drain_side lossy None [] [] 0)
  cuts pass lossy items views h at =
      let l : Side T E = feed_side lossy None [] at_first in
      let r : Side T E = drain_side lossy None [] [] 0 in
      let mine = h.feeds pass fresh_side at refl in
      let mine' = h.drains pass fresh_side at refl in
      let vs : List (Side T E) = set views pass l in
      let produced = marked (h.decided ++ h.pending) in
      let taken = picked is_taken 0 h.decided in
      let Old : ℕ → Side T E → Type 0 = λ j u. u.drains ≢ true in
      let old : All Old vs = all_set Old views pass l (λ e. true≢false (sym e)) (λ j u other e does. other ((h.drains j u e does).0 ∙ sym mine'.0)) in record {
        feed = h.feed;
        drain = length vs;
        lossy = lossy;
        sent = None;
        decided = h.decided;
        pending = h.pending;
        last = h.last;
        holds = h.holds;
        ends = inl (no_end h.sent h.last (sym mine.2) h.ends);
        below = h.below;
        above = h.above;
        lossless = λ _. ap (picked is_dropped 0) (unmarked (h.decided ++ h.pending) (sym mine.3));
        feeds = all_snoc (FitsFeed h.feed lossy None produced) vs r (λ j. no_feed h.feed lossy None produced j r refl)
            (all_set (FitsFeed h.feed lossy None produced) views pass l (λ _. (mine.0, refl, refl, mine.3)) (λ j u other e does. absurd (other ((h.feeds j u e does).0 ∙ sym mine.0))));
        level = h.level;
        seen = h.seen;
        levels = all_snoc (FitsLevel h.level) vs r (λ j. no_level h.level j r refl)
            (leveled views pass fresh_side l at h.level h.feed h.lossy h.sent produced refl h.feeds (λ _. h.levels pass fresh_side at refl));
        sights = all_snoc (FitsSeen h.seen) vs r (λ j _. h.sights pass fresh_side at refl) (others_sight views pass fresh_side l at h.seen refl h.sights);
        counts = λ _. h.counts (sym mine.2);
        drains = λ j u e. ⊎_elim (λ (was : get_elem? vs j ≡ some u). λ does. absurd (old j u was does))
            (λ (new : r ≡ u). λ does. (at_end vs r u j (λ was. old j u was does) e, ap (λ (s : Side T E). s.lossy) (sym new), ap (λ (s : Side T E). s.taken) (sym new) ∙ mine'.2, λ known. absurd (known (ap (λ (s : Side T E). s.got) (sym new))))) (at_snoc vs r u j e);
      }

  pub sends_item : (n pass : ℕ) (v : Side T E) → v ≡ feed_side v.lossy None v.produced v.level → (item : Event T E) → Pushes (Buffers {T = T} {E = E}) n pass v item (Sends v item)
  sends_item n pass v is (Value x) = sends pass v is n x
  sends_item n pass v is (End cause) = closes pass v is n cause

  -- a channel that was full held as many values as it has places, and so it did when the last one was put in
  pub was_full : (k : ℕ) (v : Side T E) → HeldAt k (Looks {E = E} v) → WasFull k v.produced × (k ≤ v.level.held)
  was_full k v held = let h = held.2 in
      let value : ℕ × T → Event T E = λ e. Value e.1 in ((h.0, h.1, sym (length-map (picked is_stored 0 h.0) value) ∙ (ap length (sym h.2) ∙ held.1)), subst (λ n. n ≤ v.level.held) held.1 h.3)

  pub overwrites_as : (pass : ℕ) (v : Side T E) → v ≡ feed_side true None v.produced v.level → Pops (Buffers {T = T} {E = E}) pass v (Overwrites v)
  overwrites_as pass v is = let l = lossy_is v is in overwrites pass v l.0 l.1

  pub misses_as : (pass : ℕ) (v : Side T E) → v ≡ feed_side true None v.produced v.level → (value : Option T) (x : T) → value ≡ Some x → Forks (Buffers {T = T} {E = E}) pass v (missed_side value v) spare_side
  misses_as pass v is value x picked_is = let l = lossy_is v is in
      let P : Option T → Type 0 = λ o. Forks (Buffers {T = T} {E = E}) pass v (missed_side o v) spare_side in
      subst P (sym picked_is) (misses pass v l.0 x l.1)

  pub cuts_as : (pass : ℕ) (lossy : Bool) (v : Side T E) → v ≡ fresh_side → Forks (Buffers {T = T} {E = E}) pass v (feed_side lossy None [] at_first) (drain_side lossy None [] [] 0)
  cuts_as pass lossy v is = let P : Side T E → Type 0 = λ s. Forks (Buffers {T = T} {E = E}) pass s (feed_side lossy None [] at_first) (drain_side lossy None [] [] 0) in
      subst P (sym is) (cuts pass lossy)

  -- the feed's pass takes in the drain's
  pub merges : (pass : ℕ) (v : Side T E) (other : ℕ) (u : Side T E) → v.feeds ≡ true → u.drains ≡ true → Merges (Buffers {T = T} {E = E}) pass v other u (joined_side v u) spare_side
  merges pass v other u feeds drains items views h at two at' =
      let both : Side T E = joined_side v u in
      let vs : List (Side T E) = set views pass both in
      let mine = h.feeds pass v at feeds in
      let was : get_elem? views other ≡ some u = ⊎_elim (λ x. absurd (two x.0)) (λ x. x.1) (at_set views pass other both u at') in
      let theirs = h.drains other u was drains in
      let produced = marked (h.decided ++ h.pending) in
      let taken = picked is_taken 0 h.decided in
      let history = h.decided ++ h.pending in
      let Now : ℕ → Side T E → Type 0 = λ j y. j ≢ other → FitsDrain pass h.lossy h.sent taken history j y in
      let now : All Now vs = all_set Now views pass both (λ _. λ _. (refl, mine.1, theirs.2, theirs.3)) (λ j y _ e apart. λ does. absurd (apart ((h.drains j y e does).0 ∙ sym theirs.0))) in
      let fits : FitsFeed h.feed h.lossy h.sent produced h.feed both = λ _. (refl, mine.1, mine.2, mine.3) in record {
        feed = h.feed;
        drain = pass;
        lossy = h.lossy;
        sent = h.sent;
        decided = h.decided;
        pending = h.pending;
        last = h.last;
        holds = h.holds;
        ends = h.ends;
        below = h.below;
        above = h.above;
        lossless = h.lossless;
        feeds = all_set (FitsFeed h.feed h.lossy h.sent produced) vs other spare_side (no_feed h.feed h.lossy h.sent produced other spare_side refl)
            (λ j y apart e. fed views pass v both at h.feed h.lossy h.sent h.sent produced produced feeds h.feeds fits j y e);
        level = h.level;
        seen = h.seen;
        levels = all_set (FitsLevel h.level) vs other spare_side (no_level h.level other spare_side refl)
            (λ j y apart e. leveled views pass v both at h.level h.feed h.lossy h.sent produced feeds h.feeds (λ _. h.levels pass v at feeds) j y e);
        sights = all_set (FitsSeen h.seen) vs other spare_side (no_sight h.seen other spare_side refl)
            (λ j y apart e. all_set (FitsSeen h.seen) views pass both (λ _. h.sights other u was drains) (λ i z _ there. h.sights i z there) j y e);
        counts = h.counts;
        drains = all_set (FitsDrain pass h.lossy h.sent taken history) vs other spare_side (no_drain pass h.lossy h.sent taken history other spare_side refl) (λ j y apart e. now j y e apart);
      }

  -- both sides tell of one history
  pub agrees : (pass : ℕ) (v : Side T E) → v.feeds ≡ true → v.drains ≡ true → Learns (Buffers {T = T} {E = E}) pass v (λ items. Agree v.produced v.sent v.taken v.got v.history)
  agrees pass v feeds drains items views h at =
      let mine = h.feeds pass v at feeds in
      let theirs = h.drains pass v at drains in (
        h.decided ++ h.pending,
        sym mine.3,
        picked-append is_taken 0 h.decided h.pending
            ∙ (ap (λ n. picked is_taken 0 h.decided ++ picked is_taken n h.pending) (zero-add (length h.decided))
            ∙ (ap (λ t. picked is_taken 0 h.decided ++ t) h.above ∙ (append-nil (picked is_taken 0 h.decided) ∙ sym theirs.2))),
        λ known. ((theirs.3 known).0 ∙ sym mine.2, (theirs.3 known).1),
      )
