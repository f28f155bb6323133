-- An owner, an emitter and a subscription that have the whole lock: what the subscription received, once all three have met and two were ended.
use Rattle.std.proofs.Common.{◌≡◌, ◌⊎◌, inl, inr, ℕ, ◌+◌, ◌-◌, ◌≤◌, max, List, [], ◌∷◌, ◌++◌, length, map, refl, sym, ap, ◌∙◌, subst, arith, length-drop}
use Rattle.std.proofs.lemmas.List.{length-map, map-id}
use Rattle.std.proofs.lemmas.List.Elements.{recursion_from_All}
use Rattle.std.proofs.lemmas.Option.{same_Some}
use Rattle.std.specs.List.{AllByRecursion, range_with_len}
use Rattle.shared_lane.specs.Law.{Entry}
use Rattle.shared_lane.specs.declared.view.Shape.{Shape}
use Rattle.round_lock.specs.declared.log.TakenOwner.{TakenOwner}
use Rattle.flow_terms.specs.Lists.{IsPrefix}
use Rattle.round_lock.specs.History.{HasAll, Parts, halves}
use Rattle.round_lock.specs.History.After.{new as first_one, more as one_more}
use Rattle.shared_core.specs.declared.config.Config.{Config}
use Rattle.shared_core.specs.Flow.{values_at}
use Rattle.shared_core.specs.Story.{Interleaves}
use Rattle.shared_lane.specs.Headline.{pending}
use Rattle.shared_lane.specs.Sequencers.{shape_of}
use Rattle.shared_lane.specs.Views.{ReaderSeen, SequencerSeen}
use Rattle.shared_lane.specs.declared.reader.Met.{Met}
use Rattle.shared_rounds.specs.declared.round.Round.{Round}
use Rattle.shared_rounds.specs.declared.round.Round.TheVariants as round
use Rattle.shared_rounds.specs.Entering.{IsLeftBy, Made}
use Rattle.shared_rounds.specs.Meeting.{HasMet}
use Rattle.shared_rounds.specs.Names.{FlowName, IsMadeWith, IsNew, SharedSeen}
use Rattle.shared_rounds.specs.Reach.{Party, Rounds}
use Rattle.shared_flow.specs.Emitted.{Emissions, GrewBy, Outcome, WasEmitted, accepted, accepted_in_block, dropped, emitted, full, in_flight, refused, withdrawn}
use Rattle.shared_flow.specs.Looks.{WasEnded, closed_reader}
use Rattle.shared_flow.specs.Owners.{Meets}
use Rattle.shared_flow.specs.Parties.{Emitting, IsSamePrelude, Subscribed, received, since_start, taking_of}
use Rattle.shared_flow.specs.Received.{ReceivesAllButDropped}
use Rattle.hot_callers.specs.Alone.{AreNew, EmitsAlone, HasSeenItsLast, HaveWholeLock, NothingEmitted, ReceivesOnlyIts, TakesBoth, part_of}
use Rattle.hot_callers.specs.Exchanges.{TakesEach}
use Rattle.hot_callers.specs.Receiving.{AreSettled, IsSettled, ReceivesItsOwn}
use Rattle.hot_callers.proofs.Accepting.{keeps_all}
use Rattle.hot_callers.proofs.Exchanging.{IsQuietWith, prefix_then, has_whole, quiet_more, quiet_same, quiet_taking}
use Rattle.hot_callers.proofs.Keeping.{heard_only, owner_then, quiet_round, receives_then, same_owner}

-- ---- the lock

-- The emitter was taken in, then the subscription met the owner, was ended and taken in, and the owner made one more round.
module _ (p q r m last : Party) (e : Emitting) (s t : Subscribed ℕ) (met ended_met : Met) (left : Party) (count : ℕ) (whole : HaveWholeLock p e.party s.party)
    (took_emitter : q ≡ taking_of e.party p) (meets : Meets q r s t met) (ended : WasEnded t.number t.reader ended_met t.party left) (took : m ≡ taking_of left r)
    (made : Made (round.Count count) m last) where
  abbrev parts : List (TakenOwner Round)
  parts = part_of e.party ∷ part_of left ∷ []

  abbrev with_emitter : IsQuietWith p.halved (part_of e.party ∷ []) q
  with_emitter = quiet_taking p.halved [] e.party p q ((refl, whole.nobody_taken.0), whole.quiet.0) whole.nobody_taken.1 took_emitter

  abbrev of_left : IsQuietWith s.party.halved [] left
  of_left = quiet_more s.party.halved [] (round.Cancel t.number) t.party left
      (quiet_same s.party.halved [] meets.made.before s.party t.party ((refl, whole.nobody_taken.2), whole.quiet.1) meets.heard.same) (λ id. refl) ended.made

  abbrev with_both : IsQuietWith p.halved parts m
  with_both = quiet_taking p.halved (part_of e.party ∷ []) left r m
      (quiet_more p.halved (part_of e.party ∷ []) (round.Hold meets.count) q r with_emitter (λ id. refl) meets.made) of_left.0.1 took

  abbrev has_parts : HasAll p.halved parts
  has_parts = let height = whole.has_all.0 in (
    height,
    (λ i. halves height p.halved + (halves height e.party.halved + (halves height (of_left.0.0 i) + 0))) ∙ whole.has_all.1,
  )

  pub emits_alone : EmitsAlone e s t
  emits_alone =
      let known : Parts meets.made.before (part_of e.party ∷ []) = subst (Parts meets.made.before) with_emitter.0.1 meets.made.saw.taken_in.parts_are in
      let log_is : m.seen ≡ meets.made.before ++ (q.pass, round.Hold meets.count, meets.made.left) ∷ [] = ap (λ (x : Party). x.seen) took ∙ ap (λ (x : Party). x.seen) meets.made.after in
      let sees : IsPrefix m.seen made.before = made.saw.seen_on in record {
        before = q;
        after = r;
        counts = met;
        meets = meets;
        all_rounds = known.0;
        holder = m;
        left = last;
        last_round = round.Count count;
        made = made;
        later = prefix_then meets.made.before m.seen made.before ((q.pass, round.Hold meets.count, meets.made.left) ∷ [], log_is) sees;
        has_all = has_whole p.halved parts m with_both.0 has_parts;
        quiet = with_both.1;
        others = subst (AllByRecursion (λ (x : TakenOwner Round). (x.pass ≡ e.party.pass) ⊎ NothingEmitted x.own)) (sym with_both.0.1) (inl refl, (inr of_left.1, tt));
      }

  pub has_whole_lock : HasAll last.halved last.taken
  has_whole_lock = has_whole p.halved parts last
      (ap (λ (x : Party). x.halved) made.after ∙ with_both.0.0, ap (λ (x : Party). x.taken) made.after ∙ with_both.0.1) has_parts

  pub takes_both : TakesBoth p last e.party s.party
  takes_both = record {
    left = left;
    only_received = receives_then s.party t.party left (heard_only s.party t.party meets.made.before meets.heard.same)
        (quiet_round t.party left (round.Cancel t.number) (λ id. refl) ended.made);
    taken = ap (λ (x : Party). x.taken) made.after ∙ with_both.0.1;
    same = owner_then p m last (owner_then p r m (owner_then p q r (same_owner p q took_emitter refl) (same_owner q r meets.made.after refl)) (same_owner r m took refl))
        (same_owner m last made.after refl);
  }

-- ---- the emissions

was_settled : (x : ℕ × Outcome) → WasEmitted x.1 → IsSettled x.1
was_settled (word, accepted n) was = tt
was_settled (word, accepted_in_block) was = tt
was_settled (word, dropped) was = tt
was_settled (word, full) was = absurd was
was_settled (word, refused refusal) was = absurd was
was_settled (word, in_flight) was = absurd was
was_settled (word, withdrawn) was = absurd was

each_settled : (xs : Emissions) → AllByRecursion (λ (x : ℕ × Outcome). WasEmitted x.1) xs → AreSettled xs
each_settled [] each = tt
each_settled (x ∷ xs) each = (was_settled x each.0, each_settled xs each.1)

pub all_settled : (words : List ℕ) (n : ℕ) (xs : Emissions) → GrewBy [] words n xs → AreSettled xs
all_settled words n xs grew =
    subst AreSettled (sym grew.2) (each_settled grew.0 (recursion_from_All (λ (x : ℕ × Outcome). WasEmitted x.1) grew.0 grew.1.each))

words_are : (words : List ℕ) (n : ℕ) (xs : Emissions) → GrewBy [] words n xs → map (λ (x : ℕ × Outcome). x.0) xs ≡ words
words_are words n xs grew = ap (λ (l : Emissions). map (λ (x : ℕ × Outcome). x.0) l) grew.2 ∙ grew.1.words_are

-- ---- the reader

seen_length : (r : ReaderSeen) → length (since_start r) ≡ length r.seen - (r.start - r.shape.first)
seen_length r = length-drop (r.start - r.shape.first) (map (λ (x : Entry). x.1) r.seen) ∙ ap (λ n. n - (r.start - r.shape.first)) (length-map r.seen (λ (x : Entry). x.1))

-- it began at an emission of its flow
began : (q : SequencerSeen) (r last : ReaderSeen) (met : Met) → HasMet q r last met → length (since_start last) ≡ met.accepted → last.shape.first ≤ last.start
began q r last met has all =
    let number : last.start + met.accepted ≡ last.shape.first + length last.seen =
    has.accepted ∙ (λ i. (sym has.same_shape i).first + length (sym has.has_seen_all i)) in
    let whole = seen_length last in omega (arith, number, whole, all)

-- so it has seen each emission that it received
story_within : (r : ReaderSeen) → r.shape.first ≤ r.start → r.start + length r.story ≤ r.shape.first + length r.seen → max (length r.story) (length (since_start r)) ≡ length (since_start r)
story_within r first far = let whole = seen_length r in omega (arith, whole, first, far)

-- ---- the flow's config

shape_left : (made : SharedSeen) (log : Rounds) (now : SharedSeen) → IsLeftBy made log now → now.sequencer.view.shape ≡ made.sequencer.view.shape
shape_left made log now (first_one s fresh) = refl
shape_left made log now (one_more first before s pass r t after does) = does.1.1 ∙ shape_left first before s after

new_one : (made : SharedSeen) (log : Rounds) (now : SharedSeen) → IsLeftBy made log now → IsNew made
new_one made log now (first_one s fresh) = fresh
new_one made log now (one_more first before s pass r t after does) = new_one first before s after

-- what the reader knows of its flow
shape_met : (config : Config) (q r : Party) (s t : Subscribed ℕ) (met : Met) → IsMadeWith config q.flow → Meets q r s t met → t.reader.shape ≡ shape_of config
shape_met config q r s t met with meets =
    let made = meets.made in
    let left_by = one_more made.saw.made made.before made.found q.pass (round.Hold meets.count) made.left made.saw.after made.does in
    let known : made.saw.made.name ≡ with.0 = same_Some _ _ (sym made.saw.flow_is ∙ with.1) in
    meets.has_met.same_shape ∙ sym meets.only.1 ∙ shape_left made.saw.made (made.before ++ (q.pass, round.Hold meets.count, made.left) ∷ []) made.left left_by
    ∙ (new_one made.saw.made made.before made.found made.saw.after).0.1.4 ∙ ap (λ (name : FlowName). shape_of name.config) known ∙ ap shape_of with.2

-- ---- what was received

pub receives_its_own : (config : Config) (words : List ℕ) (n : ℕ) (q r : Party) (e : Emitting) (s t : Subscribed ℕ) (met ended_met : Met) (left : Party) → IsMadeWith config q.flow
    → GrewBy [] words n (emitted e) → Meets q r s t met → (ended : WasEnded t.number t.reader ended_met t.party left) → length (since_start (closed_reader ended)) ≡ ended_met.accepted
    → (alone : EmitsAlone e s t) → HasSeenItsLast e s t alone → ReceivesAllButDropped (λ (word : ℕ). word) t → received (λ (word : ℕ). word) t ≡ received (λ (word : ℕ). word) s
    → IsSamePrelude s t → ReceivesItsOwn config.policy (s.given ++ s.rest) words (received (λ (word : ℕ). word) s)
receives_its_own config words n q r e s t met ended_met left with grew meets ended complete alone has_seen all same prelude =
    let has_met = ended.closed.5.4 in
    let last = closed_reader ended in
    let start : last.start ≡ t.reader.start = has_met.same.0 in
    let first : last.shape.first ≡ t.reader.shape.first = ap (λ (x : Shape). x.first) has_met.same.2 in
    let late = began ended.closed.5.0 t.reader last ended_met has_met complete in
    let began_within : t.reader.shape.first ≤ t.reader.start = omega (arith, late, start, first) in
    let within = story_within t.reader began_within meets.has_met.has_seen_so_far in
    let rest = t.rest ++ map (λ (word : ℕ). word) (pending t.reader) in record {
      emissions = emitted e;
      words_are = words_are words n (emitted e) grew;
      last = since_start t.reader;
      are_last = has_seen.ends_with_what_was_seen;
      kept = all.kept;
      dropped = all.dropped;
      rest = rest;
      received_then_rest = ap (λ (l : List ℕ). l ++ rest) (sym same) ∙ all.received_then_pending
          ∙ (λ i. prelude i ++ map-id (values_at (since_start t.reader) all.kept) i);
      in_order_and_once = subst (λ k. Interleaves all.kept all.dropped (range_with_len 0 k)) within all.in_order_and_once;
      only_drop_oldest_drops = λ not. all.only_drop_oldest_drops (ap (λ (x : Shape). x.drops) (shape_met config q r s t met with meets) ∙ keeps_all config.policy not);
    }

-- ---- from a new flow on

pub new_given : {A : Type 0} (xs ys : List A) → xs ++ ys ≡ [] → xs ≡ []
new_given [] ys none = refl
new_given (x ∷ xs) ys none = let no : ⊥ = cc in absurd no

-- A flow was new, its emitter emitted these words to their end, and its subscription received these: what came is of those words.
pub collected : (config : Config) (prelude words list : List ℕ) (n : ℕ) (owner : Party) (e f : Emitting) (s t : Subscribed ℕ) → AreNew config prelude owner e s
    → GrewBy (emitted e) words n (emitted f) → IsSamePrelude s t → TakesEach [] s list t → ReceivesOnlyIts owner.flow f t → ReceivesItsOwn config.policy prelude words list
collected config prelude words list n owner e f s t new grew same takes only =
    let emitted_so = subst (λ (l : Emissions). GrewBy l words n (emitted f)) new.nothing_emitted grew in
    let list_is : received (λ (word : ℕ). word) t ≡ list = takes.2 ∙ ap (λ (l : List ℕ). l ++ takes.0) new.nothing_received ∙ sym takes.1 in
    subst (ReceivesItsOwn config.policy prelude words) list_is
    (subst (λ (l : List ℕ). ReceivesItsOwn config.policy l words (received (λ (word : ℕ). word) t)) (same ∙ new.prelude_is) (only config words n new.config_is emitted_so))
