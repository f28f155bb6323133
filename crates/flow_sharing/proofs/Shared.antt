-- What a sharing emitted, after each part of a poll.
use Rattle.std.proofs.Common.{◌≡◌, ◌≢◌, ◌⊎◌, ⊎_elim, inr, refl, sym, ap, subst, ◌∙◌, ℕ, Bool, true, false, List, [], ◌∷◌, ◌++◌, map, Option, Some, None, Ok, Err, is_some, append_assoc}
use Rattle.std.specs.Prelude.{IsSome}
use Rattle.std.specs.List.{AllByRecursion, last_or}
use Rattle.std.proofs.lemmas.List.{append-nil, map-append}
use Rattle.futures.specs.declared.task.Poll.{Poll}
use Rattle.flow_terms.specs.declared.answers.Begun.TheVariants as begun
use Rattle.flow_terms.specs.declared.answers.Withdrawn.{Withdrawn}
use Rattle.flow_terms.specs.declared.answers.Withdrawn.TheVariants as given_up
use Rattle.flow_terms.specs.declared.ids.Ticket.{Ticket}
use Rattle.flow_terms.specs.declared.command.Command.{Command}
use Rattle.flow_terms.specs.declared.command.Command.TheVariants.{Start, Stop, StopAndReset}
use Rattle.cold_flow.specs.declared.cause.Cause.{Cause}
use Rattle.cold_flow.specs.declared.event.Event.{Event}
use Rattle.cold_flow.specs.Poll.{Traces}
use Rattle.shared_lane.specs.Views.{ReceiptSeen}
use Rattle.shared_rounds.specs.Rounds.{withdraw_round}
use Rattle.shared_flow.specs.Parties.{Emitting}
use Rattle.shared_flow.specs.Emitters.{emission_by}
use Rattle.shared_flow.specs.Emitted.{Outcome, Emissions, accepted, accepted_in_block, dropped, full, refused, in_flight, withdrawn, settled, emitted, after_cancel, WasEmitted}
use Rattle.shared_flow.proofs.Emitted.{has_started, has_waited, has_finished, has_left, has_let_go}
use Rattle.sharing_upstream.specs.declared.upstream.Course.{Course}
use Rattle.sharing_upstream.specs.Courses.{stopped, kept_cause}
use Rattle.sharing_upstream.specs.Destinations.{AcceptsEach}
use Rattle.sharing_upstream.specs.Sharings.{Obeys, Takes, Shares, Acts}
use Rattle.sharing_upstream.proofs.Sharings.{not_some}
use Rattle.flow_sharing.specs.FlowDestinations.{DestinationSeen, emitting, Withdrew, WasEndedAs}
use Rattle.flow_sharing.specs.Taken.{Took}
use Rattle.flow_sharing.specs.Shared.{words_of, WaitsLast, Awaited, Stands, OnlyLastStands, Emits}
use Rattle.flow_sharing.proofs.Taken.{TookOn, took_on, took_last, took_refused, took_same, took_new, took_none}

-- ---- lists of emissions

-- what was emitted last
pub last_more : {A : Type 0} (before : Option A) (xs : List A) (x : A) → last_or before (xs ++ x ∷ []) ≡ Some x
last_more before [] x = refl
last_more before (y ∷ xs) x = last_more (Some y) xs x

settled_words : (outcome : Outcome) (xs : Emissions) → words_of (settled outcome xs) ≡ words_of xs
settled_words outcome [] = refl
settled_words outcome (x ∷ []) = refl
settled_words outcome (x ∷ y ∷ more) = ap (λ (l : List ℕ). x.0 ∷ l) (settled_words outcome (y ∷ more))

joined_words : (xs ys : Emissions) → words_of (xs ++ ys) ≡ words_of xs ++ words_of ys
joined_words xs ys = map-append (λ (x : ℕ × Outcome). x.0) xs ys

abbrev AllEmitted : Emissions → Type 0
AllEmitted xs = AllByRecursion (λ (x : ℕ × Outcome). WasEmitted x.1) xs

pub waits_last : {T : Type 0} (word : T → ℕ) (old new : Emissions) (value x : T) → new ≡ old ++ (word value, in_flight) ∷ [] → Some value ≡ Some x
    → last_or None new ≡ Some (word x, in_flight)
waits_last {T} word old new value x grew is =
    let same : value ≡ x = cc is in
    ap (last_or None) grew ∙ last_more None old (word value, in_flight) ∙ ap (λ (v : T). Some (word v, in_flight)) same

module _ {T E : Type 0} (fault : Option (Cause E)) (waits : Option T) where
  stands_emitted : (outcome : Outcome) → WasEmitted outcome → Stands fault waits outcome
  stands_emitted (accepted n) was = was
  stands_emitted accepted_in_block was = was
  stands_emitted dropped was = was
  stands_emitted full was = absurd was
  stands_emitted (refused refusal) was = absurd was
  stands_emitted in_flight was = absurd was
  stands_emitted withdrawn was = absurd was

  only_emitted : (xs : Emissions) → AllEmitted xs → OnlyLastStands fault waits xs
  only_emitted [] all = tt
  only_emitted (x ∷ []) all = stands_emitted x.1 all.0
  only_emitted (x ∷ y ∷ more) all = (all.0, only_emitted (y ∷ more) all.1)

  only_then : (xs : Emissions) (word : ℕ) (outcome : Outcome) → AllEmitted xs → Stands fault waits outcome → OnlyLastStands fault waits (xs ++ (word, outcome) ∷ [])
  only_then [] word outcome all stands = stands
  only_then (x ∷ []) word outcome all stands = (all.0, stands)
  only_then (x ∷ y ∷ more) word outcome all stands = (all.0, only_then (y ∷ more) word outcome all.1 stands)

module _ {T : Type 0} where
  awaited_words : (waited : Option T) (old : Emissions) (taken : List T) (before : Emissions) → Awaited waited old taken before → words_of before ≡ words_of old
  awaited_words waited old taken before (Awaited.none_waited none same) = ap words_of same
  awaited_words waited old taken before (Awaited.was_accepted some number is) = ap words_of is ∙ settled_words (accepted number) old
  awaited_words waited old taken before (Awaited.was_withdrawn some none is) = ap words_of is ∙ settled_words withdrawn old
  awaited_words waited old taken before (Awaited.is_unchanged none same) = ap words_of same

  -- where nothing had waited
  awaited_none : (waited : Option T) (old : Emissions) (taken : List T) (before : Emissions) → waited ≡ None → Awaited waited old taken before → before ≡ old
  awaited_none waited old taken before is (Awaited.none_waited none same) = same
  awaited_none waited old taken before is (Awaited.was_accepted some number settles) = let no = subst IsSome is some in cc
  awaited_none waited old taken before is (Awaited.was_withdrawn some none settles) = let no = subst IsSome is some in cc
  awaited_none waited old taken before is (Awaited.is_unchanged none same) = same

no_words : (xs : Emissions) → words_of xs ≡ [] → xs ≡ []
no_words [] is = refl
no_words (x ∷ xs) is = let no = is in cc

-- ---- of an emitter

-- its emission in flight waits
abbrev pub Waits : {T : Type 0} → DestinationSeen T → Type 0
Waits s = is_some s.emitter.ticket ≡ is_some s.waiting

some_by : {A B : Type 0} (a : Option A) (b : Option B) (x : A) → is_some a ≡ is_some b → a ≡ Some x → IsSome b
some_by a None x same is = let no = same in let has = is in cc
some_by a (Some y) x same is = refl

ticket_of_some : {B : Type 0} (a : Option Ticket) (b : Option B) → is_some a ≡ is_some b → b ≢ None → (ticket : Ticket) × (a ≡ Some ticket)
ticket_of_some (Some ticket) b same some = (ticket, refl)
ticket_of_some None None same some = absurd (some refl)
ticket_of_some None (Some y) same some = let no = same in cc

no_ticket : {B : Type 0} (a : Option Ticket) (b : Option B) → is_some a ≡ is_some b → b ≡ None → a ≡ None
no_ticket a b same none = not_some a (same ∙ ap is_some none)

is_some_by : {B : Type 0} (b : Option B) → b ≢ None → IsSome b
is_some_by None some = absurd (some refl)
is_some_by (Some y) some = refl

-- an emission that was given up
ended : (e f : Emitting) (ticket : Ticket) (answer : Withdrawn ReceiptSeen) → e.ticket ≡ Some ticket → WasEndedAs e answer f
    → (emitted f ≡ after_cancel answer (emitted e)) × (f.ticket ≡ None)
ended e f ticket (given_up.Left receipt) has was = (has_left e f receipt was.0, ap (λ (x : Emitting). x.ticket) was.0.2)
ended e f ticket given_up.Removed has was =
    let gone = was.1 ticket has in (
      has_let_go e e.party.rounds f.party.rounds (withdraw_round ticket e.id e.last gone.0 None) ticket e.id e.last gone.0 given_up.Removed
          refl (ap (λ (x : Emitting). x.party.rounds) gone.2) refl gone.1,
      ap (λ (x : Emitting). x.ticket) gone.2,
    )
ended e f ticket given_up.Gone has was =
    let gone = was.1 ticket has in (
      has_let_go e e.party.rounds f.party.rounds (withdraw_round ticket e.id e.last gone.0 None) ticket e.id e.last gone.0 given_up.Gone
          refl (ap (λ (x : Emitting). x.party.rounds) gone.2) refl gone.1,
      ap (λ (x : Emitting). x.ticket) gone.2,
    )

awaited_cancel : {T : Type 0} (waited : Option T) (old : Emissions) (answer : Withdrawn ReceiptSeen) → IsSome waited → Awaited waited old [] (after_cancel answer old)
awaited_cancel waited old (given_up.Left receipt) some = Awaited.was_accepted some receipt.number refl
awaited_cancel waited old given_up.Removed some = Awaited.was_withdrawn some refl refl
awaited_cancel waited old given_up.Gone some = Awaited.is_unchanged refl refl

-- ---- of a place

module _ {T : Type 0} (word : T → ℕ) where
  one_more : (s : DestinationSeen T) (x : T) (t : DestinationSeen T) → (emitting word).Accepts s x t
      → (outcome : Outcome) × WasEmitted outcome × (emitted t.emitter ≡ emitted s.emitter ++ (word x, outcome) ∷ [])
  one_more s x t accepts = ⊎_elim
      (λ begins. (accepted begins.0.number, tt, has_started s.emitter t.emitter (emission_by s.emitter (word x)) (Ok (begun.Accepted begins.0)) begins.1))
      (λ begins. (dropped, tt, has_started s.emitter t.emitter (emission_by s.emitter (word x)) (Ok begun.Dropped) begins)) accepts.1

  each_more : (s : DestinationSeen T) (values : List T) (t : DestinationSeen T) → AcceptsEach (emitting word) s values t
      → (more : Emissions) × (emitted t.emitter ≡ emitted s.emitter ++ more) × (words_of more ≡ map word values) × AllEmitted more
  each_more s [] t each = ([], ap (λ (p : DestinationSeen T). emitted p.emitter) each ∙ sym (append-nil (emitted s.emitter)), refl, tt)
  each_more s (x ∷ values) t each =
      let one = one_more s x each.0 each.1 in
      let rest = each_more each.0 values t each.2 in (
        (word x, one.0) ∷ rest.0,
        rest.1 ∙ ap (λ (l : Emissions). l ++ rest.0) one.2 ∙ append_assoc (emitted s.emitter) ((word x, one.0) ∷ []) rest.0,
        ap (λ (l : List ℕ). word x ∷ l) rest.2,
        (one.1, rest.3),
      )

  then_last : (e : Emissions) (more : Emissions) (f g : Emissions) (values : List T) (x : T) (outcome : Outcome)
      → f ≡ e ++ more → g ≡ f ++ (word x, outcome) ∷ [] → g ≡ e ++ (more ++ (word x, outcome) ∷ [])
  then_last e more f g values x outcome first last = last ∙ ap (λ (l : Emissions). l ++ (word x, outcome) ∷ []) first ∙ append_assoc e more ((word x, outcome) ∷ [])

  words_last : (more : Emissions) (values : List T) (x : T) (outcome : Outcome) → words_of more ≡ map word values
      → words_of (more ++ (word x, outcome) ∷ []) ≡ map word (values ++ x ∷ [])
  words_last more values x outcome is =
      joined_words more ((word x, outcome) ∷ []) ∙ ap (λ (l : List ℕ). l ++ word x ∷ []) is ∙ sym (map-append word values (x ∷ []))

  withdrew : (s m : DestinationSeen T) → Waits s → Withdrew s m
      → Awaited s.waiting (emitted s.emitter) [] (emitted m.emitter) × (m.waiting ≡ None) × (m.emitter.ticket ≡ None)
  withdrew s m waits did = ⊎_elim
      (λ none. (
        Awaited.none_waited none.0 (ap (λ (p : DestinationSeen T). emitted p.emitter) none.1),
        ap (λ (p : DestinationSeen T). p.waiting) none.1 ∙ none.0,
        ap (λ (p : DestinationSeen T). p.emitter.ticket) none.1 ∙ no_ticket s.emitter.ticket s.waiting waits none.0,
      ))
      (λ some.
      let has = ticket_of_some s.emitter.ticket s.waiting waits some.0 in
      let end = ended s.emitter m.emitter has.0 some.2.0 has.1 some.2.1 in (
        subst (λ (l : Emissions). Awaited s.waiting (emitted s.emitter) [] l) (sym end.0) (awaited_cancel s.waiting (emitted s.emitter) some.2.0 (is_some_by s.waiting some.0)),
        ap (λ (p : DestinationSeen T). p.waiting) some.1,
        end.1,
      ))
      did

  module _ {E U : Type 0} (may : U → Traces T E) (over : U → Option (Cause E)) (polled : U → Poll (Event T E) → U → Type 0) where
    -- what a part of a poll took, and emitted
    record Part (from : Course U E) (s : DestinationSeen T) (to : Course U E) (t : DestinationSeen T) : Type 0 where
      taken : List T
      took : TookOn may from taken to
      before : Emissions
      awaited : Awaited s.waiting (emitted s.emitter) taken before
      more : Emissions
      emits : emitted t.emitter ≡ before ++ more
      words : words_of more ≡ map word taken
      only : OnlyLastStands (kept_cause to) t.waiting more

    -- where nothing was taken
    part_none : (from : Course U E) (s : DestinationSeen T) (to : Course U E) (t : DestinationSeen T) → to ≡ from → emitted t.emitter ≡ emitted s.emitter → Part from s to t
    part_none from s to t same is = record {
      taken = [];
      took = inr (refl, same);
      before = emitted s.emitter;
      awaited = Awaited.is_unchanged refl refl;
      more = [];
      emits = is ∙ sym (append-nil (emitted s.emitter));
      words = refl;
      only = tt;
    }

    takes : (from : Course U E) (s m : DestinationSeen T) (to : Course U E) (t : DestinationSeen T) → ((taken : List T) → Awaited s.waiting (emitted s.emitter) taken (emitted m.emitter))
        → Takes (emitting word) may over polled from m to t → Part from s to t
    takes from s m to t awaited (Takes.is_full values count goes each) =
        let e = each_more m values t each in record {
          taken = values;
          took = took_on may over from values to goes;
          before = emitted m.emitter;
          awaited = awaited values;
          more = e.0;
          emits = e.1;
          words = e.2;
          only = only_emitted (kept_cause to) t.waiting e.0 e.3;
        }
    takes from s m to t awaited (Takes.is_pending values was is few goes_was answered to_is goes each) =
        let e = each_more m values t each in record {
          taken = values;
          took = took_on may over from values to goes;
          before = emitted m.emitter;
          awaited = awaited values;
          more = e.0;
          emits = e.1;
          words = e.2;
          only = only_emitted (kept_cause to) t.waiting e.0 e.3;
        }
    takes from s m to t awaited (Takes.ends values few ends each) =
        let e = each_more m values t each in record {
          taken = values;
          took = took_last may over from values to ends;
          before = emitted m.emitter;
          awaited = awaited values;
          more = e.0;
          emits = e.1;
          words = e.2;
          only = only_emitted (kept_cause to) t.waiting e.0 e.3;
        }
    takes from s m to t awaited (Takes.last_waits values last between few goes each delays) =
        let e = each_more m values between each in
        let begins = has_started between.emitter t.emitter (emission_by between.emitter (word last)) (Ok (begun.Waiting tt)) delays.1 in
        let waits : IsSome t.waiting = subst IsSome (sym (ap (λ (p : DestinationSeen T). p.waiting) delays.0)) refl in record {
          taken = values ++ last ∷ [];
          took = took_on may over from (values ++ last ∷ []) to goes;
          before = emitted m.emitter;
          awaited = awaited (values ++ last ∷ []);
          more = e.0 ++ (word last, in_flight) ∷ [];
          emits = then_last (emitted m.emitter) e.0 (emitted between.emitter) (emitted t.emitter) values last in_flight e.1 begins;
          words = words_last e.0 values last in_flight e.2;
          only = only_then (kept_cause to) t.waiting e.0 (word last) in_flight e.3 waits;
        }
    takes from s m to t awaited (Takes.is_refused values last between refusal few gave each refuses broken) =
        let e = each_more m values between each in
        let begins = has_started between.emitter t.emitter (emission_by between.emitter (word last)) (Err refusal) refuses.1 in record {
          taken = values ++ last ∷ [];
          took = took_refused may over from values last refusal to gave broken;
          before = emitted m.emitter;
          awaited = awaited (values ++ last ∷ []);
          more = e.0 ++ (word last, refused refusal) ∷ [];
          emits = then_last (emitted m.emitter) e.0 (emitted between.emitter) (emitted t.emitter) values last (refused refusal) e.1 begins;
          words = words_last e.0 values last (refused refusal) e.2;
          only = only_then (kept_cause to) t.waiting e.0 (word last) (refused refusal) e.3 (ap kept_cause broken);
        }

    shares : (on : Bool) (from : Course U E) (s : DestinationSeen T) (to : Course U E) (t : DestinationSeen T) → Waits s
        → Shares (emitting word) may over polled on from s to t → Part from s to t
    shares false from s to t waits did = part_none from s to t did.0 (ap (λ (p : DestinationSeen T). emitted p.emitter) did.1)
    shares true from s to t waits did = ⊎_elim
        (λ still. part_none from s to t still.0 (has_waited s.emitter t.emitter still.1.2))
        (λ free. takes from s free.0 to t (λ taken. ⊎_elim
        (λ none. Awaited.none_waited none.0 (ap (λ (p : DestinationSeen T). emitted p.emitter) none.1))
        (λ done. Awaited.was_accepted (some_by s.emitter.ticket s.waiting done.1.1.0 waits done.1.1.1) done.1.0.number
        (has_finished s.emitter free.0.emitter done.1.0 done.1.1))
        free.1) free.2)
        did

    -- after a stop nothing is taken, and nothing emitted
    shares_off : (on : Bool) (from between : Course U E) (m : DestinationSeen T) (to : Course U E) (t : DestinationSeen T) → between ≡ stopped from → m.waiting ≡ None → m.emitter.ticket ≡ None
        → Shares (emitting word) may over polled on between m to t → (to ≡ stopped from) × (emitted t.emitter ≡ emitted m.emitter)
    shares_off on from between m to t is none idle did =
        let waits : Waits m = ap is_some idle ∙ sym (ap is_some none) in
        let part = shares on between m to t waits did in
        let off = took_none may from between part.taken to is part.took in
        let nothing = part.words ∙ ap (map word) off.0 in
        let same = awaited_none m.waiting (emitted m.emitter) part.taken part.before none part.awaited in
        (off.1, part.emits ∙ ap (λ (l : Emissions). part.before ++ l) (no_words part.more nothing) ∙ append-nil part.before ∙ same)

    module _ (new_run : Traces T E) where
      -- what a poll emitted, by what became of the value that had waited, and by the list then
      emits_by : (from : Course U E) (waited : Option T) (old : Emissions) (to : Course U E) (waits : Option T) (new : Emissions) (taken : List T) (before more : Emissions)
          → Took may new_run from taken to → Awaited waited old taken before → new ≡ before ++ more → words_of more ≡ map word taken
          → OnlyLastStands (kept_cause to) waits more → WaitsLast word waits new → Emits word may new_run from waited old to waits new
      emits_by from waited old to waits new taken before more took awaited is words only last = record {
        taken = taken;
        of_upstream = took;
        each_once_in_order = ap words_of is ∙ joined_words before more ∙ ap (λ (l : List ℕ). l ++ words_of more) (awaited_words waited old taken before awaited)
            ∙ ap (λ (l : List ℕ). words_of old ++ l) words;
        before = before;
        more = more;
        then_emitted = is;
        awaited = awaited;
        only_last_waits = only;
        waits_last = last;
      }

      by_part : (from between : Course U E) (s : DestinationSeen T) (to : Course U E) (t : DestinationSeen T) (part : Part between s to t) → Took may new_run from part.taken to
          → WaitsLast word t.waiting (emitted t.emitter) → Emits word may new_run from s.waiting (emitted s.emitter) to t.waiting (emitted t.emitter)
      by_part from between s to t part took last =
          emits_by from s.waiting (emitted s.emitter) to t.waiting (emitted t.emitter) part.taken part.before part.more took part.awaited part.emits part.words part.only last

      -- where nothing was taken, and nothing emitted
      pub by_none : (from : Course U E) (waited : Option T) (old : Emissions) (to : Course U E) (waits : Option T) (new before : Emissions) → Took may new_run from [] to
          → Awaited waited old [] before → new ≡ before → WaitsLast word waits new → Emits word may new_run from waited old to waits new
      by_none from waited old to waits new before took awaited is last =
          emits_by from waited old to waits new [] before [] took awaited (is ∙ sym (append-nil before)) refl tt last

      by_stop : (on : Bool) (from between : Course U E) (s b m : DestinationSeen T) (to : Course U E) (t : DestinationSeen T) → Waits s → between ≡ stopped from → Withdrew s b
          → m.emitter ≡ b.emitter → m.waiting ≡ b.waiting → Shares (emitting word) may over polled on between m to t → WaitsLast word t.waiting (emitted t.emitter)
          → Emits word may new_run from s.waiting (emitted s.emitter) to t.waiting (emitted t.emitter)
      by_stop on from between s b m to t waits is did emitter waiting shared last =
          let gone = withdrew s b waits did in
          let off = shares_off on from between m to t is (waiting ∙ gone.1) (ap (λ (e : Emitting). e.ticket) emitter ∙ gone.2) shared in
          by_none from s.waiting (emitted s.emitter) to t.waiting (emitted t.emitter) (emitted b.emitter) (Took.was_stopped refl off.0) gone.0 (off.1 ∙ ap emitted emitter) last

      obeys : (command : Option Command) (on : Bool) (from between : Course U E) (s m : DestinationSeen T) (to : Course U E) (t : DestinationSeen T) → Waits s
          → Obeys (emitting word) may over new_run command from s between m → Shares (emitting word) may over polled on between m to t
          → WaitsLast word t.waiting (emitted t.emitter) → Emits word may new_run from s.waiting (emitted s.emitter) to t.waiting (emitted t.emitter)
      obeys None on from between s m to t waits obeyed shared last =
          let on_same = subst (λ (c : Course U E). Shares (emitting word) may over polled on c m to t) obeyed.0 shared in
          let part = shares on from s to t waits (subst (λ (p : DestinationSeen T). Shares (emitting word) may over polled on from p to t) obeyed.1 on_same) in
          by_part from from s to t part (took_same may new_run from part.taken to part.took) last
      obeys (Some Start) on from between s m to t waits obeyed shared last =
          let part = shares on between s to t waits (subst (λ (p : DestinationSeen T). Shares (emitting word) may over polled on between p to t) obeyed.1 shared) in
          by_part from between s to t part (took_new may over new_run from between part.taken to obeyed.0 part.took) last
      obeys (Some Stop) on from between s m to t waits obeyed shared last = by_stop on from between s m m to t waits obeyed.0 obeyed.1 refl refl shared last
      obeys (Some StopAndReset) on from between s m to t waits obeyed shared last =
          by_stop on from between s obeyed.1.0 m to t waits obeyed.0 obeyed.1.1 (ap (λ (p : DestinationSeen T). p.emitter) obeyed.1.2.0) (ap (λ (p : DestinationSeen T). p.waiting) obeyed.1.2.0) shared last

      -- after a poll had counted
      pub acts : (fault : Option (Cause E)) (IsCommand : Option Command → Type 0) (on : Bool) (from : Course U E) (s : DestinationSeen T) (to : Course U E) (t : DestinationSeen T) → Waits s
          → Acts (emitting word) may over polled fault new_run IsCommand on from s to t
          → WaitsLast word t.waiting (emitted t.emitter) → Emits word may new_run from s.waiting (emitted s.emitter) to t.waiting (emitted t.emitter)
      acts None IsCommand on from s to t waits did last = obeys did.0 on from did.2.0 s did.2.1 to t waits did.2.2 did.2.3 last
      acts (Some cause) IsCommand on from s to t waits did last =
          by_none from s.waiting (emitted s.emitter) to t.waiting (emitted t.emitter) (emitted s.emitter) (Took.nothing refl did.0) (Awaited.is_unchanged refl refl)
          (ap (λ (p : DestinationSeen T). emitted p.emitter) did.1) last
