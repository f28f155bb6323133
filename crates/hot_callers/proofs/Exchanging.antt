-- What an emitter and a subscription did in their threads, what they and their owner know once they have met, and what it knows once it took
-- both in.
use Rattle.std.proofs.Common.{◌≡◌, ◌≢◌, ◌⊎◌, inl, inr, ℕ, suc, ◌+◌, List, [], ◌∷◌, ◌++◌, map, None, Result, Ok, refl, sym, ap, subst, ◌∙◌, append_assoc, arith}
use Rattle.std.proofs.lemmas.List.{append-nil, map-append, map-id}
use Rattle.std.proofs.lemmas.Option.{same_Some}
use Rattle.std.specs.List.{AllByRecursion}
use Rattle.flow_terms.specs.declared.refusal.Refusal.{Refusal}
use Rattle.flow_terms.specs.declared.answers.Tried.{Tried}
use Rattle.shared_lane.specs.Law.{Entry}
use Rattle.round_lock.specs.declared.log.TakenOwner.{TakenOwner}
use Rattle.flow_terms.specs.Lists.{IsPrefix}
use Rattle.round_lock.specs.History.{Apart, HasAll, MadeEach, Parts, halves, own_of}
use Rattle.round_lock.specs.History.After.{more as one_more}
use Rattle.shared_core.specs.declared.config.Config.{Config}
use Rattle.shared_core.specs.Flow.{values_at}
use Rattle.shared_core.specs.Story.{Interleaves}
use Rattle.shared_lane.specs.declared.reader.Met.{Met}
use Rattle.shared_lane.specs.declared.view.Shape.{Shape}
use Rattle.shared_lane.specs.Caches.{word_of}
use Rattle.shared_lane.specs.Headline.{cache_then_later, pending}
use Rattle.shared_lane.specs.Readers.{at}
use Rattle.shared_lane.specs.Sequencers.{entry_of, seen, shape_of}
use Rattle.shared_lane.specs.Views.{ReceiptSeen}
use Rattle.shared_rounds.specs.declared.round.Round.{Round}
use Rattle.shared_rounds.specs.declared.round.Round.TheVariants as round
use Rattle.shared_rounds.specs.Entering.{Made}
use Rattle.shared_flow.specs.Emitted.{AreItsPart, Emissions, Outcome, accepted_words, emitted as emitted_by_it}
use Rattle.shared_flow.specs.Emitters.{after_try, emission_by}
use Rattle.shared_flow.specs.Laws.{EachSubscriptionLaw, knowing}
use Rattle.shared_flow.specs.Lives.{IsSubscriptionOf, Life, LivesOn, looked, received_in}
use Rattle.shared_flow.specs.Looks.{WasAdmittedBy}
use Rattle.shared_flow.specs.Queue.{emitted, taken_up, words_by}
use Rattle.shared_rounds.specs.Names.{FlowName, IsMadeWith, SharedSeen}
use Rattle.shared_flow.specs.Owners.{HasHeard, Meets}
use Rattle.shared_flow.specs.Parties.{Emitting, Subscribed, newcomer_of, received as received_from, sharing_of, taking_of}
use Rattle.shared_rounds.specs.Reach.{Party, Rounds}
use Rattle.shared_rounds.specs.Rounds.{numbers_tried}
use Rattle.round_lock.proofs.Rounds.{own_mine, own_other}
use Rattle.shared_flow.proofs.Growing.{appends_more, appends_nothing}
use Rattle.shared_flow.proofs.Lives.{lives_more, received_more}
use Rattle.hot_callers.specs.Exchanges.{AreTries, EndsBoth, EndsEmitters, Exchange, IsSameParty, LateExchange, Receives, ReceivesBetween, TakesEach, TakesIn, TakesInTurn, TellsBoth, TriesEach}
use Rattle.hot_callers.specs.Alone.{EmitsAlone, EmitterAloneLaw, NothingEmitted, part_of}
use Rattle.hot_callers.specs.Receiving.{AreSettled, ReceivesItsOwn}
use Rattle.hot_callers.proofs.Accepting.{keeps_all, shape_is, tries_come}
use Rattle.hot_callers.proofs.Alone.{alone_are}
use Rattle.hot_callers.proofs.Looks.{taken_on}
use Rattle.hot_callers.proofs.Speaking.{AreBy, EmitNothing, IsBy, IsPartBy, accepted_within, are_by, each_before, emitted_by, emitted_more, nothing_more, nothing_of, of_two, own_since, since_then, tries_nothing, tries_within}
use Rattle.hot_callers.proofs.Sublists.{Within, alone, make_up_longer, of_parts, values_within, with_others, within_back, within_front, within_then, within_under}

abbrev round_in : ℕ × Round × SharedSeen → Round
round_in t = t.1

abbrev received_by : Subscribed ℕ → List ℕ
received_by s = received_from (λ word. word) s

abbrev AreApart : ℕ → ℕ → Type 0
AreApart a b = a ≢ b

one_and_two : AreApart 1 2
one_and_two = omega arith

two_and_one : AreApart 2 1
two_and_one = omega arith

-- ---- tries

pub tries_none : (e : Emitting) → e.ticket ≡ None → TriesEach [] e e
tries_none e idle = ([], refl, sym (append-nil e.party.rounds), refl, refl, idle)

one_try : (id word : ℕ) (words : List ℕ) (rounds : List Round) (answer : Result (Tried ℕ) Refusal) → AreTries id words rounds
    → AreTries id (words ++ word ∷ []) (rounds ++ round.Try (record { emitter = id; word = word }) answer ∷ [])
one_try id word [] rounds answer none = (answer, [], ap (λ (l : List Round). l ++ round.Try (record { emitter = id; word = word }) answer ∷ []) none, refl)
one_try id word (first ∷ words) rounds answer tries =
    let last = round.Try (record { emitter = id; word = word }) answer in
    (tries.0, tries.1 ++ last ∷ [], ap (λ (l : List Round). l ++ last ∷ []) tries.2, one_try id word words tries.1 answer tries.3)

tries_then : (id : ℕ) (words more : List ℕ) (rounds later : List Round) → AreTries id words rounds → AreTries id more later → AreTries id (words ++ more) (rounds ++ later)
tries_then id [] more rounds later none tries = subst (λ (l : List Round). AreTries id more (l ++ later)) (sym none) tries
tries_then id (word ∷ words) more rounds later was tries =
    (was.0, was.1 ++ later, ap (λ (l : List Round). l ++ later) was.2, tries_then id words more was.1 later was.3 tries)

-- what a party has become, of what it had become
same_party : (p q r : Party) → IsSameParty p q → IsSameParty q r → IsSameParty p r
same_party p q r was now = now ∙ ap (λ (x : Party). record x { rounds = r.rounds; seen = r.seen }) was

-- an emitter tried some words and then others
pub tries_on : (words more : List ℕ) (e f g : Emitting) → TriesEach words e f → TriesEach more f g → TriesEach (words ++ more) e g
tries_on words more e f g was now = (
  was.0 ++ now.0,
  tries_then e.id words more was.0 now.0 was.1 (subst (λ id. AreTries id more now.0) was.4 now.1),
  now.2 ∙ ap (λ (l : List Round). l ++ now.0) was.2 ∙ append_assoc e.party.rounds was.0 now.0,
  same_party e.party f.party g.party was.3 now.3,
  now.4 ∙ was.4,
  now.5,
)

-- a party that hears of others' rounds has its own, and the share that it had
heard_party : (list : Rounds) (p q : Party) → HasHeard list p q → IsSameParty p q
heard_party list p q heard = heard.same ∙ ap (λ (x : Party). record p { rounds = x.rounds; seen = x.seen }) (sym heard.same)

-- an emitter that hears of others' rounds is what it was
pub tries_heard : (words : List ℕ) (list : Rounds) (e f g : Emitting) → TriesEach words e f → HasHeard list f.party g.party → g ≡ record f { party = g.party } → TriesEach words e g
tries_heard words list e f g was heard only = (
  was.0,
  was.1,
  ap (λ (p : Party). p.rounds) heard.same ∙ was.2,
  same_party e.party f.party g.party was.3 (heard_party list f.party g.party heard),
  ap (λ (x : Emitting). x.id) only ∙ was.4,
  ap (λ (x : Emitting). x.ticket) only ∙ was.5,
)

-- what an emitter tried since it was made is all that it did
own_tries : (id : ℕ) (words : List ℕ) (e f : Emitting) → e.party.rounds ≡ [] → e.id ≡ id → TriesEach words e f → AreTries id words f.party.rounds
own_tries id words e f new same tries =
    let rounds : f.party.rounds ≡ tries.0 = tries.2 ∙ ap (λ (l : List Round). l ++ tries.0) new in
    subst (λ (l : List Round). AreTries id words l) (sym rounds) (subst (λ i. AreTries i words tries.0) same tries.1)

-- and its part of the rounds that it heard of
tries_in : (id : ℕ) (words : List ℕ) (list : Rounds) (e f : Emitting) → e.party.rounds ≡ [] → e.id ≡ id → TriesEach words e f → f.party.rounds ≡ own_of f.party.pass list
    → AreTries id words (own_of f.party.pass list)
tries_in id words list e f new same tries part = subst (AreTries id words) part (own_tries id words e f new same tries)

pub tries_more : (words : List ℕ) (word : ℕ) (answer : Result (Tried ReceiptSeen) Refusal) (e f g : Emitting) → TriesEach words e f
    → g ≡ after_try f (emission_by f word) answer g.party.seen → TriesEach (words ++ word ∷ []) e g
tries_more words word answer e f g was now =
    let numbers = numbers_tried answer in
    let last = round.Try (record { emitter = e.id; word = word }) numbers in
    let is : round.Try (emission_by f word) numbers ≡ last = ap (λ (id : ℕ). round.Try (record { emitter = id; word = word }) numbers) was.4 in (
      was.0 ++ last ∷ [],
      one_try e.id word words was.0 numbers was.1,
      ap (λ (x : Emitting). x.party.rounds) now ∙ (λ i. was.2 i ++ is i ∷ []) ∙ append_assoc e.party.rounds was.0 (last ∷ []),
      same_party e.party f.party g.party was.3
          (ap (λ (x : Emitting). x.party) now ∙ ap (λ (x : Emitting). record f.party { rounds = x.party.rounds; seen = x.party.seen }) (sym now)),
      ap (λ (x : Emitting). x.id) now ∙ was.4,
      ap (λ (x : Emitting). x.ticket) now ∙ was.5,
    )

-- ---- takings

pub takes_none : (before : List ℕ) (s : Subscribed ℕ) → TakesEach before s before s
takes_none before s = ([], appends_nothing before, appends_nothing (received_by s))

pub takes_on : (before middle after : List ℕ) (s m t : Subscribed ℕ) → TakesEach before s middle m → TakesEach middle m after t → TakesEach before s after t
takes_on before middle after s m t was now = (
  was.0 ++ now.0,
  appends_more before middle after was.0 now.0 was.1 now.1,
  appends_more (received_by s) (received_by m) (received_by t) was.0 now.0 was.2 now.2,
)

pub turns_none : (before : List ℕ) (s : Subscribed ℕ) → TakesInTurn before s before s
turns_none before s = ([], appends_nothing before, ([], (refl, refl), refl), refl)

pub turns_on : (before middle after : List ℕ) (s m t : Subscribed ℕ) → TakesInTurn before s middle m → TakesInTurn middle m after t → TakesInTurn before s after t
turns_on before middle after s m t was now = (
  was.0 ++ now.0,
  appends_more before middle after was.0 now.0 was.1 now.1,
  taken_on s m t was.0 now.0 was.2 now.2,
  now.3 ∙ was.3,
)

-- ---- the meeting

module _ (p q r : Party) (s t u : Subscribed ℕ) (counts : Met) where
  pub last_look : Meets q r t u counts → LivesOn t.rest t.reader (looked None ∷ []) u.rest u.reader
  last_look met = (u.reader, tt, (at u.reader, met.has_met.went), met.has_met.same, (met.same.1, refl))

  -- the list of rounds up to the meeting has the one by which the subscription was admitted
  pub rounds_are : (admission : WasAdmittedBy s.number s.reader p q) (met : Meets q r t u counts)
      → met.made.before ++ (q.pass, round.Hold met.count, met.made.left) ∷ [] ≡ (admission.made.before ++ (p.pass, round.Subscribe (Ok s.number), admission.made.left) ∷ [])
      ++ (met.made.saw.seen_on.0 ++ (q.pass, round.Hold met.count, met.made.left) ∷ [])
  rounds_are admission met =
      let begun = admission.made.before ++ (p.pass, round.Subscribe (Ok s.number), admission.made.left) ∷ [] in
      let rest = met.made.saw.seen_on.0 in
      let last = (q.pass, round.Hold met.count, met.made.left) ∷ [] in
      ap (λ (l : Rounds). l ++ last) (met.made.saw.seen_on.1 ∙ ap (λ (l : Rounds). l ++ rest) (ap (λ (x : Party). x.seen) admission.made.after))
      ∙ append_assoc begun rest last

  abbrev pub receives : (config : Config) (received : List ℕ) → IsMadeWith config p.flow → q.flow ≡ p.flow → EachSubscriptionLaw {T = ℕ} (λ word. word)
      → WasAdmittedBy s.number s.reader p q → TakesInTurn [] s received t → Meets q r t u counts → Receives config s.rest received
  receives config received with same law admission takes met =
      let life_steps = takes.2.0 ++ looked None ∷ [] in
      let made = met.made.saw.made in
      let now = met.made.left in
      let log = met.made.before ++ (q.pass, round.Hold met.count, now) ∷ [] in
      let life : Life ℕ = record {
        prelude = s.rest;
        cache = admission.made.left.sequencer.cache;
        start = s.reader;
        life_steps = life_steps;
        left = u.rest;
        reader = u.reader;
      } in
      let it : IsSubscriptionOf made log now life = record {
        left_by = one_more made met.made.before met.made.found q.pass (round.Hold met.count) now met.made.saw.after met.made.does;
        began = record {
          before = admission.made.before;
          later = met.made.saw.seen_on.0 ++ (q.pass, round.Hold met.count, now) ∷ [];
          pass = p.pass;
          number = s.number;
          left_after = admission.made.left;
          log_is = rounds_are admission met;
          made = admission.made.saw.made;
          found = admission.made.found;
          found_is = admission.made.saw.after;
          admitted = admission.admitted;
          cache_is = refl;
        };
        lived = lives_more s.rest s.reader takes.2.0 t.rest t.reader (looked None ∷ []) u.rest u.reader takes.2.1 (last_look met);
        has_seen_so_far = met.has_met.has_seen_so_far;
        has_seen_this = ([], met.only.2 ∙ sym met.has_met.has_seen_all ∙ sym (append-nil u.reader.seen));
      } in
      let proved = law made now log life it in
      let known : made.name ≡ with.0 = same_Some _ _ (sym met.made.saw.flow_is ∙ same ∙ with.1) in record {
        made = made;
        config_is = ap (λ (name : FlowName). name.config) known ∙ with.2;
        before = met.made.before;
        owner = q.pass;
        count = met.count;
        now = now;
        log = log;
        log_is = refl;
        is_one_flow = proved.0;
        life = life;
        prelude_is = refl;
        received_is = received_more (λ word. word) takes.2.0 (looked None ∷ []) ∙ append-nil (received_in (λ word. word) takes.2.0) ∙ takes.2.2 ∙ sym takes.1;
        is_subscription = it;
        receives = proved.1;
      }

-- ---- what was received

module _ {config : Config} {prelude received : List ℕ} (it : Receives config prelude received) where
  abbrev accepted : List Entry
  accepted = seen it.now.sequencer

  -- what was accepted of an emitter is some of what it emitted before the meeting, in its order
  accepted_of : (e : ℕ) → Within (words_by e accepted) (emitted e it.before)
  accepted_of e =
      let last = (it.owner, round.Hold it.count, it.now) ∷ [] in
      let log_is : emitted e it.log ≡ emitted e it.before = ap (emitted e) it.log_is ∙ emitted_more e it.before last ∙ append-nil (emitted e it.before) in
      let waiting = map entry_of it.now.sequencer.waiting in
      subst (Within (words_by e accepted)) log_is
      (within_then (words_by e accepted) (words_by e (accepted ++ waiting)) (emitted e it.log) (accepted_within e accepted waiting)
      (of_parts (it.is_one_flow.each_in_its_own_order e)))

  -- where the words that were accepted stand in a list, what was received stands in the prelude and that list
  received_within : (words : List ℕ) → Within (map word_of accepted) words → Within received (prelude ++ words)
  received_within words among =
      let reader = knowing it.now it.life.reader in
      let cache = cache_then_later it.life.cache it.life.start reader in
      let told = it.receives in
      let values = values_at cache told.kept in
      let rest = it.life.left ++ map (λ (word : ℕ). word) (pending reader) in
      let whole : received ++ rest ≡ prelude ++ values = ap (λ (l : List ℕ). l ++ rest) (sym it.received_is) ∙ told.received_then_pending_is_prelude_cache_then_later
      ∙ ap (λ (l : List ℕ). l ++ map (λ (word : ℕ). word) values) it.prelude_is ∙ ap (λ (l : List ℕ). prelude ++ l) (map-id values) in
      let of_cache = values_within cache told.kept told.dropped told.in_order_and_once in
      let of_all : Within cache (map word_of accepted) = subst (Within cache) (sym told.in_order_of_acceptance.1) (within_back told.in_order_of_acceptance.0 cache) in
      within_then received (prelude ++ values) (prelude ++ words) (subst (Within received) whole (within_front received rest))
      (within_under prelude values words (within_then values cache words of_cache (within_then cache (map word_of accepted) words of_all among)))

  -- where nobody emitted but two emitters, and these no more than some words, it stands in the prelude and in what both make up
  pub received_of_both : (a b : ℕ) (first second : List ℕ) → a ≢ b → Within (emitted a it.before) first → Within (emitted b it.before) second
      → ((e : ℕ) → a ≢ e → b ≢ e → emitted e it.before ≡ []) → (both others : List ℕ) × Interleaves first second both × Interleaves received others (prelude ++ both)
  received_of_both a b first second apart by_a by_b nobody =
      let parts = of_two a b accepted apart (λ e not_a not_b. subst (Within (words_by e accepted)) (nobody e not_a not_b) (accepted_of e)) in
      let up = make_up_longer parts first second
      (within_then (words_by a accepted) (emitted a it.before) first (accepted_of a) by_a)
      (within_then (words_by b accepted) (emitted b it.before) second (accepted_of b) by_b) in
      let all = with_others received (prelude ++ up.0) (received_within up.0 up.2) in
      (up.0, all.0, up.1, all.1)

  -- where nobody emitted but one, which tried some words
  pub received_of_one : (pass : ℕ) (words : List ℕ) → AreTries 1 words (own_of pass it.before) → ((e : ℕ) → AreBy e pass it.before) → (others : List ℕ) × Interleaves received others (prelude ++ words)
  received_of_one pass words tries are =
      let own = own_of pass it.before in
      let by_one : Within (emitted 1 it.before) words =
      subst (λ (l : List ℕ). Within l words) (sym (emitted_by 1 pass it.before (are 1))) (tries_within 1 words own tries) in
      let nobody : (e : ℕ) → AreApart 1 e → emitted e it.before ≡ [] =
      λ e other. emitted_by e pass it.before (are e) ∙ nothing_of e own (tries_nothing e 1 words own other tries) in
      let both = received_of_both 1 2 words [] one_and_two by_one (nobody 2 one_and_two) (λ e other _. nobody e other) in
      (both.1, subst (λ (l : List ℕ). Interleaves received both.1 (prelude ++ l)) (alone both.2 refl) both.3)

  -- and where what was accepted is what came of some emissions
  pub own_of_these : (words : List ℕ) (emissions : Emissions) → map (λ (x : ℕ × Outcome). x.0) emissions ≡ words → map word_of accepted ≡ accepted_words emissions
      → it.life.start.shape ≡ shape_of config → ReceivesItsOwn config.policy prelude words received
  own_of_these words emissions words_are all shape =
      let reader = knowing it.now it.life.reader in
      let cache = cache_then_later it.life.cache it.life.start reader in
      let told = it.receives in
      let values = values_at cache told.kept in
      let rest = it.life.left ++ map (λ (word : ℕ). word) (pending reader) in
      record {
        emissions = emissions;
        words_are = words_are;
        last = cache;
        are_last = (told.in_order_of_acceptance.0, sym all ∙ told.in_order_of_acceptance.1);
        kept = told.kept;
        dropped = told.dropped;
        rest = rest;
        received_then_rest = ap (λ (l : List ℕ). l ++ rest) (sym it.received_is) ∙ told.received_then_pending_is_prelude_cache_then_later
            ∙ ap (λ (l : List ℕ). l ++ map (λ (word : ℕ). word) values) it.prelude_is ∙ ap (λ (l : List ℕ). prelude ++ l) (map-id values);
        in_order_and_once = told.in_order_and_once;
        only_drop_oldest_drops = λ not. told.only_drop_oldest_drops (ap (λ (s : Shape). s.drops) shape ∙ keeps_all config.policy not);
      }

-- ---- shares

-- a party's share of the lock was halved so often, and it took these in
abbrev pub HasShare : ℕ → List (TakenOwner Round) → Party → Type 0
HasShare halved taken p = (p.halved ≡ halved) × (p.taken ≡ taken)

-- a party emitted nothing
abbrev pub IsQuiet : Party → Type 0
IsQuiet p = (e : ℕ) → EmitNothing e p.rounds

abbrev pub IsQuietWith : ℕ → List (TakenOwner Round) → Party → Type 0
IsQuietWith halved taken p = HasShare halved taken p × IsQuiet p

-- after a round that emits nothing
pub quiet_more : (halved : ℕ) (taken : List (TakenOwner Round)) (r : Round) (p q : Party) → IsQuietWith halved taken p → ((e : ℕ) → taken_up e r ≡ []) → Made r p q → IsQuietWith halved taken q
quiet_more halved taken r p q quiet nothing made = (
  (ap (λ (x : Party). x.halved) made.after ∙ quiet.0.0, ap (λ (x : Party). x.taken) made.after ∙ quiet.0.1),
  λ e. subst (EmitNothing e) (sym (ap (λ (x : Party). x.rounds) made.after)) (nothing_more e p.rounds r (quiet.1 e) (nothing e)),
)

pub quiet_same : (halved : ℕ) (taken : List (TakenOwner Round)) (list : Rounds) (p q : Party) → IsQuietWith halved taken p → q ≡ record p { seen = list } → IsQuietWith halved taken q
quiet_same halved taken list p q quiet same = subst (IsQuietWith halved taken) (sym same) quiet

has_same : (halved : ℕ) (p q : Party) → HasShare halved [] p → IsSameParty p q → HasShare halved [] q
has_same halved p q has same = (ap (λ (x : Party). x.halved) same ∙ has.0, ap (λ (x : Party). x.taken) same ∙ has.1)

-- the first owner, which has made no call
pub quiet_new : (p : Party) → p.rounds ≡ [] → p.halved ≡ 0 → p.taken ≡ [] → IsQuietWith 0 [] p
quiet_new p none whole nobody = ((whole, nobody), λ e. subst (EmitNothing e) (sym none) tt)

-- an owner that made another party
pub quiet_sharing : (halved : ℕ) (taken : List (TakenOwner Round)) (p : Party) → IsQuietWith halved taken p → IsQuietWith (suc halved) taken (sharing_of p)
quiet_sharing halved taken p quiet = ((ap suc quiet.0.0, quiet.0.1), quiet.1)

-- and the one that it made
pub quiet_newcomer : (halved : ℕ) (taken : List (TakenOwner Round)) (p q : Party) → IsQuietWith halved taken p → q ≡ newcomer_of q.pass p → IsQuietWith (suc halved) [] q
quiet_newcomer halved taken p q quiet new = subst (IsQuietWith (suc halved) []) (sym new) ((ap suc quiet.0.0, refl), λ e. tt)

-- an owner that took in another one, which had taken in nobody
pub quiet_taking : (halved : ℕ) (taken : List (TakenOwner Round)) (other p q : Party) → IsQuietWith halved taken p → other.taken ≡ [] → q ≡ taking_of other p
    → IsQuietWith halved (taken ++ part_of other ∷ []) q
quiet_taking halved taken other p q quiet none after = subst (IsQuietWith halved (taken ++ part_of other ∷ [])) (sym after)
    ((quiet.0.0, λ i. quiet.0.1 i ++ part_of other ∷ none i), quiet.1)

pub has_whole : (halved : ℕ) (parts : List (TakenOwner Round)) (p : Party) → HasShare halved parts p → HasAll halved parts → HasAll p.halved p.taken
has_whole halved parts p has all = subst (λ h. HasAll h p.taken) (sym has.0) (subst (HasAll halved) (sym has.1) all)

-- An owner that has the whole lock made a round, and emitted nothing: each round before that is of one party, or nothing was emitted by it.
who_emitted : (e pass halved : ℕ) (parts : List (TakenOwner Round)) (r : Round) (p q : Party) → IsQuietWith halved parts p → HasAll halved parts → (made : Made r p q)
    → AllByRecursion (IsPartBy e pass) parts → AreBy e pass made.before
who_emitted e pass halved parts r p q quiet all made others =
    are_by e pass p.pass p.rounds p.taken made.before made.saw.rounds_are made.saw.taken_in.parts_are (made.saw.taken_in.all (has_whole halved parts p quiet.0 all))
    (quiet.1 e) (subst (AllByRecursion (IsPartBy e pass)) (sym quiet.0.1) others)

-- ---- lists that begin with others

pub prefix_then : (xs ys zs : Rounds) → IsPrefix xs ys → IsPrefix ys zs → IsPrefix xs zs
prefix_then xs ys zs first then = (first.0 ++ then.0, then.1 ∙ ap (λ (l : Rounds). l ++ then.0) first.1 ∙ append_assoc xs first.0 then.0)

are_before : (e pass : ℕ) (xs ys : Rounds) → IsPrefix xs ys → AreBy e pass ys → AreBy e pass xs
are_before e pass xs ys begins are = each_before (IsBy e pass) xs begins.0 (subst (AreBy e pass) begins.1 are)

emitted_before : (e : ℕ) (xs ys : Rounds) → IsPrefix xs ys → Within (emitted e xs) (emitted e ys)
emitted_before e xs ys begins =
    subst (Within (emitted e xs)) (sym (ap (emitted e) begins.1 ∙ emitted_more e xs begins.0)) (within_front (emitted e xs) (emitted e begins.0))

-- ---- the exchanges

-- a subscription's party at its end, which was admitted by a quiet owner
quiet_end : (halved : ℕ) (taken : List (TakenOwner Round)) (p n q r : Party) (s t u : Subscribed ℕ) (received : List ℕ) (counts : Met) → IsQuietWith halved taken p
    → s.party ≡ newcomer_of s.party.pass p → TakesInTurn [] s received t → Meets n q t u counts → (end : TakesIn q r u) → IsQuietWith (suc halved) [] end.left
quiet_end halved taken p n q r s t u received counts quiet new takes meets end =
    let began = quiet_newcomer halved taken p s.party quiet new in
    let took = subst (IsQuietWith (suc halved) []) (sym takes.3) began in
    let met = quiet_same (suc halved) [] meets.made.before t.party u.party took meets.heard.same in
    quiet_more (suc halved) [] (round.Cancel u.number) u.party end.left met (λ e. refl) end.ended.made

-- an owner that let a subscription in, met it, and took it in
quiet_owner : (halved : ℕ) (p n q r : Party) (s t u : Subscribed ℕ) (received : List ℕ) (counts : Met) → IsQuietWith halved [] p
    → s.party ≡ newcomer_of s.party.pass p → WasAdmittedBy s.number s.reader (sharing_of p) n → TakesInTurn [] s received t → Meets n q t u counts
    → (end : TakesIn q r u) → IsQuietWith (suc halved) (part_of end.left ∷ []) r
quiet_owner halved p n q r s t u received counts quiet new admission takes meets end =
    let shared = quiet_sharing halved [] p quiet in
    let after_it = quiet_more (suc halved) [] (round.Subscribe (Ok s.number)) (sharing_of p) n shared (λ e. refl) admission.made in
    let met = quiet_more (suc halved) [] (round.Hold meets.count) n q after_it (λ e. refl) meets.made in
    quiet_taking (suc halved) [] end.left q r met (quiet_end halved [] p n q r s t u received counts quiet new takes meets end).0.1 end.after

-- of what it had heard of a party's rounds are in the list up to the meeting
own_at_meeting : (pass : ℕ) (rounds : List Round) (n : Party) (q : Party) (count : ℕ) (made : Made (round.Hold count) n q) → rounds ≡ own_of pass made.before → pass ≢ n.pass
    → own_of pass (made.before ++ (n.pass, round.Hold count, made.left) ∷ []) ≡ rounds
own_at_meeting pass rounds n q count made heard other = own_other made.before n.pass (round.Hold count) made.left pass other ∙ sym heard

-- The owner, an emitter and a subscription had met, and the emitter had made no round since then. Then the list goes on by the subscription's
-- end alone.
ends_alone : (p q n : Party) (last : Party) (end emitter : Party) (number count held : ℕ) (rest : Rounds) (meeting : Made (round.Hold held) n q)
    → HasShare 2 (part_of end ∷ part_of emitter ∷ []) p → HasAll 2 (part_of end ∷ part_of emitter ∷ []) → p.pass ≡ q.pass → p.rounds ≡ q.rounds
    → end.rounds ≡ round.Cancel number ∷ [] → own_of end.pass meeting.before ≡ [] → emitter.rounds ≡ own_of emitter.pass meeting.before
    → (made : Made (round.Count count) p last) → made.before ≡ (meeting.before ++ (n.pass, round.Hold held, meeting.left) ∷ []) ++ rest
    → map (λ (t : ℕ × Round × SharedSeen). t.1) rest ≡ round.Cancel number ∷ []
ends_alone p q n last end emitter number count held rest meeting has all same_pass same_rounds ended nothing heard made full =
    let parts = part_of end ∷ part_of emitter ∷ [] in
    let log = meeting.before ++ (n.pass, round.Hold held, meeting.left) ∷ [] in
    let pass : p.pass ≡ n.pass = same_pass ∙ ap (λ (x : Party). x.pass) meeting.after in
    let knows = made.saw.taken_in in
    let are : Parts (log ++ rest) parts = subst (λ (l : Rounds). Parts l parts) full (subst (Parts made.before) has.1 knows.parts_are) in
    let apart : Apart p.pass parts = subst (Apart p.pass) has.1 knows.apart in
    let each : MadeEach p.pass p.rounds parts (log ++ rest) =
    subst (λ (l : Rounds). MadeEach p.pass p.rounds parts l) full (subst (λ (l : List (TakenOwner Round)). MadeEach p.pass p.rounds l made.before) has.1 (knows.all (has_whole 2 parts p has all))) in
    let owner_log : own_of p.pass log ≡ p.rounds = ap (λ x. own_of x log) pass ∙ own_mine meeting.before n.pass (round.Hold held) meeting.left
    ∙ ap (λ (l : List Round). l ++ round.Hold held ∷ []) (sym meeting.saw.rounds_are) ∙ sym (ap (λ (x : Party). x.rounds) meeting.after) ∙ sym same_rounds in
    let of_owner : own_of p.pass rest ≡ [] =
    own_since p.pass log rest p.rounds [] (ap (own_of p.pass) (sym full) ∙ sym made.saw.rounds_are ∙ sym (append-nil p.rounds)) owner_log in
    let emitter_other : emitter.pass ≢ n.pass = λ is. apart.2.0 (is ∙ sym pass) in
    let emitter_log = own_at_meeting emitter.pass emitter.rounds n q held meeting heard emitter_other in
    let of_emitter : own_of emitter.pass rest ≡ [] = own_since emitter.pass log rest emitter.rounds [] (sym are.1.0 ∙ sym (append-nil emitter.rounds)) emitter_log in
    let end_other : end.pass ≢ n.pass = λ is. apart.0 (is ∙ sym pass) in
    let end_log = own_at_meeting end.pass [] n q held meeting (sym nothing) end_other in
    let of_end : own_of end.pass rest ≡ end.rounds = own_since end.pass log rest [] end.rounds (sym are.0) end_log in
    since_then p.pass p.rounds (part_of end) (part_of emitter) log rest each of_owner of_emitter ∙ of_end ∙ ended

-- What came of it for the owner, which had given half of its share to the emitter, and admitted the subscription by half of what it had left.
pub exchanged : (config : Config) (words received : List ℕ) (p n q last : Party) (s t u : Subscribed ℕ) (d e f : Emitting) (counts : Met) → IsMadeWith config p.flow
    → EachSubscriptionLaw {T = ℕ} (λ word. word) → EmitterAloneLaw ℕ → IsQuietWith 1 [] p → s.party ≡ newcomer_of s.party.pass p → WasAdmittedBy s.number s.reader (sharing_of p) n
    → TakesInTurn [] s received t → (meets : Meets n q t u counts) → d.party.rounds ≡ [] → d.id ≡ 1 → HasShare 1 [] d.party → TriesEach words d e
    → HasHeard meets.made.before e.party f.party → AreItsPart f → EndsBoth q last f u
    → ReceivesItsOwn config.policy s.rest words received × Exchange config s.rest words received last
exchanged config words received p n q last s t u d e f counts with law alone_law quiet newcomer admission takes meets new first share tries heard its ends =
    let it = receives (sharing_of p) n q s t u counts config received with (ap (λ (x : Party). x.flow) admission.made.after) law admission takes meets in
    let left = ends.takes_in.left in
    let ended = quiet_end 1 [] p n q ends.then s t u received counts quiet newcomer takes meets ends.takes_in in
    let emitter = has_same 1 e.party f.party (has_same 1 d.party e.party share tries.3) (heard_party meets.made.before e.party f.party heard) in
    let parts = part_of left ∷ part_of f.party ∷ [] in
    let took_in = quiet_owner 1 p n q ends.then s t u received counts quiet newcomer admission takes meets ends.takes_in in
    let holder = taking_of f.party ends.then in
    let owner : IsQuietWith 2 parts holder = quiet_taking 2 (part_of left ∷ []) f.party ends.then holder took_in emitter.1 refl in
    let all : HasAll 2 parts = (2, λ i. halves 2 2 + (halves 2 (ended.0.0 i) + (halves 2 (emitter.0 i) + 0))) in
    let full = ends.made.before in
    let sees : IsPrefix it.log full = subst (λ front. IsPrefix front full) (ap (λ (x : Party). x.seen) ends.takes_in.after ∙ ap (λ (x : Party). x.seen) meets.made.after) ends.made.saw.seen_on in
    let same : f.party.pass ≡ e.party.pass = ap (λ (x : Party). x.pass) heard.same in
    let emitter_heard : f.party.rounds ≡ own_of f.party.pass it.before =
    ap (λ (x : Party). x.rounds) heard.same ∙ heard.part ∙ ap (λ x. own_of x it.before) (sym same) in
    let by_itself : EmitsAlone f t u = record {
      before = n;
      after = q;
      counts = counts;
      meets = meets;
      all_rounds = emitter_heard;
      holder = holder;
      left = last;
      last_round = round.Count ends.count;
      made = ends.made;
      later = prefix_then it.before it.log full ((it.owner, round.Hold it.count, it.now) ∷ [], refl) sees;
      has_all = has_whole 2 parts holder owner.0 all;
      quiet = owner.1;
      others = subst (AllByRecursion (λ (x : TakenOwner Round). (x.pass ≡ f.party.pass) ⊎ NothingEmitted x.own)) (sym owner.0.1) (inr ended.1, (inl refl, tt));
    } in
    let own_rounds : AreTries 1 words f.party.rounds = subst (AreTries 1 words) (sym (ap (λ (x : Party). x.rounds) heard.same)) (own_tries 1 words d e new first tries) in
    let come = tries_come 1 words f.party.rounds [] own_rounds in
    let emissions_are : come.0 ≡ emitted_by_it f = sym come.1 in
    let settled : AreSettled (emitted_by_it f) = subst AreSettled emissions_are come.3 in
    let words_are : map (λ (x : ℕ × Outcome). x.0) (emitted_by_it f) ≡ words = subst (λ (l : Emissions). map (λ (x : ℕ × Outcome). x.0) l ≡ words) emissions_are come.2 in
    let own : AreTries 1 words (own_of f.party.pass it.before) = subst (AreTries 1 words) emitter_heard own_rounds in
    let are : (x : ℕ) → AreBy x f.party.pass it.before = alone_are f t u by_itself in
    let has : HasShare 2 parts last =
    (ap (λ (x : Party). x.halved) ends.made.after ∙ owner.0.0, ap (λ (x : Party). x.taken) ends.made.after ∙ owner.0.1) in
    let none_yet : u.party.rounds ≡ [] = ap (λ (x : Party). x.rounds) meets.heard.same ∙ ap (λ (x : Party). x.rounds) takes.3 ∙ ap (λ (x : Party). x.rounds) newcomer in
    let end_rounds : left.rounds ≡ round.Cancel u.number ∷ [] =
    ap (λ (x : Party). x.rounds) ends.takes_in.ended.made.after ∙ ap (λ (l : List Round). l ++ round.Cancel u.number ∷ []) none_yet in
    let end_is : left.pass ≡ t.party.pass = ap (λ (x : Party). x.pass) ends.takes_in.ended.made.after ∙ ap (λ (x : Party). x.pass) meets.heard.same in
    let not_ended : own_of left.pass it.before ≡ [] =
    ap (λ x. own_of x it.before) end_is ∙ sym meets.heard.part ∙ sym (ap (λ (x : Party). x.rounds) meets.heard.same) ∙ none_yet in
    let since = ends_alone holder q n last left f.party u.number ends.count meets.count sees.0 meets.made owner.0 all
    (ap (λ (x : Party). x.pass) ends.takes_in.after) (ap (λ (x : Party). x.rounds) ends.takes_in.after) end_rounds not_ended emitter_heard ends.made sees.1 in
    let counted : ℕ × Round × SharedSeen = (ends.then.pass, round.Count ends.count, ends.made.left) in
    let shape = shape_is config (sharing_of p) n s.number s.reader with admission in (
      own_of_these it words (emitted_by_it f) words_are (alone_law f t u its settled by_itself).accepted_are_its shape,
      record {
        received_with_others_is_prelude_then_words = received_of_one it f.party.pass words own are;
        receives = it;
        emits = (f.party.pass, own);
        seen = (
          u.number,
          ends.count,
          (
            sees.0 ++ counted ∷ [],
            ap (λ (x : Party). x.seen) ends.made.after ∙ ap (λ (l : Rounds). l ++ counted ∷ []) sees.1 ∙ append_assoc it.log sees.0 (counted ∷ []),
            map-append round_in sees.0 (counted ∷ []) ∙ ap (λ (l : List Round). l ++ round.Count ends.count ∷ []) since,
          ),
        );
        halved = has.0;
        has_all = has_whole 2 parts last has all;
      },
    )

-- The same of two emitters, of which the second heard of the meeting, and both of all rounds later.
pub late : (config : Config) (prelude first second later received : List ℕ) (p q r last : Party) (a b h c m n k : Emitting) → IsMadeWith config p.flow
    → EachSubscriptionLaw {T = ℕ} (λ word. word) → IsQuietWith 2 [] p → a.party.rounds ≡ [] → a.id ≡ 1 → HasShare 1 [] a.party → c.party.rounds ≡ [] → c.id ≡ 2
    → HasShare 2 [] c.party → TriesEach first a b → TriesEach second c m → TriesEach later m n → ReceivesBetween p q prelude received m.party → TellsBoth q r b h n k
    → EndsEmitters r last h k → LateExchange config prelude first second later received last
late config prelude first second later received p q r last a b h c m n k with law quiet new_one one share_one new_two two share_two tries_first tries_second tries_later between told ends =
    let before = between.began in
    let meets = between.meets in
    let same_flow = ap (λ (x : Party). x.flow) between.admission.made.after in
    let it = receives (sharing_of p) between.then between.last before between.took between.met between.counts config received with same_flow law between.admission between.takes meets in
    let left = between.takes_in.left in
    let ended = quiet_end 2 [] p between.then between.last q before between.took between.met received between.counts quiet between.is_newcomer between.takes meets between.takes_in in
    let took_in = quiet_owner 2 p between.then between.last q before between.took between.met received between.counts quiet between.is_newcomer between.admission between.takes meets between.takes_in in
    let rounds = told.made.before in
    let tries_both = tries_on second later c m n tries_second tries_later in
    let has_one = has_same 1 b.party h.party (has_same 1 a.party b.party share_one tries_first.3) (heard_party rounds b.party h.party told.first) in
    let has_two = has_same 2 n.party k.party (has_same 2 c.party n.party share_two tries_both.3) (heard_party rounds n.party k.party told.second) in
    let parts = part_of left ∷ part_of h.party ∷ part_of k.party ∷ [] in
    let tells = quiet_more 3 (part_of left ∷ []) (round.Hold told.count) q r took_in (λ e. refl) told.made in
    let with_one = quiet_taking 3 (part_of left ∷ []) h.party r (taking_of h.party r) tells has_one.1 refl in
    let owner : IsQuietWith 3 parts (taking_of k.party (taking_of h.party r)) =
    quiet_taking 3 (part_of left ∷ part_of h.party ∷ []) k.party (taking_of h.party r) (taking_of k.party (taking_of h.party r)) with_one has_two.1 refl in
    let all : HasAll 3 parts = (3, λ i. halves 3 3 + (halves 3 (ended.0.0 i) + (halves 3 (has_one.0 i) + (halves 3 (has_two.0 i) + 0)))) in
    let full = ends.made.before in
    let goes_on : IsPrefix it.log rounds =
    subst (λ front. IsPrefix front rounds) (ap (λ (x : Party). x.seen) between.takes_in.after ∙ ap (λ (x : Party). x.seen) meets.made.after) told.made.saw.seen_on in
    let before_is : IsPrefix it.before it.log = ((it.owner, round.Hold it.count, it.now) ∷ [], refl) in
    let told_is : IsPrefix rounds r.seen = ((q.pass, round.Hold told.count, told.made.left) ∷ [], ap (λ (x : Party). x.seen) told.made.after) in
    let sees : IsPrefix rounds full = prefix_then rounds r.seen full told_is ends.made.saw.seen_on in
    let meeting : IsPrefix it.before rounds = prefix_then it.before it.log rounds before_is goes_on in
    let whole : (e pass : ℕ) → AllByRecursion (IsPartBy e pass) parts → AreBy e pass full =
    λ e pass others. who_emitted e pass 3 parts (round.Count ends.count) (taking_of k.party (taking_of h.party r)) last owner all ends.made others in
    let own_one = tries_in 1 first rounds a b new_one one tries_first told.first.part in
    let own_two = tries_in 2 second it.before c m new_two two tries_second between.heard in
    let all_two = tries_in 2 (second ++ later) rounds c n new_two two tries_both told.second.part in
    let of_one : AreTries 1 first h.party.rounds = subst (AreTries 1 first) (sym (ap (λ (x : Party). x.rounds) told.first.same)) (own_tries 1 first a b new_one one tries_first) in
    let of_both : AreTries 2 (second ++ later) k.party.rounds =
    subst (AreTries 2 (second ++ later)) (sym (ap (λ (x : Party). x.rounds) told.second.same)) (own_tries 2 (second ++ later) c n new_two two tries_both) in
    let one_is : h.party.pass ≡ b.party.pass = ap (λ (x : Party). x.pass) told.first.same in
    let two_is : k.party.pass ≡ m.party.pass = ap (λ (x : Party). x.pass) told.second.same ∙ ap (λ (x : Party). x.pass) tries_later.3 in
    let first_are : (e : ℕ) → AreApart 2 e → AreBy e b.party.pass rounds = λ e other. are_before e b.party.pass rounds full sees
    (whole e b.party.pass (inr (ended.1 e), (inl one_is, (inr (tries_nothing e 2 (second ++ later) k.party.rounds other of_both), tt)))) in
    let second_are : AreBy 2 m.party.pass it.before = are_before 2 m.party.pass it.before rounds meeting (are_before 2 m.party.pass rounds full sees
    (whole 2 m.party.pass (inr (ended.1 2), (inr (tries_nothing 2 1 first h.party.rounds one_and_two of_one), (inl two_is, tt))))) in
    let by_first : Within (emitted 1 it.before) first = within_then (emitted 1 it.before) (emitted 1 rounds) first (emitted_before 1 it.before rounds meeting)
    (subst (λ (l : List ℕ). Within l first) (sym (emitted_by 1 b.party.pass rounds (first_are 1 two_and_one))) (tries_within 1 first (own_of b.party.pass rounds) own_one)) in
    let by_second : Within (emitted 2 it.before) second =
    subst (λ (l : List ℕ). Within l second) (sym (emitted_by 2 m.party.pass it.before second_are)) (tries_within 2 second (own_of m.party.pass it.before) own_two) in
    let nobody : (e : ℕ) → AreApart 1 e → AreApart 2 e → emitted e it.before ≡ [] = λ e not_one not_two.
    subst (Within (emitted e it.before)) (emitted_by e b.party.pass rounds (first_are e not_two)
    ∙ nothing_of e (own_of b.party.pass rounds) (tries_nothing e 1 first (own_of b.party.pass rounds) not_one own_one)) (emitted_before e it.before rounds meeting) in
    let has : HasShare 3 parts last =
    (ap (λ (x : Party). x.halved) ends.made.after ∙ owner.0.0, ap (λ (x : Party). x.taken) ends.made.after ∙ owner.0.1) in
    subst (λ (l : List ℕ). LateExchange config l first second later received last) between.prelude_is (record {
      received_with_others_is_prelude_then_both = received_of_both it 1 2 first second one_and_two by_first by_second nobody;
      receives = it;
      rounds = rounds;
      goes_on = goes_on;
      emits_first = (b.party.pass, own_one);
      emits_second = (n.party.pass, all_two);
      seen = prefix_then rounds full last.seen sees ((r.pass, round.Count ends.count, ends.made.left) ∷ [], ap (λ (x : Party). x.seen) ends.made.after);
      halved = has.0;
      has_all = has_whole 3 parts last has all;
    })
