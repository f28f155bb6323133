-- What an object of a script answers is what its thing answers, where flows show their models.
use Rattle.std.proofs.Common.{◌≡◌, inl, inr, ⊎_elim, ℕ, nat_le, length, Bool, true, false, List, [], Option, Some, None, Result, Ok, Err, MatchResult, if◌then◌else◌, refl, sym, ap, subst, ◌∙◌}
use Rattle.flow_buffer.specs.Capacity.{refused_capacity}
use Rattle.flow_terms.specs.declared.policy.Policy.{Policy}
use Rattle.flow_terms.specs.declared.refusal.Refusal.{Refusal}
use Rattle.flow_terms.specs.declared.refusal.Refusal.TheVariants.{NoMemory, PreludeTooLong}
use Rattle.flow_terms.specs.declared.ids.SubId.{SubId}
use Rattle.flow_terms.specs.declared.started.Started.{Started}
use Rattle.shared_core.specs.Calls as calls
use Rattle.shared_core.specs.Flow.{State, empty}
use Rattle.shared_core.specs.Kept.{making_refusal, parameters_of}
use Rattle.shared_core.specs.Shown.{Seen, Shows, Follows}
use Rattle.script_calls.specs.Views.{receipts_of, emissions_of}
use Rattle.script_commands.specs.declared.answer.Answer.{Answer}
use Rattle.script_commands.specs.declared.answer.Answer.TheVariants as answers
use Rattle.script_commands.specs.declared.part.Part.{Part}
use Rattle.script_commands.specs.declared.part.Part.TheVariants.{Whole, Subscription, InFlight, Finished}
use Rattle.script_commands.specs.declared.request.Request.{Request}
use Rattle.script_commands.specs.declared.request.Request.TheVariants as requests
use Rattle.script_commands.specs.Commands.{Made, Joining}
use Rattle.script_commands.specs.Commands as commands
use Rattle.script_commands.specs.Parts.{subscription_in, emission_in}
use Rattle.script_commands.specs.Replies.{try_answer, emit_answer, poll_answer, withdraw_answer, subscribe_answer, next_answer, cancel_answer, cache_answer}
use Rattle.script_commands.specs.Sources.{Origin}
use Rattle.script_calls.specs.Makings.{MadeUnless}
use Rattle.script_engines.specs.Modelling.{receiving, emitting}
use Rattle.script_engines.specs.Preludes.{subscribed}
use Rattle.script_run.specs.declared.buffer.ScriptBuffer.{ScriptBuffer}
use Rattle.script_run.specs.declared.object.Object.{Object}
use Rattle.script_run.specs.declared.object.Object.TheVariants as objects
use Rattle.script_run.specs.declared.sourced.Sourced.{Sourced}
use Rattle.script_run.specs.Buffered.{ShowsBuffer, AsksBuffer, ask_buffer}
use Rattle.script_run.specs.Buffers.{Buffering, begun}
use Rattle.script_run.specs.Flows.{AsksFlow, JoinsFlow, SubscribesUnless}
use Rattle.script_run.specs.Objects.{Makes, Keeps, as_object}
use Rattle.script_run.specs.Replied.{Joined, NoAnswer}
use Rattle.script_words.specs.Starts.{Starting, start_refusal}
use Rattle.script_engines.specs.Keeping as states
use Rattle.script_engines.specs.Watching.{Watch, ShowEach, watching, setting}
use Rattle.script_engines.specs.Watching as watched
use Rattle.script_engines.proofs.Keeping.{acts_as_kept}
use Rattle.script_run.specs.States.{AsksState, JoinsState}
use Rattle.state_flow.specs.declared.view.View.{View}
use Rattle.state_flow.specs.Views.{HasAll}
use Rattle.flow_script.specs.Makers.{StartsOr, MakesState, config_of, made_as}
use Rattle.script_model.specs.Findings.{Finding, plain, refused, waited, said, took, was_refused, has_waited}
use Rattle.script_model.specs.Things.{Thing, flow, buffer, state, untold, ask, join, ask_flow, ask_state, join_flow, join_state, reason_against, first_reason, thing_of}
use Rattle.script_model.proofs.Steps.{MakesThing, Meets}

-- a call was made, and its reply is the answer
call_replied : {R : Type 0} (call : State ℕ → R × State ℕ) (answer_of : R → Answer) (old new : Seen ℕ) (answer : Option Answer) (M : State ℕ) (reply : R)
    → Shows old M → Follows call old reply new → answer ≡ Some (answer_of reply) → (answer ≡ Some (answer_of (call M).0)) × Shows new (call M).1
call_replied call answer_of old new answer M reply shows follows is =
    let came = follows M shows in (is ∙ ap (λ r. Some (answer_of r)) came.0, came.1)

call_joined : {R : Type 0} (call : State ℕ → R × State ℕ) (answer_of : R → Answer) (part_of : R → Option Part) (old new : Seen ℕ) (joined : Option Joined) (M : State ℕ) (reply : R)
    → Shows old M → Follows call old reply new → joined ≡ Some (answer_of reply, part_of reply) → (joined ≡ Some (answer_of (call M).0, part_of (call M).0)) × Shows new (call M).1
call_joined call answer_of part_of old new joined M reply shows follows is =
    let came = follows M shows in (is ∙ ap (λ r. Some (answer_of r, part_of r)) came.0, came.1)

module _ {F : Type 0} (seen : F → Seen ℕ) where
  -- no call was made
  uncalled : {A : Type 0} (old new : F) (answer : Option A) (M : State ℕ) → Shows (seen old) M → NoAnswer old answer new → (answer ≡ None) × Shows (seen new) M
  uncalled old new answer M shows h = (h.0, subst (λ it. Shows (seen it) M) (sym h.1) shows)

  flow_asks : (part : Part) (request : Request) (old new : F) (answer : Option Answer) (M : State ℕ) → Shows (seen old) M
      → AsksFlow (receipts_of seen receiving) (emissions_of seen emitting) part request old answer new → (answer ≡ (ask_flow part request M).0) × Shows (seen new) (ask_flow part request M).1
  flow_asks Whole (requests.Try value) old new answer M shows h = call_replied (calls.try_emit 0 value) try_answer (seen old) (seen new) answer M h.0 shows h.1 h.2
  flow_asks Whole requests.Reset old new answer M shows h = (h.1, h.0 M shows)
  flow_asks Whole requests.Cache old new answer M shows h =
      let came = h.1 M shows in (h.2 ∙ ap (λ r. Some (cache_answer r)) came.0, came.1)
  flow_asks Whole requests.Count old new answer M shows h =
      let came = h.1 M shows in (h.2 ∙ ap (λ r. Some (answers.Number r)) came.0, came.1)
  flow_asks (Subscription id) requests.Next old new answer M shows h = call_replied (calls.next_value id.0) next_answer (seen old) (seen new) answer M h.0 shows h.1 h.2
  flow_asks (Subscription id) requests.Cancel old new answer M shows h = call_replied (calls.cancel id.0) cancel_answer (seen old) (seen new) answer M h.0 shows h.1 h.2
  flow_asks (InFlight ticket) requests.Poll old new answer M shows h = call_replied (calls.poll_emit ticket.0) poll_answer (seen old) (seen new) answer M h.0 shows h.1 h.2
  flow_asks (InFlight ticket) requests.Withdraw old new answer M shows h = call_replied (calls.cancel_emit ticket.0) withdraw_answer (seen old) (seen new) answer M h.0 shows h.1 h.2
  flow_asks Finished requests.Poll old new answer M shows h = (h.0, subst (λ it. Shows (seen it) M) (sym h.1) shows)
  flow_asks Finished requests.Withdraw old new answer M shows h = (h.0, subst (λ it. Shows (seen it) M) (sym h.1) shows)
  flow_asks part request old new answer M shows h = uncalled old new answer M shows h

  -- a prelude of more than 16 numbers is refused, and no call is made
  subscribes : (fits : Bool) (numbers : List ℕ) (old new : F) (reply : Result SubId Refusal) (M : State ℕ) → nat_le (length numbers) 16 ≡ fits → Shows (seen old) M
      → SubscribesUnless (receipts_of seen receiving) (if fits then None else Some PreludeTooLong) numbers old reply new
      → (reply ≡ (subscribed numbers M).0) × Shows (seen new) (subscribed numbers M).1
  subscribes true numbers old new reply M is shows h = h M shows
  subscribes false numbers old new reply M is shows h = rw is (h.0, subst (λ it. Shows (seen it) M) (sym h.1) shows)

  flow_joins : (part : Part) (joiner : Joining) (old new : F) (joined : Option Joined) (M : State ℕ) → Shows (seen old) M
      → JoinsFlow (receipts_of seen receiving) (emissions_of seen emitting) part joiner old joined new → (joined ≡ (join_flow part joiner M).0) × Shows (seen new) (join_flow part joiner M).1
  flow_joins Whole (commands.subscription numbers) old new joined M shows h =
      let came = subscribes (nat_le (length numbers) 16) numbers old new h.0 M refl shows h.1 in
      (h.2 ∙ ap (λ r. Some (subscribe_answer r, subscription_in r)) came.0, came.1)
  flow_joins Whole (commands.emission value) old new joined M shows h =
      call_joined (calls.start_emit 0 value) emit_answer emission_in (seen old) (seen new) joined M h.0 shows h.1 h.2
  flow_joins part joiner old new joined M shows h = uncalled old new joined M shows h

-- ---- a state

-- no call was made
unchanged : {A : Type 0} (old new : Watch) (answer : Option A) (kept : states.Kept) → watched.Shows old kept → NoAnswer old answer new → (answer ≡ None) × watched.Shows new kept
unchanged old new answer kept shows h = (h.0, subst (λ it. watched.Shows it kept) (sym h.1) shows)

state_asks : (part : Part) (request : Request) (old new : Watch) (answer : Option Answer) (kept : states.Kept) → watched.Shows old kept → AsksState watching setting part request old answer new
    → (answer ≡ (ask_state part request kept).0) × watched.Shows new (ask_state part request kept).1
state_asks Whole requests.Value old new answer kept shows h =
    let came = acts_as_kept.reads old new h.0 h.1 kept shows in (h.2 ∙ ap (λ r. Some (answers.Value r)) came.0, came.1)
state_asks Whole (requests.Set value) old new answer kept shows h = (h.1, acts_as_kept.sets old new value h.0 kept shows)
state_asks Whole (requests.CompareAndSet expect update) old new answer kept shows h =
    let came = acts_as_kept.compares old new expect update h.0 h.1 kept shows in (h.2 ∙ ap (λ r. Some (answers.Truth r)) came.0, came.1)
state_asks Whole requests.Count old new answer kept shows h =
    let came = acts_as_kept.counts old new h.0 h.1 kept shows in (h.2 ∙ ap (λ r. Some (answers.Number r)) came.0, came.1)
state_asks (Subscription id) requests.Next old new answer kept shows h =
    let came = acts_as_kept.nexts old new id h.0 h.1 kept shows in (h.2 ∙ ap (λ r. Some (next_answer r)) came.0, came.1)
state_asks (Subscription id) requests.Cancel old new answer kept shows h =
    let came = acts_as_kept.cancels old new id h.0 h.1 kept shows in (h.2 ∙ ap (λ r. Some (cancel_answer r)) came.0, came.1)
state_asks part request old new answer kept shows h = unchanged old new answer kept shows h

-- memory was refused to a collector, or not
state_joins : (part : Part) (joiner : Joining) (old new : Watch) (joined : Option Joined) (kept : states.Kept) → watched.Shows old kept → JoinsState watching part joiner old joined new
    → (finding : Finding) × (joined ≡ (join_state (was_refused finding) part joiner kept).0) × watched.Shows new (join_state (was_refused finding) part joiner kept).1
state_joins Whole commands.collector old new joined kept shows h = ⊎_elim
    (λ (lacked : (h.0 ≡ Err NoMemory) × (new ≡ old)). (refused, h.2 ∙ ap (λ r. Some (subscribe_answer r, subscription_in r)) lacked.0, subst (λ it. watched.Shows it kept) (sym lacked.1) shows))
    (λ (follows : watched.Follows states.collected old h.0 new). let came = follows kept shows in (plain, h.2 ∙ ap (λ r. Some (subscribe_answer r, subscription_in r)) came.0, came.1))
    (acts_as_kept.collects_one old new h.0 h.1)
state_joins part joiner old new joined kept shows h = let came = unchanged old new joined kept shows h in (plain, came.0, came.1)

-- it begins with its value
made_state : (value : ℕ) (reply : Result Watch Refusal) → MakesState value reply → MadeUnless None reply (λ it. watched.Shows it (states.begun value))
made_state value (Ok it) h = (
  refl,
  record {
    all = subst (λ (v : View ℕ). HasAll v) (sym h.1) refl;
    seen = ap (λ (v : View ℕ). v.seen) h.1;
    stands = refl;
    each = subst (λ places. ShowEach places []) (sym h.0) tt;
  },
)
made_state value (Err refusal) h = inr (refl, h)

-- whether a buffer's source was pending
buffer_asks : (is_pending : Bool) (part : Part) (request : Request) (new : ScriptBuffer) (answer : Option Answer) (held : Buffering)
    → (answer ≡ (ask_buffer part request is_pending held).0) × ShowsBuffer new (ask_buffer part request is_pending held).1
    → (finding : Finding) × (answer ≡ (ask_buffer part request (has_waited finding) held).0) × ShowsBuffer new (ask_buffer part request (has_waited finding) held).1
buffer_asks true part request new answer held came = (waited, came.0, came.1)
buffer_asks false part request new answer held came = (plain, came.0, came.1)

-- ---- makers that are refused for what a line says, and else for want of memory

-- for want of memory alone
unless_memory : {A : Type 0} (holds : A → Type 0) (reply : Result A Refusal) → MatchResult reply holds (λ refusal. refusal ≡ NoMemory) → MadeUnless None reply (λ it. Unit {0})
unless_memory holds (Ok it) h = (refl, tt)
unless_memory holds (Err refusal) h = inr (refl, h)

weaker : {A : Type 0} (why : Option Refusal) (holds : A → Type 0) (reply : Result A Refusal) → MadeUnless why reply holds → MadeUnless why reply (λ it. Unit {0})
weaker why holds (Ok it) h = (h.0, tt)
weaker why holds (Err refusal) h = h

started_unless : {A : Type 0} (start : Option Refusal) (starting : Starting) (words : Option Refusal) (holds : Started → A → Type 0) (reply : Result A Refusal)
    → StartsOr start starting (λ started made. MadeUnless words made (holds started)) reply → MadeUnless (first_reason start words) reply (λ it. Unit {0})
started_unless (Some refusal) starting words holds reply h = subst (λ r. MadeUnless (Some refusal) r (λ it. Unit {0})) (sym h) (inl refl)
started_unless None starting words holds reply h = weaker words (holds h.0) reply h.2

started_or : {A : Type 0} (start : Option Refusal) (starting : Starting) (holds : Started → A → Type 0) (reply : Result A Refusal)
    → StartsOr start starting (λ started made. MatchResult made (holds started) (λ refusal. refusal ≡ NoMemory)) reply → MadeUnless start reply (λ it. Unit {0})
started_or (Some refusal) starting holds reply h = subst (λ r. MadeUnless (Some refusal) r (λ it. Unit {0})) (sym h) (inl refl)
started_or None starting holds reply h = unless_memory (holds h.0) reply h.2

module _ {F L H K : Type 0} (seen : F → Seen ℕ) where
  -- which thing an object stands for
  abbrev pub Stands : Object F Watch L H K → Thing → Type 0
  Stands (objects.Flow shown) (flow M) = Shows (seen shown) M
  Stands (objects.Buffer shown) (buffer held) = ShowsBuffer shown held
  Stands (objects.State shown) (state kept) = watched.Shows shown kept
  Stands (objects.Share shown) untold = Unit {0}
  Stands (objects.Stated shown) untold = Unit {0}
  Stands object thing = ⊥

  -- ---- what is made

  -- it was made where there is no reason against it, and stands for its thing then
  made_by : {A : Type 0} (kind : A → Object F Watch L H K) (holds : A → Type 0) (made : Made) (reply : Result A Refusal) (result : Result (Object F Watch L H K) Refusal)
      → ((it : A) → holds it → Stands (kind it) (thing_of made)) → MadeUnless (reason_against made) reply holds → result ≡ as_object kind reply → MakesThing Stands made result
  made_by kind holds made (Ok it) result stands h is = subst (λ r. MakesThing Stands made r) (sym is) (h.0, stands it h.1)
  made_by kind holds made (Err refusal) result stands h is = subst (λ r. MakesThing Stands made r) (sym is) h

  module _ (shares : ℕ → ℕ → Policy → Starting → Origin → Started → Sourced L H → Type 0) (stateds : ℕ → Starting → Origin → Started → Sourced Watch K → Type 0) where
    -- what a line makes, whatever is so of what shares a source
    abbrev pub MakesKnown : Made → Result (Object F Watch L H K) Refusal → Type 0
    MakesKnown (commands.shared replay extra policy) result =
        Makes (λ reply. MadeUnless (making_refusal (config_of replay extra policy)) reply (λ it. Shows (seen it) (empty (parameters_of (config_of replay extra policy))))) objects.Flow result
    MakesKnown (commands.state value) result = Makes (MakesState value) objects.State result
    MakesKnown (commands.buffer capacity policy origin) result =
        Makes (λ reply. MadeUnless (refused_capacity capacity) reply (λ it. ShowsBuffer it (begun capacity policy origin))) objects.Buffer result
    MakesKnown (commands.share replay extra policy starting origin) result =
        Makes (λ reply. StartsOr (start_refusal starting) starting
        (λ started made. MadeUnless (making_refusal (config_of replay extra policy)) made (λ it. shares replay extra policy starting origin started it)) reply) objects.Share result
    MakesKnown (commands.stated value starting origin) result =
        Makes (λ reply. StartsOr (start_refusal starting) starting
        (λ started made. MatchResult made (λ it. stateds value starting origin started it) (λ refusal. refusal ≡ NoMemory)) reply) objects.Stated result

    pub makes_object : (made : Made) (result : Result (Object F Watch L H K) Refusal) → MakesKnown made result → MakesThing Stands made result
    makes_object (commands.shared replay extra policy) result h = made_by objects.Flow _ (commands.shared replay extra policy) h.0 result (λ it shows. shows) h.1 h.2
    makes_object (commands.state value) result h =
        made_by objects.State (λ it. watched.Shows it (states.begun value)) (commands.state value) h.0 result (λ it shows. shows) (made_state value h.0 h.1) h.2
    makes_object (commands.buffer capacity policy origin) result h =
        made_by objects.Buffer _ (commands.buffer capacity policy origin) h.0 result (λ it shows. shows) h.1 h.2
    makes_object (commands.share replay extra policy starting origin) result h =
        made_by objects.Share (λ it. Unit {0}) (commands.share replay extra policy starting origin) h.0 result (λ it shows. tt)
        (started_unless (start_refusal starting) starting (making_refusal (config_of replay extra policy)) (shares replay extra policy starting origin) h.0 h.1) h.2
    makes_object (commands.stated value starting origin) result h =
        made_by objects.Stated (λ it. Unit {0}) (commands.stated value starting origin) h.0 result (λ it shows. tt)
        (started_or (start_refusal starting) starting (stateds value starting origin) h.0 h.1) h.2

  -- ---- what is asked, and who joins

  module _ (shares : Sourced L H → Sourced L H → Type 0) (stateds : Sourced Watch K → Sourced Watch K → Type 0) where
    -- what an object answers, whatever what shares a source does
    abbrev pub AsksKnown : Part → Request → Object F Watch L H K → Option Answer → Object F Watch L H K → Type 0
    AsksKnown part request (objects.Flow shown) answer new =
        Keeps objects.Flow (λ after. AsksFlow (receipts_of seen receiving) (emissions_of seen emitting) part request shown answer after) new
    AsksKnown part request (objects.State shown) answer new = Keeps objects.State (λ after. AsksState watching setting part request shown answer after) new
    AsksKnown part request (objects.Share shown) answer new = Keeps objects.Share (λ after. shares shown after) new
    AsksKnown part request (objects.Stated shown) answer new = Keeps objects.Stated (λ after. stateds shown after) new
    AsksKnown part request (objects.Buffer shown) answer new = Keeps objects.Buffer (λ after. AsksBuffer part request shown answer after) new

    pub asks_object : (part : Part) (request : Request) (old new : Object F Watch L H K) (answer : Option Answer) (thing : Thing) → AsksKnown part request old answer new → Stands old thing
        → (finding : Finding) × (answer ≡ (ask finding part request thing).0) × Stands new (ask finding part request thing).1
    asks_object part request (objects.Flow shown) new answer (flow M) h stands =
        let came = flow_asks seen part request shown h.0 answer M stands h.1 in
        (plain, came.0, subst (λ object. Stands object (flow (ask_flow part request M).1)) (sym h.2) came.1)
    asks_object part request (objects.Buffer shown) new answer (buffer held) h stands =
        let came = h.1 held stands in
        let found = buffer_asks came.0 part request h.0 answer held came.1 in
        (found.0, found.1, subst (λ object. Stands object (buffer (ask_buffer part request (has_waited found.0) held).1)) (sym h.2) found.2)
    asks_object part request (objects.State shown) new answer (state kept) h stands =
        let came = state_asks part request shown h.0 answer kept stands h.1 in
        (plain, came.0, subst (λ object. Stands object (state (ask_state part request kept).1)) (sym h.2) came.1)
    asks_object part request (objects.Share shown) new answer untold h stands = (said answer, refl, subst (λ object. Stands object untold) (sym h.2) tt)
    asks_object part request (objects.Stated shown) new answer untold h stands = (said answer, refl, subst (λ object. Stands object untold) (sym h.2) tt)
    asks_object part request old new answer thing h stands = absurd stands

    -- what an object answers to a party, whatever what shares a source does
    abbrev pub JoinsKnown : Part → Joining → Object F Watch L H K → Option Joined → Object F Watch L H K → Type 0
    JoinsKnown part joiner (objects.Flow shown) joined new =
        Keeps objects.Flow (λ after. JoinsFlow (receipts_of seen receiving) (emissions_of seen emitting) part joiner shown joined after) new
    JoinsKnown part joiner (objects.State shown) joined new = Keeps objects.State (λ after. JoinsState watching part joiner shown joined after) new
    JoinsKnown part joiner (objects.Share shown) joined new = Keeps objects.Share (λ after. shares shown after) new
    JoinsKnown part joiner (objects.Stated shown) joined new = Keeps objects.Stated (λ after. stateds shown after) new
    JoinsKnown part joiner (objects.Buffer shown) joined new = NoAnswer (objects.Buffer shown) joined new

    pub joins_object : (part : Part) (joiner : Joining) (old new : Object F Watch L H K) (joined : Option Joined) (thing : Thing) → JoinsKnown part joiner old joined new → Stands old thing
        → (finding : Finding) × (joined ≡ (join finding part joiner thing).0) × Stands new (join finding part joiner thing).1
    joins_object part joiner (objects.Flow shown) new joined (flow M) h stands =
        let came = flow_joins seen part joiner shown h.0 joined M stands h.1 in
        (plain, came.0, subst (λ object. Stands object (flow (join_flow part joiner M).1)) (sym h.2) came.1)
    joins_object part joiner (objects.Buffer shown) new joined (buffer held) h stands = (plain, h.0, subst (λ object. Stands object (buffer held)) (sym h.1) stands)
    joins_object part joiner (objects.State shown) new joined (state kept) h stands =
        let came = state_joins part joiner shown h.0 joined kept stands h.1 in
        (came.0, came.1, subst (λ object. Stands object (state (join_state (was_refused came.0) part joiner kept).1)) (sym h.2) came.2)
    joins_object part joiner (objects.Share shown) new joined untold h stands = (took joined, refl, subst (λ object. Stands object untold) (sym h.2) tt)
    joins_object part joiner (objects.Stated shown) new joined untold h stands = (took joined, refl, subst (λ object. Stands object untold) (sym h.2) tt)
    joins_object part joiner old new joined thing h stands = absurd stands

-- ---- what an object is kept in

makes_inside : {O B : Type 0} (object : O → B) (stands : B → Thing → Type 0) (made : Made) (reply : Result O Refusal) → MakesThing stands made (made_as object reply)
    → MakesThing (λ it thing. stands (object it) thing) made reply
makes_inside object stands made (Ok it) h = h
makes_inside object stands made (Err refusal) h = h

module _ {O F L H K : Type 0} (seen : F → Seen ℕ) (object : O → Object F Watch L H K) where
  abbrev pub StandsInside : O → Thing → Type 0
  StandsInside it thing = Stands seen (object it) thing

  -- THE CALLS ON OBJECTS ARE THOSE ON THEIR THINGS, whatever what shares a source does
  pub object_meets : (makes : Made → Result O Refusal → Type 0) (asks : Part → Request → O → Option Answer → O → Type 0) (joins : Part → Joining → O → Option Joined → O → Type 0)
      (shares : ℕ → ℕ → Policy → Starting → Origin → Started → Sourced L H → Type 0) (stateds : ℕ → Starting → Origin → Started → Sourced Watch K → Type 0)
      (shares' : Part → Request → Option Answer → Sourced L H → Sourced L H → Type 0) (stateds' : Part → Request → Option Answer → Sourced Watch K → Sourced Watch K → Type 0)
      (shares'' : Part → Joining → Option Joined → Sourced L H → Sourced L H → Type 0) (stateds'' : Part → Joining → Option Joined → Sourced Watch K → Sourced Watch K → Type 0)
      → ((made : Made) (reply : Result O Refusal) → makes made reply → MakesKnown seen shares stateds made (made_as object reply))
      → ((part : Part) (request : Request) (old new : O) (answer : Option Answer) → asks part request old answer new
      → AsksKnown seen (shares' part request answer) (stateds' part request answer) part request (object old) answer (object new))
      → ((part : Part) (joiner : Joining) (old new : O) (joined : Option Joined) → joins part joiner old joined new
      → JoinsKnown seen (shares'' part joiner joined) (stateds'' part joiner joined) part joiner (object old) joined (object new))
      → Meets StandsInside makes asks joins
  object_meets makes asks joins shares stateds shares' stateds' shares'' stateds'' making asking joining = record {
    making = λ made reply h. makes_inside object (Stands seen) made reply (makes_object seen shares stateds made (made_as object reply) (making made reply h));
    asking = λ part request old new answer thing h stands.
        asks_object seen (shares' part request answer) (stateds' part request answer) part request (object old) (object new) answer thing (asking part request old new answer h) stands;
    joining = λ part joiner old new joined thing h stands.
        joins_object seen (shares'' part joiner joined) (stateds'' part joiner joined) part joiner (object old) (object new) joined thing (joining part joiner old new joined h) stands;
  }
