-- What makes the flows and states of a script, by what is seen of what was made.
use Rattle.std.specs.Prelude.{◌≡◌, ℕ, [], Option, Some, None, Result, Ok, Err, MatchResult}
use Rattle.cold_flow.specs.declared.flow.Flow as flows
use Rattle.cold_flow.specs.declared.run.Run as runs
use Rattle.flow_terms.specs.declared.policy.Policy.{Policy}
use Rattle.flow_terms.specs.declared.refusal.Refusal.{Refusal}
use Rattle.flow_terms.specs.declared.refusal.Refusal.TheVariants.{NoMemory}
use Rattle.flow_terms.specs.declared.started.Started.{Started}
use Rattle.sharing_upstream.specs.declared.upstream.Course.TheVariants.{Idle}
use Rattle.sharing_upstream.specs.Shown.{started_by, Shows}
use Rattle.shared_core.specs.declared.config.Config.{Config}
use Rattle.shared_core.specs.Flow.{empty}
use Rattle.shared_core.specs.Kept.{making_refusal, parameters_of}
use Rattle.shared_core.specs.Shown as core
use Rattle.shared_rounds.specs.Names.{IsMadeWith}
use Rattle.shared_flow.specs.Owners.{HasMadeNoCall}
use Rattle.shared_flow.specs.Parties.{named}
use Rattle.state_flow.specs.Calls.{Sets}
use Rattle.state_flow.specs.Views.{opening, giver, taker}
use Rattle.script_commands.specs.declared.source_flow.SourceFlow.{SourceFlow}
use Rattle.script_commands.specs.Commands.{Made}
use Rattle.script_commands.specs.Sources.{Origin, origin_in}
use Rattle.script_calls.specs.Makings.{MadeUnless}
use Rattle.script_engines.specs.declared.for_threads.ForThreads.{ForThreads}
use Rattle.script_engines.specs.declared.one_thread.OneThread.{OneThread}
use Rattle.script_engines.specs.declared.subscriptions.Subscriptions.{Subscriptions}
use Rattle.script_engines.specs.Parties.{IsUntouched}
use Rattle.script_engines.specs.Seen.{state_of, parties_of}
use Rattle.script_engines.specs.Subscribing.{Subscribing, subscribing_of}
use Rattle.script_sharings.specs.declared.share.ScriptSharing.{ScriptSharing}
use Rattle.script_sharings.specs.declared.stated.Stated.{Stated}
use Rattle.flow_sharing.specs.FlowDestinations.{IsNewDestination}
use Rattle.script_sharings.specs.Ticks.{Sharings, Stating, sharings_of, stating_of}
use Rattle.script_engines.specs.Watching.{Watch}
use Rattle.script_run.specs.declared.object.Object.{Object}
use Rattle.script_run.specs.declared.sourced.Sourced.{Sourced}
use Rattle.script_run.specs.Objects.{MakesObject}
use Rattle.script_words.specs.Starts.{Starting, StartsAs, start_refusal}

abbrev pub config_of : ℕ → ℕ → Policy → Config
config_of replay extra policy = record { replay = replay; extra = extra; policy = policy; subscribers = 8; emits = 8; first = 0 }

-- a flow on one thread: its model is the empty one of the config
abbrev pub MakesOneThread : ℕ → ℕ → Policy → Result OneThread Refusal → Type 0
MakesOneThread replay extra policy reply =
    let config = config_of replay extra policy in
    MadeUnless (making_refusal config) reply (λ made. core.Shows (state_of made) (empty (parameters_of config)))

-- a flow for threads: of the config, and nobody has made a call
abbrev pub MakesForThreads : {W : Type 0} → ℕ → ℕ → Policy → Result (ForThreads W) Refusal → Type 0
MakesForThreads replay extra policy reply =
    let config = config_of replay extra policy in MadeUnless (making_refusal config) reply (λ made. IsUntouched config (parties_of made))

-- a state: its history begins with the value, and nobody collects
abbrev pub MakesState : ℕ → Result Watch Refusal → Type 0
MakesState value reply = MatchResult reply (λ made. (made.collectors ≡ []) × (made.seat.view ≡ opening value 9)) (λ refusal. refusal ≡ NoMemory)

-- a sharing is started so, unless that is refused for its plan
abbrev pub StartsOr : {M : Type 0} → Option Refusal → Starting → (Started → Result M Refusal → Type 0) → Result M Refusal → Type 0
StartsOr (Some refusal) starting makes reply = reply ≡ Err refusal
StartsOr None starting makes reply = (started : Started) × StartsAs starting started × makes started reply

-- a flow for threads of the config, of which nobody has made a call: there are the owner and what will emit this source into it, to which
-- it gave half its share of the lock; and the source isn't collected yet
abbrev pub IsShared : {U : Type 0} → Config → Started → Origin → Subscribing → Sharings SourceFlow U → Type 0
IsShared config started origin shown it = IsMadeWith config shown.flow.party.flow × HasMadeNoCall 1 shown.flow × (shown.places ≡ [])
    × (named it.place.owner.party ≡ named shown.flow.party) × IsNewDestination shown.flow.party it.place
    × (started_by it.strategy ≡ started) × Shows it.strategy [] × (origin_in it.source.source ≡ origin) × (it.course ≡ Idle)

abbrev pub MakesShare : {W U : Type 0} {flow : flows.Ghosts SourceFlow ℕ ℕ U} {run : runs.Ghosts U ℕ ℕ} → Config → Starting → Origin
    → Result (Sourced (Subscriptions W) (ScriptSharing W SourceFlow ℕ U flow run)) Refusal → Type 0
MakesShare config starting origin reply = StartsOr (start_refusal starting) starting
    (λ started made. MadeUnless (making_refusal config) made (λ it. IsShared config started origin (subscribing_of it.shown) (sharings_of it.source))) reply

-- a state that begins with this value, of which one seat more sets it from this source, which isn't collected yet
abbrev pub IsStated : {U : Type 0} → ℕ → Started → Origin → Watch → Stating SourceFlow U → Type 0
IsStated value started origin shown it = (shown.collectors ≡ []) × (shown.seat.view ≡ giver 1 (opening value 10))
    × (it.seat.flow ≡ shown.seat.flow) × Sets (taker 1 (opening value 10)) value it.seat.view × (it.initial ≡ value)
    × (started_by it.strategy ≡ started) × Shows it.strategy [] × (origin_in it.source.source ≡ origin) × (it.course ≡ Idle)

abbrev pub MakesStated : {U : Type 0} → ℕ → Starting → Origin → Result (Sourced Watch (Stated SourceFlow ℕ U)) Refusal → Type 0
MakesStated value starting origin reply = StartsOr (start_refusal starting) starting
    (λ started made. MatchResult made (λ it. IsStated value started origin it.shown (stating_of it.source)) (λ refusal. refusal ≡ NoMemory)) reply

-- what was made, by what is seen of it
abbrev pub made_as : {A B : Type 0} → (A → B) → Result A Refusal → Result B Refusal
made_as seen (Ok made) = Ok (seen made)
made_as seen (Err refusal) = Err refusal

-- what a line makes, where flows are made so
abbrev pub MakesWith : {F W U V : Type 0} {flow : flows.Ghosts SourceFlow ℕ ℕ U} {run : runs.Ghosts U ℕ ℕ} → (ℕ → ℕ → Policy → Result F Refusal → Type 0)
    → Made → Result (Object F Watch (Subscriptions W) (ScriptSharing W SourceFlow ℕ U flow run) (Stated SourceFlow ℕ V)) Refusal → Type 0
MakesWith flows made result = MakesObject flows MakesState
    (λ replay extra policy starting origin reply. MakesShare (config_of replay extra policy) starting origin reply) MakesStated made result
