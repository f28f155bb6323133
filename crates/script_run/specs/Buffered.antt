-- What a buffer of a script holds, and what it answers.
use Rattle.std.specs.Prelude.{◌≡◌, ◌⊎◌, ℕ, Bool, Option, Some, None, Result, MatchResult}
use Rattle.cold_flow.specs.Poll.{Traces, Fixes}
use Rattle.cold_flow.specs.Trace.{ended_by}
use Rattle.flow_buffer.specs.declared.ending.Ending.TheVariants.{Going}
use Rattle.flow_buffer.specs.declared.store.Store.{Store}
use Rattle.flow_buffer.specs.Stored as stored
use Rattle.flow_terms.specs.declared.refusal.Refusal.{Refusal}
use Rattle.flow_terms.specs.declared.refusal.Refusal.TheVariants.{NoMemory}
use Rattle.script_commands.specs.declared.answer.Answer.{Answer}
use Rattle.script_commands.specs.declared.part.Part.{Part}
use Rattle.script_commands.specs.declared.part.Part.TheVariants.{Whole}
use Rattle.script_commands.specs.declared.request.Request.{Request}
use Rattle.script_commands.specs.declared.request.Request.TheVariants as requests
use Rattle.script_commands.specs.Replies.{fill_answer, take_answer}
use Rattle.script_commands.specs.Sourced.{run_may}
use Rattle.script_run.specs.declared.buffer.ScriptBuffer.{ScriptBuffer}
use Rattle.script_run.specs.Buffers.{Buffering, filled, taken}

-- a store and a source that may give this
pub record Holds (may : Traces ℕ ℕ) (store : Store ℕ ℕ) (buffering : Buffering) : Type 0 where
  pub contents : stored.Shows store buffering.contents
  pub ending : store.ending ≡ buffering.ending
  -- until the end was seen, the source gives just what comes
  pub coming : buffering.ending ≡ Going → Fixes (ended_by buffering.coming buffering.cause) may

abbrev pub ShowsBuffer : ScriptBuffer → Buffering → Type 0
ShowsBuffer shown buffering = Holds (run_may shown.run.source) shown.run.store buffering

-- whatever the old buffer stands for, the reply is its reply, by whether the source was pending, and the new one stands for what
-- it leaves
abbrev pub FollowsBuffer : {R : Type 0} → (Bool → Buffering → R × Buffering) → ScriptBuffer → R → ScriptBuffer → Type 0
FollowsBuffer call old reply new = (buffering : Buffering) → ShowsBuffer old buffering
    → (pending : Bool) × ((reply ≡ (call pending buffering).0) × ShowsBuffer new (call pending buffering).1)

-- it is refused for this reason where there is one, and else for want of memory alone
abbrev pub RefusedFor : Option Refusal → Refusal → Type 0
RefusedFor why refusal = (why ≡ Some refusal) ⊎ ((why ≡ None) × (refusal ≡ NoMemory))

-- it was made where there is no reason against it, and this holds of it then; else it is refused
abbrev pub MadeUnless : {M : Type 0} → Option Refusal → Result M Refusal → (M → Type 0) → Type 0
MadeUnless why result holds = MatchResult result (λ made. (why ≡ None) × holds made) (RefusedFor why)

-- a call's reply as an answer
abbrev pub replied : {R : Type 0} → (R → Answer) → R × Buffering → Option Answer × Buffering
replied answer_of came = (Some (answer_of came.0), came.1)

abbrev pub ask_buffer : Part → Request → Bool → Buffering → Option Answer × Buffering
ask_buffer Whole requests.Fill pending buffering = replied fill_answer (filled pending buffering)
ask_buffer Whole requests.Next pending buffering = replied take_answer (taken pending buffering)
ask_buffer part request pending buffering = (None, buffering)

-- WHAT A BUFFER ANSWERS
abbrev pub AsksBuffer : Part → Request → ScriptBuffer → Option Answer → ScriptBuffer → Type 0
AsksBuffer part request old answer new = FollowsBuffer (λ pending before. ask_buffer part request pending before) old answer new
