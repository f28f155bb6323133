-- What an export on a shared flow does: what `shared_core` says of its own call, told to C.
use Rattle.std.specs.Prelude.{◌≡◌, ◌⊎◌, ◌<◌, ◌≤◌, ◌++◌, ℕ, List, Option, length, drop, slice_get}
use Rattle.flow_terms.specs.declared.answers.Next.{Next}
use Rattle.shared_core.specs.Flow.{State, empty}
use Rattle.shared_core.specs.Blocks.{next_all}
use Rattle.shared_core.specs.Calls as calls
use Rattle.shared_core.specs.Kept.{parameters_of}
use Rattle.shared_core.specs.Shown.{Seen, Follows, Leaves, Shows}
use Rattle.shared_core.specs.declared.config.Config.{Config}
use Rattle.hillgauze_c.specs.declared.object.Object.{Object}
use Rattle.hillgauze_c.specs.declared.object.Object.TheVariants.{Shared}
use Rattle.hillgauze_c.specs.declared.reply.Reply.{Reply}
use Rattle.hillgauze_c.specs.Replies.{answered, refused_as, value_reply, subscribed_reply}
use Rattle.hillgauze_c.specs.Kinds.{shared_of, OnHandle}

abbrev pub OnShared : (Seen ℕ → Reply → Seen ℕ → Type 0) → Option Object → Reply → Option Object → Type 0
OnShared Call = OnHandle shared_of Shared Call

-- the model's call gave the answer of which this is the reply, and the flow shows the model after it
abbrev pub Answers : {R : Type 0} → (R → Reply) → (State ℕ → R × State ℕ) → Seen ℕ → Reply → Seen ℕ → Type 0
Answers {R} told call old reply new = (answer : R) × (reply ≡ told answer) × Follows call old answer new

-- a subscription with this prelude, which has at most 16 values
abbrev pub SubscribesWith : List ℕ → Seen ℕ → Reply → Seen ℕ → Type 0
SubscribesWith values old reply new = ((length values ≤ 16) × Answers subscribed_reply (calls.subscribe_with values) old reply new)
    ⊎ ((16 < length values) × (reply ≡ refused_as 10) × (new ≡ old))

-- the call changed nothing, and the number that it answered is such
abbrev pub CountsAs : (Seen ℕ → ℕ → Type 0) → Seen ℕ → Reply → Seen ℕ → Type 0
CountsAs Is old reply new = (new ≡ old) × ((n : ℕ) × (reply ≡ answered 13 n) × Is old n)

abbrev pub IsLiveCount : Seen ℕ → ℕ → Type 0
IsLiveCount flow n = n ≡ length flow.live

abbrev pub IsCacheLength : Seen ℕ → ℕ → Type 0
IsCacheLength flow n = n ≡ length flow.cache

abbrev pub ReadsCache : ℕ → Seen ℕ → Reply → Seen ℕ → Type 0
ReadsCache index old reply new = (new ≡ old) × (reply ≡ value_reply (slice_get old.cache index))

abbrev pub Resets : Seen ℕ → Reply → Seen ℕ → Type 0
Resets old reply new = (reply ≡ answered 1 0) × Leaves calls.reset old new

abbrev pub IsFreshFlow : Config → Object → Type 0
IsFreshFlow config object = (flow : Seen ℕ) × (object ≡ Shared flow) × Shows flow (empty (parameters_of config))

-- The values that came stand at the front of what was handed in, which says how many were asked for.
abbrev pub ReceivesInto : ℕ → List ℕ → List ℕ → Seen ℕ → Next ℕ → Seen ℕ → Type 0
ReceivesInto n before after old answer new =
    (values : List ℕ) × (after ≡ values ++ drop (length values) before) × Follows (next_all n (length before)) old (answer, values) new
