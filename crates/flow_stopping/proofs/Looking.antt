-- Looks of a wait that can be let go.
use Rattle.std.proofs.Common.{◌≡◌, ◌⊎◌, ℕ, [], Ok, refl, sym, ap, subst, ◌∙◌, ⊎_elim, inl, inr}
use Rattle.shared_lane.specs.Views.{ReaderSeen}
use Rattle.shared_rounds.specs.declared.round.Round.TheVariants as round
use Rattle.shared_rounds.specs.Entering.{Made}
use Rattle.shared_flow.specs.Parties.{Subscribed}
use Rattle.shared_flow.specs.Looks.{Gave, GaveIn, HasMadeRoom, MadeRoom, MadeRoomIn, Missed, MissedOn, MissedTwice, OnlyLooked, OnlyNext, Waited, by_none, not_once, once_more}
use Rattle.shared_flow.specs.Preludes.{IsGreeted, IsPast, GreetedOr}
use Rattle.shared_flow.proofs.Takes.{only_next_then}
use Rattle.shared_flow.proofs.Receiving.{has_room}
use Rattle.shared_flow.proofs.Waiting.{only_next, only_pending, waited_on}
use Rattle.flow_stopping.specs.declared.answers.Received.{Received}
use Rattle.flow_stopping.specs.declared.answers.Received.TheVariants as received
use Rattle.flow_stopping.specs.Waits.{LookedOn, Receives}

-- what is so also where nothing was done
abbrev pub Since : {T : Type 0} → Subscribed T → Subscribed T → Type 0
Since s m = (m.number ≡ s.number) × OnlyNext s.number s.party m.party × MissedOn s.reader m.reader

pub since : {T : Type 0} (s m : Subscribed T) → LookedOn s m → Since s m
since s m looked =
    ⊎_elim
    (λ same. subst (λ x. Since s x) (sym same) (refl, by_none s.party, not_once s.reader))
    (λ more. (more.0, more.1, more.3)) looked

-- where nothing is left of the prelude, nothing was
pub past_since : {T : Type 0} (s m : Subscribed T) → LookedOn s m → m.rest ≡ [] → s.rest ≡ []
past_since s m looked none = ⊎_elim (λ same. sym (ap (λ (x : Subscribed _). x.rest) same) ∙ none) (λ more. more.2.0) looked

-- looks that took nothing, and made no round
pub looked_soon : {T : Type 0} (s m : Subscribed T) → IsPast s m × OnlyLooked s m × MissedOn s.reader m.reader → LookedOn s m
looked_soon {T} s m it =
    let party = ap (λ (x : Subscribed T). x.party) it.1 in
    inr (ap (λ (x : Subscribed T). x.number) it.1, subst (OnlyNext s.number s.party) (sym party) (by_none s.party), it.0, it.2)

pub looked_once : {T : Type 0} (s m : Subscribed T) → IsPast s m × OnlyLooked s m × Missed s.reader m.reader → LookedOn s m
looked_once s m it = looked_soon s m (it.0, it.1, once_more s.reader s.reader m.reader (not_once s.reader) it.2)

-- one more poll that is pending
pub looked_on : {T : Type 0} (s m t : Subscribed T) → LookedOn s m → t.number ≡ m.number → Made (round.Pending m.number) m.party t.party → IsPast m t
    → MissedTwice m.reader t.reader → LookedOn s t
looked_on s m t looked number made past twice =
    let before = since s m looked in
    inr (
      number ∙ before.0,
      only_pending s.number m.number s.party m.party t.party before.0 before.1 made,
      (past_since s m looked past.0, past.1),
      once_more s.reader twice.0 t.reader (once_more s.reader m.reader twice.0 before.2 twice.1) twice.2,
    )

-- looks after looks
missed_then : (r m t : ReaderSeen) → MissedOn r m → MissedOn m t → MissedOn r t
missed_then r m t first (not_once s) = first
missed_then r m t first (once_more s n u before last) = once_more r n u (missed_then r s n first before) last

looked_then : {T : Type 0} (s m t : Subscribed T) → LookedOn s m → LookedOn m t → LookedOn s t
looked_then s m t first later =
    let before = since s m first in
    ⊎_elim
    (λ same. subst (λ x. LookedOn s x) (sym same) first)
    (λ more.
    inr (
      more.0 ∙ before.0,
      only_next_then s.number m.number s.party m.party t.party before.0 before.1 more.1,
      (past_since s m first more.2.0, more.2.1),
      missed_then s.reader m.reader t.reader before.2 more.3,
    ))
    later

-- a value after looks
waited_then : {T : Type 0} (read_as : ℕ → T) (s m t : Subscribed T) (v : T) → LookedOn s m
    → GreetedOr m v t (Waited read_as m.reader v t.reader) → GreetedOr s v t (Waited read_as s.reader v t.reader)
waited_then {T} read_as s m t v looked gave =
    ⊎_elim
    (λ same. subst (λ (x : Subscribed T). GreetedOr x v t (Waited read_as x.reader v t.reader)) same gave)
    (λ more.
    ⊎_elim
    (λ greeted.
    let none = more.2.1 in
    let some = greeted.0 in
    let no : ⊥ = cc in
    absurd no)
    (λ later.
    let waited = later.1 in
    inr ((more.2.0, later.0.1), (waited.0, missed_then s.reader m.reader waited.0 more.3 waited.1, waited.2)))
    gave)
    looked

-- a look that gives a value
pub received_now : {T : Type 0} (read_as : ℕ → T) (s t : Subscribed T) (v : T) → GreetedOr s v t (Gave read_as s.reader v t.reader)
    → GreetedOr s v t (Waited read_as s.reader v t.reader)
received_now read_as s t v gave = ⊎_elim (λ greeted. inl greeted) (λ later. inr (later.0, (s.reader, not_once s.reader, later.1))) gave

-- a poll that gives a value
pub received_since : {T : Type 0} (read_as : ℕ → T) (s m t : Subscribed T) (v : T) → LookedOn s m
    → GreetedOr m v t (GaveIn read_as m.reader v t.reader) → GreetedOr s v t (Waited read_as s.reader v t.reader)
received_since read_as s m t v looked gave =
    waited_then read_as s m t v looked
    (⊎_elim (λ greeted. inl greeted) (λ later. inr (later.0, waited_on read_as m.reader m.reader t.reader v (not_once m.reader) later.1)) gave)

-- the rounds after a poll
pub rounds_since : {T : Type 0} (s m t : Subscribed T) → LookedOn s m → (t.party ≡ m.party) ⊎ Made (round.Next m.number) m.party t.party → OnlyNext s.number s.party t.party
rounds_since s m t looked more = only_next s.number m.number s.party m.party t.party (since s m looked).0 (since s m looked).1 more

-- a value after looks made room
pub room_then : {T : Type 0} (s m t : Subscribed T) (v : T) → LookedOn s m → IsGreeted m v t ⊎ HasMadeRoom m t → IsGreeted s v t ⊎ HasMadeRoom s t
room_then {T} s m t v looked room =
    ⊎_elim
    (λ same. subst (λ (x : Subscribed T). IsGreeted x v t ⊎ HasMadeRoom x t) same room)
    (λ more.
    ⊎_elim
    (λ greeted.
    let none = more.2.1 in
    let some = greeted.0 in
    let no : ⊥ = cc in
    absurd no)
    (λ made. inr (record {
      before = made.before;
      after = made.after;
      same = made.same ∙ more.0;
      rounds = only_next_then s.number m.number s.party m.party made.before.party more.0 more.1 made.rounds;
      made_room = made.made_room;
      then = made.then;
      took_none = made.took_none;
    }))
    room)
    looked

-- so did one of a poll, or of a look
pub room_polled : {T : Type 0} (s t : Subscribed T) (v : T) → IsGreeted s v t ⊎ MadeRoomIn s t → IsGreeted s v t ⊎ HasMadeRoom s t
room_polled s t v room = ⊎_elim (λ greeted. inl greeted) (λ made. inr (has_room s s t refl (by_none s.party) made)) room

pub room_now : {T : Type 0} (s t : Subscribed T) (v : T) → IsGreeted s v t ⊎ MadeRoom s t → IsGreeted s v t ⊎ HasMadeRoom s t
room_now s t v room = ⊎_elim (λ greeted. inl greeted) (λ made. inr (has_room s s t refl (by_none s.party) (inl made))) room

-- a wait after looks
pub receives_then : {T : Type 0} (read_as : ℕ → T) (s m t : Subscribed T) (answer : Received T) → LookedOn s m → Receives read_as m (Ok answer) t
    → Receives read_as s (Ok answer) t
receives_then read_as s m t (received.Value v) looked came =
    let before = since s m looked in (
      came.0 ∙ before.0,
      only_next_then s.number m.number s.party m.party t.party before.0 before.1 came.1,
      waited_then read_as s m t v looked came.2,
      room_then s m t v looked came.3,
    )
receives_then read_as s m t received.Stopped looked came = looked_then s m t looked came
