-- What a subscription is after a call that receives.
use Rattle.std.proofs.Common.{◌≡◌, ◌⊎◌, ⊎_elim, inl, inr, ◌+◌, ◌++◌, [], false, replicate, Option, Some, None, IfSome, IfNone, refl, sym, ap, subst, ◌∙◌, append_assoc}
use Rattle.std.proofs.lemmas.List.{append-nil, replicate-append-replicate}
use Rattle.futures.specs.Poll.{IfReady, OnPending}
use Rattle.futures.specs.declared.task.Poll.{Poll}
use Rattle.futures.specs.declared.task.Poll.TheVariants.{Ready, Pending}
use Rattle.shared_lane.specs.Views.{ReaderSeen}
use Rattle.shared_rounds.specs.declared.round.Round.TheVariants as round
use Rattle.shared_rounds.specs.Entering.{Made}
use Rattle.shared_flow.specs.Looks.{MissedUnder, OnlyLooked, OnlyNext, TookNone, by_none, MadeRoom, MadeRoomIn, HasMadeRoom, WasMadeWithin}
use Rattle.shared_flow.specs.Parties.{Subscribed}
use Rattle.shared_flow.specs.Preludes.{IsGreeted, IsPast, GreetedOr}

module _ {A : Type 0} where
  pub if_ready : (polled : Poll A) (P Q : A → Type 0) → ((a : A) → P a → Q a) → IfReady polled P → IfReady polled Q
  if_ready (Ready a) P Q goes it = goes a it
  if_ready Pending P Q goes it = it

  pub if_both : (polled : Poll A) (P Q R : A → Type 0) → ((a : A) → P a → Q a → R a) → IfReady polled P → IfReady polled Q → IfReady polled R
  if_both (Ready a) P Q R goes it other = goes a it other
  if_both Pending P Q R goes it other = it

  pub on_pending : (polled : Poll A) (P Q : Type 0) → (P → Q) → OnPending polled P → OnPending polled Q
  on_pending (Ready a) P Q goes it = it
  on_pending Pending P Q goes it = goes it

none_twice : (r m t : ReaderSeen) → TookNone r m → TookNone m t → TookNone r t
none_twice r m t one other = (
  other.0 ∙ one.0,
  (
    one.1.0 + other.1.0,
    other.1.1 ∙ (ap (λ l. l ++ replicate other.1.0 false) one.1.1 ∙ (append_assoc r.story (replicate one.1.0 false) (replicate other.1.0 false) ∙ ap (λ l. r.story ++ l) (replicate-append-replicate one.1.0 other.1.0 false))),
  ),
)

module _ {T : Type 0} where
  -- nothing was given of a prelude of which nothing is left
  pub still : (s g : Subscribed T) → (g.party ≡ s.party) × (g.number ≡ s.number) × (g.reader ≡ s.reader) × (g.looks ≡ s.looks) → IsPast s g → g.given ≡ s.given → g ≡ s
  still s g same past given = λ i. record { party = same.0 i; number = same.1 i; given = given i; rest = (past.1 ∙ sym past.0) i; reader = same.2 i; looks = same.3 i }

  pub looked_as : (s g : Subscribed T) → g ≡ s → OnlyLooked s g
  looked_as s g is = subst (λ (x : Subscribed T). OnlyLooked s x) (sym is) refl

  pub looked_twice : (s m t : Subscribed T) → OnlyLooked s m → OnlyLooked m t → OnlyLooked s t
  looked_twice s m t one other = other ∙ ap (λ (x : Subscribed T). record x { reader = t.reader }) one

  -- a look took nothing, where nothing is left of the prelude
  pub past_looked : {A : Type 0} (found : Option A) (missed : ReaderSeen → ReaderSeen → Type 0) (s g t : Subscribed T) → g ≡ s → s.rest ≡ []
      → IfNone found (OnlyLooked g t × missed g.reader t.reader) → IfNone found (IsPast s t × OnlyLooked s t × missed s.reader t.reader)
  past_looked (Some v) missed s g t is past it = tt
  past_looked None missed s g t is past it =
      let looked : OnlyLooked s t = subst (λ (x : Subscribed T). OnlyLooked x t) is it.0 in
      ((past, ap (λ (x : Subscribed T). x.rest) looked ∙ past), looked, subst (λ (x : Subscribed T). missed x.reader t.reader) is it.1)

  -- where nothing is left of the prelude, a value is none of it
  pub past_given : (s t : Subscribed T) (v : T) (P : Type 0) → s.rest ≡ [] → GreetedOr s v t P → IsPast s t × P
  past_given s t v P past given = ⊎_elim (λ (greeted : IsGreeted s v t). let no : ⊥ = cc (past, greeted.0) in absurd no) (λ it. it) given

  pub past_room : (s t : Subscribed T) (v : T) (P : Type 0) → s.rest ≡ [] → IsGreeted s v t ⊎ P → P
  past_room s t v P past room = ⊎_elim (λ (greeted : IsGreeted s v t). let no : ⊥ = cc (past, greeted.0) in absurd no) (λ it. it) room

  -- the same, of a subscription that has looked before
  pub rounds_since : (s m t : Subscribed T) → OnlyLooked s m → (t.party ≡ m.party) ⊎ Made (round.Next m.number) m.party t.party → (t.party ≡ s.party) ⊎ Made (round.Next s.number) s.party t.party
  rounds_since s m t looked rounds = subst (λ (x : Subscribed T). (t.party ≡ x.party) ⊎ Made (round.Next x.number) x.party t.party) looked rounds

  pub within_since : (s m t : Subscribed T) → OnlyLooked s m → WasMadeWithin m.number m.party t.party → WasMadeWithin s.number s.party t.party
  within_since s m t looked it = subst (λ (x : Subscribed T). WasMadeWithin x.number x.party t.party) looked it

  pub pending_since : (s m t : Subscribed T) → OnlyLooked s m → Made (round.Pending m.number) m.party t.party → Made (round.Pending s.number) s.party t.party
  pending_since s m t looked it = subst (λ (x : Subscribed T). Made (round.Pending x.number) x.party t.party) looked it

  pub missed_since : (s m t : Subscribed T) → OnlyLooked s m → MissedUnder m.number m.reader t.reader m.party t.party → MissedUnder s.number m.reader t.reader s.party t.party
  missed_since s m t looked it = subst (λ (x : Subscribed T). MissedUnder x.number m.reader t.reader x.party t.party) looked it

  pub only_since : (s m t : Subscribed T) → OnlyLooked s m → OnlyNext m.number m.party t.party → OnlyNext s.number s.party t.party
  only_since s m t looked it = subst (λ (x : Subscribed T). OnlyNext x.number x.party t.party) looked it

  pub room_since : (s m t : Subscribed T) → OnlyLooked s m → MadeRoom m t → MadeRoom s t
  room_since s m t looked it = subst (λ (x : Subscribed T). MadeRoom x t) looked it

  -- a look made room where it gave a value
  pub gave_room : {A : Type 0} (found : Option A) (greeted : A → Type 0) (s m t : Subscribed T) → m ≡ s → IfSome found (λ _. MadeRoom m t)
      → IfSome found (λ v. greeted v ⊎ MadeRoom s t)
  gave_room None greeted s m t is it = tt
  gave_room (Some v) greeted s m t is it = inr (subst (λ (x : Subscribed T). MadeRoom x t) is it)

  pub has_room_since : (s m t : Subscribed T) → OnlyLooked s m → HasMadeRoom m t → HasMadeRoom s t
  has_room_since s m t looked it = record {
    before = it.before;
    after = it.after;
    same = it.same ∙ ap (λ (x : Subscribed T). x.number) looked;
    rounds = only_since s m it.before looked it.rounds;
    made_room = it.made_room;
    then = it.then;
    took_none = it.took_none;
  }

  -- a receipt made room, by rounds that were pending and one that has a value, or at once
  pub has_room : (s m t : Subscribed T) → m.number ≡ s.number → OnlyNext s.number s.party m.party → MadeRoomIn m t → HasMadeRoom s t
  has_room s m t same rounds made = record {
    before = m;
    after = t;
    same = same;
    rounds = rounds;
    made_room = made;
    then = refl;
    took_none = (refl, (0, sym (append-nil t.reader.story)));
  }

  pub has_room_at_once : (s t : Subscribed T) → MadeRoom s t → HasMadeRoom s t
  has_room_at_once s t made = has_room s s t refl (by_none s.party) (inl made)

  -- and after it came looks that took nothing
  pub has_room_then : (s m t : Subscribed T) → HasMadeRoom s m → OnlyLooked m t → TookNone m.reader t.reader → HasMadeRoom s t
  has_room_then s m t it looked none = record {
    before = it.before;
    after = it.after;
    same = it.same;
    rounds = it.rounds;
    made_room = it.made_room;
    then = looked_twice it.after m t it.then looked;
    took_none = none_twice it.after.reader m.reader t.reader it.took_none none;
  }
