-- Values that are waited for and taken at once.
use Rattle.std.proofs.Common.{◌≡◌, ◌≢◌, inl, inr, ℕ, ◌-◌, List, [], ◌∷◌, ◌++◌, length, map, Result, Err, IfOk, refl, ap, subst, ◌∙◌, append_assoc}
use Rattle.std.proofs.lemmas.List.{append-nil}
use Rattle.shared_lane.specs.declared.reader.Taken.{Taken}
use Rattle.shared_lane.specs.declared.reader.Taken.TheVariants.{Value, Nothing, Overtaken}
use Rattle.shared_lane.specs.Readers.{at}
use Rattle.shared_lane.specs.Views.{ReaderSeen}
use Rattle.shared_flow.specs.Blocks.{LookedAll, MissedAll, GotAll, count_of}
use Rattle.shared_flow.specs.Looks.{OnlyNext, OnlyLooked, by_none, by_one, by_pending, HasMadeRoom, MadeRoom, Waited}
use Rattle.shared_flow.specs.Parties.{Subscribed}
use Rattle.shared_rounds.specs.Reach.{Party}
use Rattle.shared_flow.proofs.Receiving.{has_room, has_room_then}

-- rounds of looks after rounds of looks
looks_then : (number : ℕ) (p q r : Party) → OnlyNext number p q → OnlyNext number q r → OnlyNext number p r
looks_then number p q r first (by_none s) = first
looks_then number p q r first (by_one s m t before last) = by_one p m t (looks_then number p s m first before) last
looks_then number p q r first (by_pending s m t before last) = by_pending p m t (looks_then number p s m first before) last

pub only_next_then : (number other : ℕ) (p q r : Party) → other ≡ number → OnlyNext number p q → OnlyNext other q r → OnlyNext number p r
only_next_then number other p q r is first later = looks_then number p q r first (subst (λ n. OnlyNext n q r) is later)

-- a look that gave no value took nothing
pub missed_all : (r t : ReaderSeen) (room : ℕ) (taken : Taken ℕ) (words : List ℕ) → ((k : ℕ) → taken ≡ Value k → ⊥) → LookedAll r room taken words t → (words ≡ []) × MissedAll r room t
missed_all r t room (Value k) words not looked = absurd (not k refl)
missed_all r t room Nothing words not looked = (looked.1.0, inl (subst (λ (ws : List ℕ). LookedAll r room Nothing ws t) looked.1.0 looked))
missed_all r t room Overtaken words not looked = (looked.1.0, inr (subst (λ (ws : List ℕ). LookedAll r room Overtaken ws t) looked.1.0 looked))

-- a look took nothing, a value was waited for, and a look after that took what was there
pub got_after : {T : Type 0} (read_as : ℕ → T) (r m n t : ReaderSeen) (room left : ℕ) (out one two three : List T) (first : Taken ℕ) (empty : List ℕ) (v : T) (last : Taken ℕ) (words : List ℕ)
    → ((k : ℕ) → first ≡ Value k → ⊥) → LookedAll r room first empty m → one ≡ out ++ map read_as empty → Waited read_as m v n → two ≡ one ++ v ∷ []
    → LookedAll n left last words t → three ≡ two ++ map read_as words → left ≡ room - 1
    → (three ≡ out ++ v ∷ map read_as words) × GotAll read_as r room (v ∷ map read_as words) t
got_after read_as r m n t room left out one two three first empty v last words not missed was waited put looked is less =
    let none = missed_all r m room first empty not missed in
    let before : one ≡ out = was ∙ (ap (λ (ws : List ℕ). out ++ map read_as ws) none.0 ∙ append-nil out) in (
      is ∙ (ap (λ (l : List _). l ++ map read_as words) (put ∙ ap (λ (l : List _). l ++ v ∷ []) before) ∙ append_assoc out (v ∷ []) (map read_as words)),
      inr (m, n, v, last, words, refl, none.1, waited, subst (λ (k : ℕ). LookedAll n k last words t) less looked),
    )

-- a look took so many words
pub looked_count : (r t : ReaderSeen) (room : ℕ) (taken : Taken ℕ) (words : List ℕ) → LookedAll r room taken words t → length words ≡ count_of taken
looked_count r t room (Value k) words looked = looked.1.5
looked_count r t room Nothing words looked = ap length looked.1.0
looked_count r t room Overtaken words looked = ap length looked.1.0

-- a last look for all values made room for what it took, or took nothing after a value that was waited for
pub room_after : {T : Type 0} (taken : Taken ℕ) (s m t : Subscribed T) → m.number ≡ s.number → OnlyNext s.number s.party m.party → HasMadeRoom s m
    → ((k : ℕ) → taken ≡ Value k → MadeRoom m t) → (((k : ℕ) → taken ≢ Value k) → OnlyLooked m t) → (room : ℕ) (words : List ℕ) → LookedAll m.reader room taken words t.reader → HasMadeRoom s t
room_after (Value k) s m t same rounds before made only room words looked = has_room s m t same rounds (inl (made k refl))
room_after Nothing s m t same rounds before made only room words looked = has_room_then s m t before (only (λ k e. cc)) (looked.0.0, (looked.1.1.0 - at m.reader, looked.1.1.1.2))
room_after Overtaken s m t same rounds before made only room words looked = has_room_then s m t before (only (λ k e. cc)) (looked.0.0, (looked.1.1.0 - at m.reader, looked.1.1.3))

-- of what was refused nothing is said that holds of what was answered
pub not_answered : {A E : Type 0} (answer : Result A E) (e : E) (P : A → Type 0) → Err e ≡ answer → IfOk answer P
not_answered answer e P is = subst (λ (a : Result _ _). IfOk a P) is tt
