-- What is left of a prelude, and what a greeting makes of a subscription.
use Rattle.std.proofs.Common.{◌≡◌, ℕ, zero, suc, ◌+◌, Bool, true, false, cond, ◌&&◌, ltb, List, [], ◌∷◌, length, drop, refl, sym, ap, ◌∙◌, arith}
use Rattle.std.specs.List.{list_all}
use Rattle.shared_core.specs.Flow.{State, Subscription, rest, pending, greet_first, greeted, greet, change, has_room, places}

pub rest-live : {T : Type 0} (s : Subscription T) → s.live ≡ true → rest s ≡ drop s.given s.prelude
rest-live s live = ap (λ b. cond b (drop s.given s.prelude) []) live

pub rest-closed : {T : Type 0} (s : Subscription T) → s.live ≡ false → rest s ≡ []
rest-closed s closed = ap (λ b. cond b (drop s.given s.prelude) []) closed

-- one whose prelude isn't wholly given is live
pub left-live : {T : Type 0} (s : Subscription T) (v : T) (more : List T) → rest s ≡ v ∷ more → s.live ≡ true
left-live s v more left =
    elim s.live as (λ b. s.live ≡ b → b ≡ true) [
      | true ↦ λ _. refl
      | false ↦ λ closed. absurd (let none = rest-closed s closed in cc)
    ] refl

drop-next : {X : Type 0} (n : ℕ) (xs : List X) (x : X) (more : List X) → drop n xs ≡ x ∷ more → drop (n + 1) xs ≡ more
drop-next zero [] x more is = absurd (cc)
drop-next zero (y ∷ xs) x more is = cc
drop-next (suc n) [] x more is = absurd (cc)
drop-next (suc n) (y ∷ xs) x more is = let same : suc n + 1 ≡ suc (n + 1) = omega arith in ap (λ k. drop k (y ∷ xs)) same ∙ drop-next n xs x more is

pub greeted-some : {T : Type 0} (s : Subscription T) (v : T) (more : List T) → rest s ≡ v ∷ more → greeted s ≡ record s { given = s.given + 1 }
greeted-some s v more left = ap (greet_first s) left

pub greeted-none : {T : Type 0} (s : Subscription T) → rest s ≡ [] → greeted s ≡ s
greeted-none s none = ap (greet_first s) none

-- a greeting leaves what came after the value that was given
pub rest-greeted : {T : Type 0} (s : Subscription T) (v : T) (more : List T) → rest s ≡ v ∷ more → rest (greeted s) ≡ more
rest-greeted s v more left =
    let live = left-live s v more left in
    ap rest (greeted-some s v more left) ∙ rest-live (record s { given = s.given + 1 }) live ∙ drop-next s.given s.prelude v more (sym (rest-live s live) ∙ left)

greet_first-live : {T : Type 0} (s : Subscription T) (vs : List T) → (greet_first s vs).live ≡ s.live
greet_first-live s [] = refl
greet_first-live s (v ∷ vs) = refl

pub greeted-live : {T : Type 0} (s : Subscription T) → (greeted s).live ≡ s.live
greeted-live s = greet_first-live s (rest s)

-- what is pending stays
pending-greet_first : {T : Type 0} (total : ℕ) (s : Subscription T) (vs : List T) → pending total (greet_first s vs) ≡ pending total s
unfolding pending
pending-greet_first total s [] = refl
pending-greet_first total s (v ∷ vs) = refl

pub pending-greeted : {T : Type 0} (total : ℕ) (s : Subscription T) → pending total (greeted s) ≡ pending total s
pending-greeted total s = pending-greet_first total s (rest s)

all_changed : {X : Type 0} (p : X → Bool) (f : X → X) → ((x : X) → p (f x) ≡ p x) → (k : ℕ) (xs : List X) → list_all p (change k f xs) ≡ list_all p xs
all_changed p f same k [] = refl
all_changed p f same zero (x ∷ xs) = ap (λ b. b && list_all p xs) (same x)
all_changed p f same (suc k) (x ∷ xs) = ap (λ b. p x && b) (all_changed p f same k xs)

-- and so does room
pub greeted_room : {T : Type 0} (k : ℕ) (M : State T) → has_room (greet k M) ≡ has_room M
unfolding has_room
greeted_room k M =
    let total = length M.accepted in
    all_changed (λ s. ltb (length (pending total s)) (places M.parameters)) greeted (λ s. ap (λ (ps : List ℕ). ltb (length ps) (places M.parameters)) (pending-greeted total s)) k M.subscriptions
