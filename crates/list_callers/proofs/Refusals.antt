-- Why the calls that a program makes of a flow are refused.
use Rattle.std.proofs.Common.{◌≡◌, ℕ, zero, suc, ◌+◌, Bool, true, false, not, cond, ◌&&◌, ◌||◌, ◌==◌, nat_le, Option, Some, None, Result, Ok, Err, IfSome, IfNone, IfErr, refl, sym, subst, arith}
use Rattle.flow_terms.specs.declared.refusal.Refusal.{Refusal}
use Rattle.flow_terms.specs.declared.refusal.Refusal.TheVariants.{Spent, TooLarge, PolicyNeedsBuffer, BadLimit}
use Rattle.flow_terms.specs.declared.ids.SubId.{SubId}
use Rattle.flow_terms.specs.declared.answers.Tried.{Tried}
use Rattle.shared_core.specs.declared.config.Config.{Config}
use Rattle.shared_core.specs.Flow.{State, number, number_limit, empty, live_count}
use Rattle.shared_core.specs.Kept.{making_refusal, parameters_of, suspends}
use Rattle.shared_core.specs.Calls.{Fate, enters, pushes_in, handed_over, dropped, held_up, fate, numbers_spent, try_by, try_emit, subscribe, subscribe_with}
use Rattle.shared_core.specs.Shown.{Seen, Shows, Follows}

abbrev TrySpent : Result (Tried ℕ) Refusal → Type 0
TrySpent r = IfErr r (λ refusal. refusal ≡ Spent)

abbrev SubscribeSpent : Result SubId Refusal → Type 0
SubscribeSpent r = IfErr r (λ refusal. refusal ≡ Spent)

-- what holds of both branches, and of the second one where that is taken
either : {A B : Type 0} (P : A → Type 0) (b : Bool) (x y : A × B) → P x.0 → P y.0 → P (cond b x y).0
either P true x y at_true at_false = at_true
either P false x y at_true at_false = at_false

otherwise : {A B : Type 0} (P : A → Type 0) (b : Bool) (x y : A × B) → b ≡ false → P y.0 → P (cond b x y).0
otherwise P true x y is at_false = absurd (grind (arith, is))
otherwise P false x y is at_false = at_false

third : (a b c d : Bool) (x y z : Refusal) (rest : Option Refusal) → cond a (Some x) (cond b (Some y) (cond (c || d) (Some z) rest)) ≡ None → c ≡ false
third true b c d x y z rest none = absurd (grind (arith, none))
third false true c d x y z rest none = absurd (grind (arith, none))
third false false true d x y z rest none = absurd (grind (arith, none))
third false false false d x y z rest none = refl

turned : (n : ℕ) → (n == 0) ≡ false → (0 == n) ≡ false
turned zero is = absurd (grind (arith, is))
turned (suc n) is = grind (arith)

-- a flow that can be made has a seat
some_seats : (config : Config) → making_refusal config ≡ None → (0 == config.subscribers) ≡ false
some_seats config made =
    turned config.subscribers
    (third (not (nat_le (config.replay + config.extra) 65536)) ((config.replay + config.extra) == 0 && not (suspends config.policy)) (config.subscribers == 0) (not (nat_le config.subscribers 1024)) TooLarge PolicyNeedsBuffer BadLimit _ made)

subscribe_spent : (T : Type 0) (config : Config) → making_refusal config ≡ None → SubscribeSpent (subscribe (empty {T = T} (parameters_of config))).0
unfolding subscribe_with live_count
subscribe_spent T config made =
    either SubscribeSpent (number (empty {T = T} (parameters_of config)) 0 == number_limit) _ _ refl
    (otherwise SubscribeSpent (0 == config.subscribers) _ _ (some_seats config made) tt)

module _ {T : Type 0} where
  try_by_spent : (f : Fate) (emitter : ℕ) (v : T) (M : State T) → TrySpent (try_by f emitter v M).0
  try_by_spent enters emitter v M = tt
  try_by_spent pushes_in emitter v M = tt
  try_by_spent dropped emitter v M = tt
  try_by_spent handed_over emitter v M = tt
  try_by_spent held_up emitter v M = tt

  try_spent : (emitter : ℕ) (v : T) (M : State T) → TrySpent (try_emit emitter v M).0
  unfolding try_emit
  try_spent emitter v M = either TrySpent (numbers_spent M) (Err Spent, M) (try_by (fate M) emitter v M) refl (try_by_spent (fate M) emitter v M)

  -- an emission is refused as `Spent` alone
  pub offer_spent : (emitter : ℕ) (v : T) (old new : Seen T) (result : Result (Tried ℕ) Refusal) (M : State T) → Shows old M → Follows (try_emit emitter v) old result new → TrySpent result
  offer_spent emitter v old new result M shows follows = subst TrySpent (sym (follows M shows).0) (try_spent emitter v M)

  -- so is the first subscription of a new flow
  pub first_spent : (config : Config) (old new : Seen T) (result : Result SubId Refusal) → making_refusal config ≡ None → Shows old (empty (parameters_of config)) → Follows subscribe old result new → SubscribeSpent result
  first_spent config old new result made shows follows = subst SubscribeSpent (sym (follows _ shows).0) (subscribe_spent T config made)

-- a flow that was made was not refused
pub not_refused : {A : Type 0} (o : Option Refusal) (x : A) → IfSome o (λ e. ◌≡◌ {A = Result A Refusal} (Ok x) (Err e)) → o ≡ None
not_refused None x was = refl
not_refused (Some e) x was = absurd (cc)

pub none_if_ok : {A : Type 0} (o : Option Refusal) (x : A) (P : Refusal → Type 0) → IfSome o (λ e. ◌≡◌ {A = Result A Refusal} (Ok x) (Err e)) → IfSome o P
none_if_ok None x P was = tt
none_if_ok (Some e) x P was = absurd (cc)

pub whatever : (o : Option Refusal) (P : Type 0) → P → IfNone o P
whatever None P it = it
whatever (Some e) P it = tt
