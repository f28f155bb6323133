-- What the steps of a sharing do to the place where its values go.
use Rattle.std.specs.Prelude.{◌≡◌, ℕ, Bool, List, [], ◌∷◌}
use Rattle.flow_terms.specs.declared.refusal.Refusal.{Refusal}
use Rattle.sharing_upstream.specs.declared.destination.Offer.{Offer}
use Rattle.sharing_upstream.specs.declared.destination.Offer.TheVariants.{Accepted, Waiting, Refused}

-- What each step does, where values of T go to a place of which contracts see an S. Each word says how the place stood before the
-- step, what the step was handed and answered, and how the place stood after it
pub record Steps (T S : Type 0) : Type 1 where
  -- it said how many listen
  pub Counts : S → ℕ → S → Type 0
  -- it was asked whether the waiting value waits still
  pub Asks : S → Bool → S → Type 0
  -- a value was offered, and doesn't wait
  pub Accepts : S → T → S → Type 0
  -- a value was offered, and waits
  pub Delays : S → T → S → Type 0
  -- a value was offered, and refused
  pub Refuses : S → T → Refusal → S → Type 0
  -- the waiting value was withdrawn, where there was one
  pub Withdraws : S → S → Type 0
  -- what is shared was reset
  pub Resets : S → S → Type 0

module _ {T S : Type 0} (steps : Steps T S) where
  -- what became of the value that was offered
  abbrev pub Offered : S → T → Offer → S → Type 0
  Offered before x Accepted after = steps.Accepts before x after
  Offered before x Waiting after = steps.Delays before x after
  Offered before x (Refused refusal) after = steps.Refuses before x refusal after

  -- each of these values was offered, in this order, and none waits
  abbrev pub AcceptsEach : S → List T → S → Type 0
  AcceptsEach before [] after = after ≡ before
  AcceptsEach before (x ∷ values) after = (between : S) × steps.Accepts before x between × AcceptsEach between values after
