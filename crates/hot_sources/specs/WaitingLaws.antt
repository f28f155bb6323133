-- Laws of what a thread that waits for a run was given by it.
use Rattle.std.specs.Prelude.{◌≡◌, ℕ, ◌+◌, List, [], ◌∷◌, ◌++◌, length, refl, Option, Some, None, Result, Ok, Err}
use Rattle.std.proofs.Common.{sym, ◌∙◌, ap, append_assoc, length-append}
use Rattle.std.proofs.lemmas.List.{append-nil}
use Rattle.futures.specs.declared.task.Poll.{Poll}
use Rattle.futures.specs.declared.task.Poll.TheVariants.{Ready, Pending}
use Rattle.flow_terms.specs.declared.refusal.Refusal.{Refusal}
use Rattle.flow_terms.specs.declared.refusal.Refusal.TheVariants.{NoMemory}
use Rattle.cold_flow.specs.declared.cause.Cause.{Cause}
use Rattle.cold_flow.specs.declared.event.Event.{Event}
use Rattle.cold_flow.specs.declared.event.Event.TheVariants.{Value, End}
use Rattle.cold_flow.specs.Trace.{Trace, ended_by}
use Rattle.cold_flow.specs.Poll.{After, Within}
use Rattle.cold_flow.specs.Gather.{Gathered}
use Rattle.cold_flow.specs.GatherLaws.{gathers_value, gathers_end, gathers_none, gathers_within}
use Rattle.cold_flow.specs.Polled.{Gave}
use Rattle.cold_flow.specs.Polled.Gave.{nothing, one_more, waited}
use Rattle.cold_flow.specs.PassingLaws.{gave_on, gave_still}
use Rattle.hot_sources.specs.Waiting.{Came, TookSome, TookAll, EndedAfter}

module _ {R A E : Type 0} (polled : R → Poll (Event A E) → R → Type 0) (may : R → Trace A E → Type 0) where
  -- so many values were taken, and added to a list; what the run can still give it could give at first, behind them
  pub record Took (old : R) (before after : List A) (new : R) (n : ℕ) : Type 0 where
    pub xs : List A
    pub is : after ≡ before ++ xs
    pub many : length xs ≡ n
    pub gave : Gave polled old xs new
    pub within : Within (may old) (Gathered xs (may new))

  pub took_none : (old : R) (before : List A) → Took old before before old 0
  took_none old before = record {
    xs = [];
    is = sym (append-nil before);
    many = refl;
    gave = nothing;
    within = gathers_none (may old);
  }

  pub took_one : (old mid new : R) (before after more : List A) (n : ℕ) (x : A) → Took old before after mid n
      → Came polled mid (Value x) new → After (may mid) x (may new) → more ≡ after ++ x ∷ [] → Took old before more new (n + 1)
  took_one old mid new before after more n x took came narrows is = record {
    xs = took.xs ++ x ∷ [];
    is = is ∙ ap (λ (l : List A). l ++ x ∷ []) took.is ∙ append_assoc before took.xs (x ∷ []);
    many = length-append took.xs (x ∷ []) ∙ ap (λ (k : ℕ). k + 1) took.many;
    gave = one_more x (gave_still polled old mid came.0 took.xs took.gave came.1) came.2 refl;
    within = λ t h. took.within t (gathers_value took.xs (took.xs ++ x ∷ []) (may mid) (may new) x narrows refl t h);
  }

  pub took_some : (old new : R) (before after : List A) (n : ℕ) → Took old before after new n → TookSome polled old before after new
  took_some old new before after n took = (took.xs, took.is, took.gave)

  pub took_all : (old new : R) (before after : List A) (n count : ℕ) → Took old before after new n → n ≡ count
      → TookAll polled count old before after new
  took_all old new before after n count took is = (took.xs, took.is, took.many ∙ is, took.gave)

  pub ended_after : (old mid new : R) (before after : List A) (n : ℕ) (k : Cause E) → Took old before after mid n
      → Came polled mid (End k) new → may mid (ended_by [] k) → EndedAfter polled may old before after k new
  ended_after old mid new before after n k took came could = (
    took.xs,
    came.0,
    took.is,
    gave_still polled old mid came.0 took.xs took.gave came.1,
    came.2,
    took.within _ (gathers_end took.xs (may mid) k could),
  )

  -- so many were taken, and then so many more
  pub took_on : (old mid new : R) (before after more : List A) (n k : ℕ) → Took old before after mid n → Took mid after more new k
      → Took old before more new (n + k)
  took_on old mid new before after more n k took next = record {
    xs = took.xs ++ next.xs;
    is = next.is ∙ ap (λ (l : List A). l ++ next.xs) took.is ∙ append_assoc before took.xs next.xs;
    many = length-append took.xs next.xs ∙ ap (λ (m : ℕ). m + length next.xs) took.many ∙ ap (λ (m : ℕ). n + m) next.many;
    gave = gave_on polled old mid new took.xs next.xs took.gave next.gave;
    within = λ t h. took.within t (record {
      given = (next.xs ++ h.given.0, h.given.1);
      came = next.within _ (record { given = h.given; came = h.came; is = refl });
      is = h.is ∙ ap (λ (l : List A). (l, h.given.1)) (append_assoc took.xs next.xs h.given.0);
    });
  }

  -- a poll that pended gave none
  pub took_pending : (old mid new : R) (before after : List A) (n : ℕ) → Took old before after mid n → polled mid Pending new
      → Within (may mid) (may new) → Took old before after new n
  took_pending old mid new before after n took poll within = record {
    xs = took.xs;
    is = took.is;
    many = took.many;
    gave = waited took.gave poll;
    within = λ t h. took.within t (gathers_within took.xs (may mid) (may new) within t h);
  }

  -- What one turn took of so many values, and how many were left: all; those up to an end, or up to where memory lacked; or those up to
  -- where the run pended.
  abbrev pub TookUpTo : R → List A → ℕ → Poll (Result (Option (Cause E)) Refusal) → List A → R → ℕ → Type 0
  TookUpTo old before left Pending after new more = (n : ℕ) × Took old before after new n × (n + more ≡ left)
  TookUpTo old before left (Ready (Ok None)) after new more = Took old before after new left
  TookUpTo old before left (Ready (Ok (Some k))) after new more =
      (n : ℕ) × (mid : R) × Took old before after mid n × polled mid (Ready (End k)) new × may mid (ended_by [] k)
  TookUpTo old before left (Ready (Err e)) after new more = (n : ℕ) × Took old before after new n × (e ≡ NoMemory)
