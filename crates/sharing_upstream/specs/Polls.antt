-- What a poll of a sharing answers and commands, by all polls so far.
use Rattle.std.specs.Prelude.{◌≡◌, ℕ, false, ◌∷◌, Option, Some, None}
use Rattle.cold_flow.specs.declared.cause.Cause.{Cause}
use Rattle.flow_terms.specs.declared.command.Command.{Command}
use Rattle.sharing_upstream.specs.declared.polling.Polled.{Polled}
use Rattle.sharing_upstream.specs.declared.strategy.Strategy.{Strategy}
use Rattle.flow_terms.specs.declared.started.Started.{Started}
use Rattle.sharing_upstream.specs.Shown.{Shows}
use Rattle.sharing_upstream.specs.Strategies.{History, latest, latest_count, is_on, is_reset, command}

-- the latest moment and count, and whether the sharing is on and what it shares was reset
abbrev pub polled : Started → History → Polled
polled started history = record {
  now = latest history;
  count = latest_count history;
  on = is_on started history;
  reset = is_reset started history;
}

-- the same of a sharing that ended for good at an earlier poll
abbrev pub polled_over : Started → History → Polled
polled_over started history = record (polled started history) { on = false; reset = false }

-- what a poll answers, where the sharing ended for good before it by this cause
abbrev pub answer : {E : Type 0} → Option (Cause E) → Started → History → Polled
answer None started history = polled started history
answer (Some cause) started history = polled_over started history

-- ---- a poll at this moment, which found this count, by every list of polls that the strategy shows before it

-- then the strategy shows that list with this poll
abbrev pub ShowsMore : Strategy → ℕ → ℕ → Strategy → Type 0
ShowsMore before now count after = (history : History) → Shows before history → Shows after (record { moment = now; count = count } ∷ history)

-- this is what the poll answers, where the sharing hasn't ended for good
abbrev pub PolledSo : Strategy → ℕ → ℕ → Polled → Type 0
PolledSo before now count found = (history : History) → Shows before history
    → found ≡ polled before.started (record { moment = now; count = count } ∷ history)

-- this is what the poll answers, where the sharing ended for good before it by this cause, or hasn't
abbrev pub Answers : {E : Type 0} → Strategy → Option (Cause E) → ℕ → Polled → Type 0
Answers before cause now found = (history : History) → Shows before history
    → found ≡ answer cause before.started (record { moment = now; count = found.count } ∷ history)

-- this is what the strategy commands
abbrev pub Commands : Strategy → ℕ → ℕ → Option Command → Type 0
Commands before now count done = (history : History) → Shows before history
    → done ≡ command before.started (record { moment = now; count = count } ∷ history)
