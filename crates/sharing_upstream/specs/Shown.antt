-- What a strategy keeps of a history.
use Rattle.std.specs.Prelude.{◌≡◌, if◌then◌else◌}
use Rattle.std.specs.List.{list_any}
use Rattle.flow_terms.specs.declared.started.Started.{Started}
use Rattle.sharing_upstream.specs.declared.strategy.Audience.{Audience}
use Rattle.sharing_upstream.specs.declared.strategy.Audience.TheVariants.{Awaited, Present, Gone}
use Rattle.sharing_upstream.specs.declared.strategy.Kept.{Kept}
use Rattle.sharing_upstream.specs.declared.strategy.Progress.{Progress}
use Rattle.sharing_upstream.specs.declared.strategy.Strategy.{Strategy}
use Rattle.sharing_upstream.specs.Strategies.{History, latest, was_visited, is_visited, stretch, beginning, is_due, is_on, entries_in, taken, last_taken}

-- of the counts: whether there was one over 0 before the present stretch, when that began, and whether a reset was due in it
abbrev pub audience_of : Started → History → Audience
audience_of started history =
    if is_visited history then Present
    else if was_visited history then Gone (beginning history) (list_any (is_due started) (stretch history))
    else Awaited

-- of a plan
abbrev pub progress_of : Started → History → Progress
progress_of started history = record {
  taken = taken (entries_in started) history;
  last = last_taken (entries_in started) history;
}

-- the rule that a strategy was made by
abbrev pub started_by : Strategy → Started
started_by strategy = strategy.started

-- the strategy keeps what this history comes to
pub record Shows (strategy : Strategy) (history : History) : Type 0 where
  pub latest_is : strategy.kept.latest ≡ latest history
  pub audience_is : strategy.kept.audience ≡ audience_of strategy.started history
  pub progress_is : strategy.kept.progress ≡ progress_of strategy.started history
  pub on_is : strategy.kept.on ≡ is_on strategy.started history

-- the strategy, where it keeps this
abbrev pub keeping : Kept → Strategy → Strategy
keeping kept strategy = record strategy { kept = kept }
