-- What a strategy keeps after one more poll.
use Rattle.std.proofs.Common.{◌≡◌, refl, not, ◌&&◌, ◌==◌, ◌∷◌, arith}
use Rattle.std.proofs.lemmas.Grind.{common_steps}
use Rattle.flow_terms.specs.declared.started.Started.{Started}
use Rattle.flow_terms.specs.declared.started.Started.TheVariants.{Eagerly, Lazily, WhileSubscribed, Custom}
use Rattle.sharing_upstream.specs.declared.strategy.Audience.{Audience}
use Rattle.sharing_upstream.specs.Keeping.{counted, is_past, is_expired, marked, on_by}
use Rattle.sharing_upstream.specs.Shown.{audience_of, progress_of}
use Rattle.sharing_upstream.specs.Strategies.{Look, History, latest, is_on, is_first_due}

abbrev pub met : Started → Look → History → Audience
met started look history = counted (audience_of started history) (look.count == 0) (latest (look ∷ history))

pub audience-more : (started : Started) (look : Look) (history : History)
    → marked (is_past started (met started look history) (latest (look ∷ history))) (met started look history) ≡ audience_of started (look ∷ history)
audience-more started look history = grind (arith, common_steps)

pub due-more : (started : Started) (look : Look) (history : History)
    → (is_past started (met started look history) (latest (look ∷ history)) && not (is_expired (met started look history))) ≡ is_first_due started (look ∷ history)
due-more started look history = grind (arith, common_steps)

pub on-more : (started : Started) (look : Look) (history : History)
    → on_by started (audience_of started (look ∷ history)) (progress_of started (look ∷ history)) (latest (look ∷ history)) ≡ is_on started (look ∷ history)
on-more Eagerly look history = refl
on-more Lazily look history = grind (arith, common_steps)
on-more (WhileSubscribed stop expire) look history = grind (arith, common_steps)
on-more (Custom plan) look history = refl
