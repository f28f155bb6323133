-- What a collector that a seat runs was given is a subsequence of the history without equal neighbours.
use Rattle.std.proofs.Common.{◌≡◌, ◌≢◌, ℕ, List, [], ◌∷◌, ◌++◌, Option, Some, None, sym, refl, ap, ◌∙◌}
use Rattle.std.specs.Option.{option_map}
use Rattle.state_flow.specs.declared.view.View.{View}
use Rattle.flow_terms.specs.Lists.{IsPrefix}
use Rattle.state_flow.specs.History.{last_of}
use Rattle.state_flow.specs.Calls.{Asks, IsGiven, with_given}
use Rattle.state_flow.proofs.Lists.{last_snoc, picks_none, picks_on, picks_last}

module _ {T : Type 0} (word : T → ℕ) where
  abbrev V : Type 0
  V = View T

  pub given_none : (v : V) → IsGiven word [] None v
  given_none v = record { picks = picks_none v.seen; last_is = refl }

  pub given_still : (given : List T) (last : Option ℕ) (v w : V) → IsGiven word given last v → IsPrefix v.seen w.seen → IsGiven word given last w
  given_still given last v w was more = record { picks = picks_on given v.seen w.seen more was.picks; last_is = was.last_is }

  pub given_more : (given : List T) (last now : Option ℕ) (one : Option T) (v w : V) → IsGiven word given last v → Asks word v last one now w → IsGiven word (with_given given one) now w
  given_more given last now None v w was asks = record {
    picks = picks_on given v.seen w.seen asks.reads.extends.seen was.picks;
    last_is = asks.now_is ∙ (sym asks.answers ∙ was.last_is);
  }
  given_more given last now (Some x) v w was asks =
      let same : Some asks.value ≡ Some x = ap (λ (z : T). Some z) (sym asks.answers.0) in
      let other : last_of given ≢ Some x = λ e. asks.answers.1 (was.last_is ∙ (ap (option_map word) (e ∙ sym same))) in
      record {
        picks = picks_last given w.seen x (given ++ x ∷ []) (no other) (asks.reads.current ∙ same) ((λ e. absurd (other e)), (λ _. refl)) (picks_on given v.seen w.seen asks.reads.extends.seen was.picks);
        last_is = asks.now_is ∙ (ap (option_map word) (same ∙ sym (last_snoc given x)));
      }
