-- The last of a subscription that ends.
use Rattle.std.proofs.Common.{◌≡◌, ◌⊎◌, inl, inr, ⊎_elim, ℕ, suc, ◌+◌, ◌-◌, ◌<◌, ◌≤◌, Bool, true, false, List, [], ◌∷◌, ◌++◌, length, map, refl, sym, ap, ◌∙◌, arith}
use Rattle.std.proofs.lemmas.List.{length-map, length-drop}
use Rattle.std.proofs.lemmas.Option.{slice_get-get_or}
use Rattle.std.specs.List.{AllByRecursion, cons_option}
use Rattle.shared_lane.specs.Law.{lost, received as received_at}
use Rattle.shared_core.specs.Flow.{values_at}
use Rattle.shared_lane.specs.declared.reader.Met.{Met}
use Rattle.shared_lane.specs.Caches.{word_of}
use Rattle.shared_lane.specs.Headline.{words_seen}
use Rattle.shared_lane.specs.Readers.{at}
use Rattle.shared_lane.specs.Sequencers.{seen}
use Rattle.shared_lane.specs.Views.{ReaderSeen, SequencerSeen}
use Rattle.shared_rounds.specs.Meeting.{HasMet}
use Rattle.shared_rounds.specs.Reach.{Party}
use Rattle.shared_flow.specs.Looks.{WasEnded, IsEndOf, closed_reader}
use Rattle.shared_flow.specs.Parties.{Subscribed, since_start, words_received, received}
use Rattle.shared_flow.specs.Received.{KnowsReceived, IsComplete}
use Rattle.shared_flow.proofs.Received.{found_on, receives_all, drops_what_it_lost}

-- ---- how many

received_anywhere : (j k : ℕ) (bs : List Bool) → length (received_at j bs) ≡ length (received_at k bs)
received_anywhere j k [] = refl
received_anywhere j k (true ∷ bs) = ap suc (received_anywhere (suc j) (suc k) bs)
received_anywhere j k (false ∷ bs) = received_anywhere (suc j) (suc k) bs

lost_anywhere : (j k : ℕ) (bs : List Bool) → length (lost j bs) ≡ length (lost k bs)
lost_anywhere j k [] = refl
lost_anywhere j k (true ∷ bs) = lost_anywhere (suc j) (suc k) bs
lost_anywhere j k (false ∷ bs) = ap suc (lost_anywhere (suc j) (suc k) bs)

-- each index of a list gives a value
one_each : (xs : List ℕ) (is : List ℕ) → AllByRecursion (λ index. index < length xs) is → length (values_at xs is) ≡ length is
one_each xs [] all = refl
one_each xs (i ∷ is) all = ap (λ o. length (cons_option o (values_at xs is))) (slice_get-get_or xs i 0 all.0) ∙ ap suc (one_each xs is all.1)

-- ---- what a reader has seen that met the sequencer

has_seen_all : (q : SequencerSeen) (r t : ReaderSeen) (met : Met) → HasMet q r t met → KnowsReceived t → length (since_start t) ≡ met.accepted
has_seen_all q r t met has_met knows =
    let long : length (words_seen t) ≡ length t.seen = length-map t.seen word_of in
    let since : length (since_start t) ≡ length (words_seen t) - (t.start - t.shape.first) = length-drop (t.start - t.shape.first) (words_seen t) in
    let all = ap length has_met.has_seen_all in
    let first : t.shape.first ≡ q.view.shape.first = (λ i. (has_met.same_shape i).first) in
    let accepted : t.start + met.accepted ≡ q.view.shape.first + length (seen q) = has_met.accepted in
    let begins = knows.begins in
    let began = knows.began in
    omega (arith, long, since, all, first, accepted, begins, began)

is_within : (q : SequencerSeen) (r t : ReaderSeen) (met : Met) → HasMet q r t met → length t.story ≤ met.accepted
is_within q r t met has_met =
    let all = ap length has_met.has_seen_all in
    let first : t.shape.first ≡ q.view.shape.first = (λ i. (has_met.same_shape i).first) in
    let accepted : t.start + met.accepted ≡ q.view.shape.first + length (seen q) = has_met.accepted in
    let so_far : t.start + length t.story ≤ t.shape.first + length t.seen = has_met.has_seen_so_far in
    omega (arith, all, first, accepted, so_far)

module _ {T : Type 0} (read_as : ℕ → T) where
  -- its round closed it as a meeting left it
  pub is_complete : (s : Subscribed T) (met : Met) (left : Party) → KnowsReceived s.reader → (s.rest ≡ []) ⊎ (words_received s.reader ≡ [])
      → WasEnded s.number s.reader met s.party left → (complete : IsComplete read_as s met) × IsEndOf s met complete.last × (complete.last.party ≡ left)
  is_complete s met left knows first ended =
      let r = s.reader in
      let t = closed_reader ended in
      let q = ended.closed.5.0 in
      let has_met = ended.closed.5.4 in
      let found = found_on r t (at t) knows has_met.same has_met.went in
      let last : Subscribed T = record s { party = left; reader = t } in
      let still : (s.rest ≡ []) ⊎ (words_received t ≡ []) = ⊎_elim (λ none. inl none) (λ none. inr (found.1 ∙ none)) first in
      let complete : IsComplete read_as s met = record {
        last = last;
        same = (refl, refl, refl, has_met.same);
        received_no_more = ap (λ l. s.given ++ map read_as l) found.1;
        receives_all = receives_all read_as last found.0 still;
        has_seen_all = has_seen_all q r t met has_met found.0;
        is_within = is_within q r t met has_met;
        counts_received = one_each (since_start t) (received_at 0 t.story) found.0.sees ∙ received_anywhere 0 t.start t.story ∙ sym has_met.received;
        counts_dropped = ap length (drops_what_it_lost read_as last found.0 still) ∙ lost_anywhere 0 t.start t.story ∙ sym has_met.dropped;
      } in
      (complete, (ended, refl), refl)
