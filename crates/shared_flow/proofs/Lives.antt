-- What a subscription was given, beside what its reader gave.
use Rattle.std.proofs.Common.{◌≡◌, ◌⊎◌, inl, inr, ⊎_elim, ℕ, List, [], ◌∷◌, ◌++◌, map, Option, None, Some, refl, sym, ap, subst, ◌∙◌, append_assoc}
use Rattle.std.proofs.lemmas.List.{append-nil, map-append}
use Rattle.shared_lane.specs.Headline.{Lived, given, ReceivesCacheThenLater, pending}
use Rattle.shared_lane.specs.Views.{ReaderSeen}
use Rattle.shared_flow.specs.Lives.{LifeStep, greeted, looked, LivesOn, Life, received_in, ReceivesPreludeCacheThenLater}

module _ {T : Type 0} where
  -- what the looks gave
  abbrev pub looks : List (LifeStep T) → List (Option ℕ)
  looks [] = []
  looks (greeted v ∷ life_steps) = looks life_steps
  looks (looked x ∷ life_steps) = x ∷ looks life_steps

  pub reader_lived : (rest : List T) (r : ReaderSeen) (life_steps : List (LifeStep T)) (left : List T) (t : ReaderSeen) → LivesOn rest r life_steps left t → Lived r (looks life_steps) t
  reader_lived rest r [] left t lives = lives.1
  reader_lived rest r (greeted v ∷ life_steps) left t lives = reader_lived lives.0 r life_steps left t lives.2
  reader_lived rest r (looked x ∷ life_steps) left t lives = (lives.0, lives.2, lives.3, reader_lived rest lives.0 life_steps left t lives.4)

  pub lives_more : (rest : List T) (r : ReaderSeen) (life_steps : List (LifeStep T)) (then : List T) (m : ReaderSeen) (more : List (LifeStep T)) (left : List T) (t : ReaderSeen)
      → LivesOn rest r life_steps then m → LivesOn then m more left t → LivesOn rest r (life_steps ++ more) left t
  lives_more rest r [] then m more left t lives on = subst (λ l. LivesOn l r more left t) lives.0 (subst (λ x. LivesOn then x more left t) lives.1 on)
  lives_more rest r (greeted v ∷ life_steps) then m more left t lives on = (lives.0, lives.1, lives_more lives.0 r life_steps then m more left t lives.2 on)
  lives_more rest r (looked x ∷ life_steps) then m more left t lives on = (lives.0, lives.1, lives.2, lives.3, lives_more rest lives.0 life_steps then m more left t lives.4 on)

  pub received_more : (read_as : ℕ → T) (life_steps more : List (LifeStep T)) → received_in read_as (life_steps ++ more) ≡ received_in read_as life_steps ++ received_in read_as more
  received_more read_as [] more = refl
  received_more read_as (greeted v ∷ life_steps) more = ap (λ l. v ∷ l) (received_more read_as life_steps more)
  received_more read_as (looked (Some w) ∷ life_steps) more = ap (λ l. read_as w ∷ l) (received_more read_as life_steps more)
  received_more read_as (looked None ∷ life_steps) more = received_more read_as life_steps more

  -- once nothing is left, nothing comes back
  stays_past : (rest : List T) (r : ReaderSeen) (life_steps : List (LifeStep T)) (left : List T) (t : ReaderSeen) → rest ≡ [] → LivesOn rest r life_steps left t → left ≡ []
  stays_past rest r [] left t none lives = lives.0 ∙ none
  stays_past rest r (greeted v ∷ life_steps) left t none lives = absurd (let some = lives.1 in cc)
  stays_past rest r (looked x ∷ life_steps) left t none lives = stays_past rest lives.0 life_steps left t none lives.4

  pub comes_first : (read_as : ℕ → T) (rest : List T) (r : ReaderSeen) (life_steps : List (LifeStep T)) (left : List T) (t : ReaderSeen) → LivesOn rest r life_steps left t
      → (left ≡ []) ⊎ (received_in read_as life_steps ++ left ≡ rest)
  comes_first read_as rest r [] left t lives = inr lives.0
  comes_first read_as rest r (greeted v ∷ life_steps) left t lives =
      ⊎_elim (λ none. inl none) (λ begins. inr (ap (λ l. v ∷ l) begins ∙ sym lives.1)) (comes_first read_as lives.0 r life_steps left t lives.2)
  comes_first read_as rest r (looked (Some w) ∷ life_steps) left t lives = inl (stays_past rest lives.0 life_steps left t lives.1 lives.4)
  comes_first read_as rest r (looked None ∷ life_steps) left t lives = comes_first read_as rest lives.0 life_steps left t lives.4

  -- what was received, and then what is left of the prelude, is the prelude and then what the reader gave
  pub received_in_order : (read_as : ℕ → T) (rest : List T) (r : ReaderSeen) (life_steps : List (LifeStep T)) (left : List T) (t : ReaderSeen) → LivesOn rest r life_steps left t
      → received_in read_as life_steps ++ left ≡ rest ++ map read_as (given (looks life_steps))
  received_in_order read_as rest r [] left t lives = lives.0 ∙ sym (append-nil rest)
  received_in_order read_as rest r (greeted v ∷ life_steps) left t lives =
      ap (λ l. v ∷ l) (received_in_order read_as lives.0 r life_steps left t lives.2) ∙ ap (λ l. l ++ map read_as (given (looks life_steps))) (sym lives.1)
  received_in_order read_as rest r (looked (Some w) ∷ life_steps) left t lives =
      let later = received_in_order read_as rest lives.0 life_steps left t lives.4 in
      let words = map read_as (given (looks life_steps)) in
      ap (λ l. read_as w ∷ l) (later ∙ ap (λ l. l ++ words) lives.1) ∙ ap (λ l. l ++ read_as w ∷ words) (sym lives.1)
  received_in_order read_as rest r (looked None ∷ life_steps) left t lives = received_in_order read_as rest lives.0 life_steps left t lives.4

  -- what holds of the reader, and of the subscription by that
  pub with_prelude : (read_as : ℕ → T) (life : Life T) (now : ReaderSeen) → LivesOn life.prelude life.start life.life_steps life.left life.reader
      → ReceivesCacheThenLater life.cache life.start now (given (looks life.life_steps)) → ReceivesPreludeCacheThenLater read_as life now
  with_prelude read_as life now lives receives =
      let received = received_in read_as life.life_steps in
      let words = given (looks life.life_steps) in
      let later = pending now in record {
        kept = receives.kept;
        dropped = receives.dropped;
        received_then_pending_is_prelude_cache_then_later =
            sym (append_assoc received life.left (map read_as later))
            ∙ ap (λ l. l ++ map read_as later) (received_in_order read_as life.prelude life.start life.life_steps life.left life.reader lives)
            ∙ append_assoc life.prelude (map read_as words) (map read_as later)
            ∙ ap (λ l. life.prelude ++ l) (sym (map-append read_as words later) ∙ ap (map read_as) receives.received_then_pending_is_cache_then_later);
        prelude_comes_first = comes_first read_as life.prelude life.start life.life_steps life.left life.reader lives;
        in_order_and_once = receives.in_order_and_once;
        in_order_of_acceptance = receives.in_order_of_acceptance;
        dropped_are_lost = receives.dropped_are_lost;
        only_drop_oldest_drops = receives.only_drop_oldest_drops;
      }
