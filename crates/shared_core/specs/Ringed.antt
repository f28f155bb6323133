-- What contracts see of a ring, and what its steps make of it.
use Rattle.std.specs.Prelude.{◌≡◌, ℕ, ◌+◌, ◌-◌, ◌==◌, Bool, nat_lt, if◌then◌else◌, List, [], ◌∷◌, ◌++◌, length, drop, map, set, Option, Some, slice_get}
use Rattle.std.specs.List.{list_all}
use Rattle.shared_core.specs.Flow.{Parameters, places}

pub record Ringed (T : Type 0) : Type 0 where
  -- the number that the next accepted emission gets
  pub next_number : ℕ
  pub cache : List T
  -- each live subscription's number, and its pending values
  pub live : List (ℕ × List T)
  -- how many values the cache may hold, how many a subscription may have pending, and how many subscriptions may be live
  pub replay : ℕ
  pub limit : ℕ
  pub subscribers : ℕ

-- nothing was accepted, and nobody is live
abbrev pub empty_ring : {T : Type 0} → Parameters → Ringed T
empty_ring p = record {
  next_number = p.first;
  cache = [];
  live = [];
  replay = p.replay;
  limit = places p;
  subscribers = p.subscribers;
}

-- each live subscription has fewer values pending than it may
abbrev pub has_space : {T : Type 0} → Ringed T → Bool
has_space ring = list_all (λ e. nat_lt (length e.1) ring.limit) ring.live

-- one more value is pending for each live subscription, and the latest of the cache
abbrev pub with_value : {T : Type 0} → T → Ringed T → Ringed T
with_value v ring = record ring {
  next_number = ring.next_number + 1;
  cache = drop ((length ring.cache + 1) - ring.replay) (ring.cache ++ v ∷ []);
  live = map (λ e. (e.0, e.1 ++ v ∷ [])) ring.live;
}

-- each live subscription that has all its values pending loses the oldest of them
abbrev pub without_oldest : {T : Type 0} → Ringed T → Ringed T
without_oldest ring =
    record ring { live = map (λ e. if length e.1 == ring.limit then (e.0, drop 1 e.1) else e) ring.live }

-- the subscription at this index receives its oldest pending value
pub record Receives {T : Type 0} (old : Ringed T) (at : ℕ) (received : Option T) (new : Ringed T) : Type 0 where
  pub number : ℕ
  pub pending : List T
  pub was : slice_get old.live at ≡ Some (number, pending)
  pub oldest : received ≡ slice_get pending 0
  pub left : new ≡ record old { live = set old.live at (number, drop 1 pending) }
