use Rattle.std.proofs.Common.{◌≡◌, ℕ, ◌+◌, List, [], ◌∷◌, ◌++◌, take, slice_get, Some, sym, ap, ◌∙◌, append_assoc}
use Rattle.std.proofs.lemmas.List.{take_more}
use Rattle.std.proofs.lemmas.Option.{get_or_from_slice_get, slice_get_within}
use Rattle.hot_callers.proofs.shared_calling.add_cache.Goals as goal

-- one value of the list more
one_more : (out ws : List ℕ) (i w v : ℕ) → slice_get ws i ≡ Some w → v ≡ w → (out ++ take i ws) ++ v ∷ [] ≡ out ++ take (i + 1) ws
one_more out ws i w v at is =
    let more = take_more ws i w (slice_get_within ws i w at) ∙ ap (λ x. take i ws ++ x ∷ []) (get_or_from_slice_get ws i w w at ∙ sym is) in
    append_assoc out (take i ws) (v ∷ []) ∙ ap (λ ys. out ++ ys) (sym more)

pub loop-index-preserved : goal.loop-index-preserved
loop-index-preserved c =
    let cache = c.args.held.now.kept.shared.sequencer.cache in
    let value = c.replay_at.ensures in
    c.in_ok-push.ensures.items ∙ ap (λ ys. ys ++ c.replay_at.result ∷ []) c.loop-index.invariant
    ∙ one_more c.args.values.now.items cache c.loop-index.index value.0 c.replay_at.result value.1 value.2
