use Rattle.std.proofs.Common.{◌≡◌, ℕ, ◌+◌, List, [], ◌∷◌, ◌++◌, map, take, slice_get, Some, sym, ap, subst, ◌∙◌, append_assoc, arith}
use Rattle.std.proofs.lemmas.List.{take_more, map-append}
use Rattle.std.proofs.lemmas.Option.{get_or_from_slice_get, slice_get_within}
use Rattle.shared_rounds.specs.Names.{SharedSeen}
use Rattle.shared_rounds.proofs.shared.Shared.read_cache.Goals as goal

-- one more word of the list is read
copied : {T : Type 0} (read : ℕ → T) (out : List T) (ws : List ℕ) (i w : ℕ) → slice_get ws i ≡ Some w → (out ++ map read (take i ws)) ++ read w ∷ [] ≡ out ++ map read (take (i + 1) ws)
copied read out ws i w at =
    let more = take_more ws i w (slice_get_within ws i w at) ∙ ap (λ x. take i ws ++ x ∷ []) (get_or_from_slice_get ws i w w at) in
    append_assoc out (map read (take i ws)) (read w ∷ []) ∙ ap (λ ys. out ++ ys) (sym (map-append read (take i ws) (w ∷ [])) ∙ ap (map read) (sym more))

pub loop-index-preserved : goal.loop-index-preserved
loop-index-preserved g c = record {
  added = c.push_reserved.ensures.items ∙ ap (λ ys. ys ++ c.from_word.result ∷ []) c.loop-index.invariant.added
      ∙ ap (λ (v : g.row.T.Denot). (c.args.out.now.items ++ map g.T.Word.read_as (take c.loop-index.index c.args.self.now.sequencer.cache)) ++ v ∷ []) c.from_word.ensures
      ∙ copied g.T.Word.read_as c.args.out.now.items c.args.self.now.sequencer.cache c.loop-index.index c.replay_at.result
      (subst (λ (s : SharedSeen). slice_get s.sequencer.cache c.loop-index.index ≡ Some c.replay_at.result) c.self.view_is c.replay_at.ensures.value);
  room = omega (arith, c.loop-index.invariant.room, c.loop-index-test.true, c.push_reserved.ensures.capacity, c.push_reserved.ensures.len);
}
