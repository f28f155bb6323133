use Rattle.std.proofs.Common.{arith, ◌≡◌, ℕ, ◌+◌, get_or, ap, ◌∙◌}
use Rattle.atomic_table.proofs.Lists.{at_longer}
use Rattle.shared_lane.specs.Layout.{cell_word}
use Rattle.shared_lane.proofs.promises.unread_values_stay.Goals as goal

pub returns : goal.returns
returns c key s law p n x inside live unread has = let all = law.each_place p inside in let near = all.near live in let i : ℕ = has.0 in let at : n ≡ key.first + i = has.2 in
    ap (λ (z : ℕ). get_or s.words (cell_word key z) 0) at ∙ law.each_cell i has.1 x (at_longer law.log law.flight i (has.1, x) has.3) (omega arith)
