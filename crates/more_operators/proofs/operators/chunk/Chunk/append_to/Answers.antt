use Rattle.std.proofs.Common.{arith, sym, ◌∙◌}
use Rattle.more_operators.specs.ChunkLaws.{appended_one, appended_all}
use Rattle.more_operators.proofs.operators.chunk.Chunk.append_to.Goals as goal

-- one value more
pub loop-index-preserved : goal.loop-index-preserved
loop-index-preserved g c =
    let before = c.loop-index.invariant in
    record {
      values = c.push_reserved.ensures.items ∙ appended_one _ _ _ _ _ before.values (sym c.get.ensures ∙ c.in-Some.is);
      room = omega (arith, before.room, c.push_reserved.ensures.capacity);
    }

-- all values
pub returns-in_default-clause-values : goal.returns-in_default-clause-values
returns-in_default-clause-values g c = appended_all _ _ _ _ c.loop-index.invariant.values (sym c.get.ensures ∙ c.in_default.is)
