use Rattle.std.proofs.Common.{◌≡◌, ap, arith}
use Rattle.script_commands.proofs.Hashing.{kept, last}
use Rattle.script_commands.proofs.name_hash.NameHasherHasher.write.Goals as goal

pub loop-eights-preserved : goal.loop-eights-preserved
loop-eights-preserved c = (kept _ _ _ _ _ _ _ _ c.loop-eights-test.true c.split_at.ensures.front c.split_at.ensures.back c.write.ensures c.loop-eights.invariant.0, omega (arith, c.loop-eights.invariant.1, c.split_at.ensures.back_len))

pub returns : goal.returns
returns c = ap (λ taken. record { taken = taken }) (last _ c.loop-eights.eights _ _ _ _ (omega (arith, c.loop-eights-test.false)) c.write-2.ensures c.loop-eights.invariant.0)
