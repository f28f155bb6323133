use Rattle.std.proofs.Common.{◌≡◌, ◌≤◌, ◌*◌, length}
use Rattle.std.specs.Hash.FoldHasher as folding
use Rattle.script_commands.specs.Hashes.{in_eights, eights}
use Rattle.script_commands.proofs.name_hash.NameHasherHasher.write.Given as goal

abbrev pub invariant-loop-eights : goal.invariant-loop-eights
invariant-loop-eights l = (in_eights folding.write l.eights l.taken l.left ≡ in_eights folding.write (eights l.bytes) l.fn.self.taken l.bytes) × (8 * l.eights ≤ length l.left)

abbrev pub decreases-loop-eights : goal.decreases-loop-eights
decreases-loop-eights l = l.eights
