use Rattle.std.proofs.Common.{map, take}
use Rattle.shared_lane.specs.Blocks.{TriedAllOn}
use Rattle.shared_rounds.proofs.Trying.{no_scan}
use Rattle.shared_rounds.proofs.shared.Shared.try_next_block.Goals as goal

pub returns-in-Ok-clause-tried : goal.returns-in-Ok-clause-tried
returns-in-Ok-clause-tried g c = no_scan c.args.self.now.sequencer (λ m. TriedAllOn m c.args.emitter (map g.T.Word.word (take 64 c.args.values.now)) c.in-Ok.count c.try_block.new.self.sequencer) c.requires c.in-Ok.ensures.tried
