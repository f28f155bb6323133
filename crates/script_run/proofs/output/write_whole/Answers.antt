use Rattle.std.proofs.Common.{arith}
use Rattle.script_run.proofs.Transfers.{written_more}
use Rattle.script_run.proofs.output.write_whole.Goals as goal

pub loop-written-preserved : goal.loop-written-preserved
loop-written-preserved g c = record {
  within = omega (arith, c.in-Ok.ensures.bound, c.split_at.ensures.back_len);
  appended = written_more _ _ _ c.args.bytes.now c.split_at.result.1.now c.loop-written.written c.in-Ok.count c.split_at.ensures.back c.loop-written.invariant.appended c.in-Ok.ensures.bytes;
}
