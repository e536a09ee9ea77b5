use Rattle.std.proofs.Common.{arith}
use Rattle.wave_text.specs.Waves.{process_text}
use Rattle.wave_text.proofs.Numbering.{more}
use Rattle.wave_text.proofs.head.push_processes.Goals as goal

pub loop-k-preserved : goal.loop-k-preserved
loop-k-preserved c =
    more process_text c.args.processes.now c.loop-k.k c.index-processes-k.result
    c.args.text.now.items (omega arith) c.index-processes-k.is c.loop-k.invariant c.in_ok-push_process.ensures
