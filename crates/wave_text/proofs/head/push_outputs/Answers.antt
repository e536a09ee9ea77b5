use Rattle.std.proofs.Common.{arith}
use Rattle.wave_text.specs.Waves.{output_text}
use Rattle.wave_text.proofs.Numbering.{more}
use Rattle.wave_text.proofs.head.push_outputs.Goals as goal

pub loop-k-preserved : goal.loop-k-preserved
loop-k-preserved c =
    more output_text c.args.pads.now c.loop-k.k c.index-pads-k.result
    c.args.text.now.items (omega arith) c.index-pads-k.is c.loop-k.invariant c.in_ok-push_output.ensures
