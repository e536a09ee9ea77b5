use Rattle.std.proofs.Common.{arith}
use Rattle.wave_text.specs.Waves.{stored_text}
use Rattle.wave_text.proofs.Numbering.{more}
use Rattle.wave_text.proofs.head.push_all_stored.Goals as goal

pub loop-k-preserved : goal.loop-k-preserved
loop-k-preserved c =
    more (stored_text c.args.width) c.args.defs.now c.loop-k.k c.index-defs-k.result
    c.args.text.now.items (omega arith) c.index-defs-k.is c.loop-k.invariant c.in_ok-push_stored.ensures
