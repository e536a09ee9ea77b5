use Rattle.std.proofs.Common.{arith}
use Rattle.wave_text.specs.Waves.{value_text}
use Rattle.wave_text.proofs.Numbering.{more_at}
use Rattle.wave_text.proofs.values.push_all.Goals as goal

pub loop-k-preserved : goal.loop-k-preserved
loop-k-preserved c =
    more_at (value_text c.args.letter.now) c.args.values.now c.loop-k.k 0 c.args.text.now.items (omega arith)
    c.loop-k.invariant c.in_ok-push_value.ensures
