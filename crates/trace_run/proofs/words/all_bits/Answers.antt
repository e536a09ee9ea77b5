use Rattle.trace_run.proofs.Known.{ones}
use Rattle.trace_run.proofs.words.all_bits.Goals as goal

pub returns : goal.returns
returns c = ones c.args.pad.now c.bits_of.result c.bits_of.ensures
