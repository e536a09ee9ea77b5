use Rattle.trace_run.proofs.Known.{known_trits, masked}
use Rattle.trace_run.proofs.words.known_word.Goals as goal

pub invariant_of-result : goal.invariant_of-result
invariant_of-result c =
    record { masked = masked c.args.pad.now c.args.value c.all_bits.result c.all_bits.ensures c.requires }

pub returns : goal.returns
returns c = known_trits c.args.pad.now _ c.all_bits.ensures
