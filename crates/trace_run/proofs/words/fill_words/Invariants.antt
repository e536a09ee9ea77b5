use Rattle.std.proofs.Common.{◌≡◌, length, take}
use Rattle.stimulus.specs.Bits.{trits_of}
use Rattle.mp_base.specs.PadBits.{value_bits}
use Rattle.trace_run.proofs.words.fill_words.Given as goal

abbrev pub invariant-loop-i : goal.invariant-loop-i
invariant-loop-i l = record {
  len : length l.words ≡ length l.fn.words;
  bits : trits_of (take l.i l.pads) (take l.i l.words) ≡ value_bits (take l.i l.pads) (take l.i l.outputs);
}
