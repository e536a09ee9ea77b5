use Rattle.std.proofs.Common.{◌≡◌, ◌++◌, take}
use Rattle.std.specs.Prelude.{decimal}
use Rattle.outside.specs.Outside.{WhereTold, Gains}
use Rattle.stimulus.proofs.Texts.{word_texts}
use Rattle.stimulus.proofs.transcript.line.Given as goal

abbrev pub invariant-loop-i : goal.invariant-loop-i
invariant-loop-i g l = record {
  held : WhereTold (Gains (decimal l.clock ++ word_texts (take l.i l.outputs) (take l.i l.values)))
      (g.O.Sink.held l.fn.out) (g.O.Sink.held l.out);
  faults : g.O.Sink.faults l.out ≡ g.O.Sink.faults l.fn.out;
}
