use Rattle.std.proofs.Common.{◌≡◌, drop}
use Rattle.std.specs.List.{flat_map}
use Rattle.cif_writer.specs.Texts.{number_text}
use Rattle.cif_writer.proofs.Wrote.{Going}
use Rattle.cif_writer.proofs.text.write_numbers.Given as goal

-- what was written so far, with no fault
abbrev pub invariant-loop-number : goal.invariant-loop-number
invariant-loop-number g l =
    let sink = g.O.Sink in
    record {
      going : Going (sink.held l.fn.out) (sink.held l.out) (flat_map number_text l.numbers)
          (flat_map number_text (drop l.number-index l.numbers));
      quiet : sink.faults l.out ≡ sink.faults l.fn.out;
    }
