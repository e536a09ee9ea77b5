use Rattle.std.proofs.Common.{◌≡◌, drop}
use Rattle.cif_form.specs.Writing.{path_text}
use Rattle.cif_writer.proofs.Wrote.{Going}
use Rattle.cif_writer.proofs.text.write_path.Given as goal

-- what was written so far, with no fault
abbrev pub invariant-loop-point : goal.invariant-loop-point
invariant-loop-point g l =
    let sink = g.O.Sink in
    record {
      going : Going (sink.held l.fn.out) (sink.held l.out) (path_text l.points)
          (path_text (drop l.point-index l.points));
      quiet : sink.faults l.out ≡ sink.faults l.fn.out;
    }
