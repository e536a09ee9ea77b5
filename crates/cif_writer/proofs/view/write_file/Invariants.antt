use Rattle.std.proofs.Common.{◌≡◌, drop}
use Rattle.cif_writer.specs.Texts.{file_text, commands_of}
use Rattle.cif_writer.proofs.Wrote.{Going}
use Rattle.cif_writer.proofs.view.write_file.Given as goal

-- what was written so far, with no fault
abbrev pub invariant-loop-index : goal.invariant-loop-index
invariant-loop-index g l =
    let sink = g.O.Sink in
    let all = file_text (commands_of l.commands) in
    record {
      going : Going (sink.held l.fn.out) (sink.held l.out) all (file_text (commands_of (drop l.index l.commands)));
      quiet : sink.faults l.out ≡ sink.faults l.fn.out;
    }
