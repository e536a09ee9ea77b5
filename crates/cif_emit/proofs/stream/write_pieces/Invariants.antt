use Rattle.std.proofs.Common.{◌≡◌, length}
use Rattle.cif_writer.specs.Texts.{file_text}
use Rattle.cif_emit.specs.Commands.{chip_commands}
use Rattle.cif_emit.specs.Rest.{rest, IsInside}
use Rattle.cif_emit.proofs.Pieces.{IsAhead}
use Rattle.cif_emit.proofs.stream.write_pieces.Given as goal

abbrev pub invariant-loop-command : goal.invariant-loop-command
invariant-loop-command g l =
    let sink = g.O.Sink in
    record {
      ahead : IsAhead (sink.held l.fn.out) (sink.held l.out) (file_text (chip_commands l.symbols l.labels))
          l.waiting.bytes.items (file_text (rest l.cursor l.symbols l.labels));
      quiet : sink.faults l.out ≡ sink.faults l.fn.out;
      inside : IsInside l.cursor l.symbols;
    }

abbrev pub decreases-loop-command : goal.decreases-loop-command
decreases-loop-command g l = length (rest l.cursor l.symbols l.labels)
