use Rattle.std.proofs.Common.{◌≡◌}
use Rattle.cif_form.specs.Writing.{turns_text}
use Rattle.cif_writer.proofs.Wrote.{Going}
use Rattle.cif_writer.proofs.text.write_turns.Given as goal

-- what was written so far, with no fault
abbrev pub invariant-loop-turn : goal.invariant-loop-turn
invariant-loop-turn g l =
    let sink = g.O.Sink in
    record {
      going : Going (sink.held l.fn.out) (sink.held l.out) (turns_text l.turns) (turns_text l.turn-iterator);
      quiet : sink.faults l.out ≡ sink.faults l.fn.out;
    }
