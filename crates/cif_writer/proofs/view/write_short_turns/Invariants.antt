use Rattle.std.proofs.Common.{◌≡◌, drop}
use Rattle.std.specs.Prelude.{map}
use Rattle.cif_form.specs.Writing.{turns_text}
use Rattle.cif_list.specs.Turning.{wide_turn}
use Rattle.cif_writer.proofs.Wrote.{Going}
use Rattle.cif_writer.proofs.view.write_short_turns.Given as goal

-- what was written so far, with no fault
abbrev pub invariant-loop-turn : goal.invariant-loop-turn
invariant-loop-turn g l =
    let sink = g.O.Sink in
    let all = turns_text (map wide_turn l.turns) in
    record {
      going : Going (sink.held l.fn.out) (sink.held l.out) all (turns_text (map wide_turn (drop l.turn-index l.turns)));
      quiet : sink.faults l.out ≡ sink.faults l.fn.out;
    }
