use Rattle.std.proofs.Common.{length, ◌-◌, ◌≡◌, ◌≤◌, take}
use Rattle.outside.specs.Outside.{WhereTold, Gains}
use Rattle.outside.proofs.transfer.write_all.Given as goal

-- the first bytes were taken, with no fault so far
abbrev pub invariant-loop-at : goal.invariant-loop-at
invariant-loop-at g l =
    let sink = g.O.Sink in
    record {
      within : l.at ≤ length l.text;
      taken : WhereTold (Gains (take l.at l.text)) (sink.held l.fn.out) (sink.held l.out);
      quiet : sink.faults l.out ≡ sink.faults l.fn.out;
    }

abbrev pub decreases-loop-at : goal.decreases-loop-at
decreases-loop-at g l = length l.text - l.at
