use Rattle.std.proofs.Common.{length, ◌-◌, ◌≡◌, ◌≤◌, take}
use Rattle.outside.specs.Outside.{WhereTold, Grows, IsHeld}
use Rattle.outside.proofs.transfer.append_all.Given as goal

-- the first bytes were taken, with no fault so far
abbrev pub invariant-loop-at : goal.invariant-loop-at
invariant-loop-at g l =
    let depot = g.D.Depot in
    record {
      within : l.at ≤ length l.bytes;
      held : IsHeld (depot.held l.depot) l.name;
      taken : WhereTold (Grows l.name (take l.at l.bytes)) (depot.held l.fn.depot) (depot.held l.depot);
      quiet : depot.write_faults l.depot ≡ depot.write_faults l.fn.depot;
      reads : depot.read_faults l.depot ≡ depot.read_faults l.fn.depot;
    }

abbrev pub decreases-loop-at : goal.decreases-loop-at
decreases-loop-at g l = length l.bytes - l.at
