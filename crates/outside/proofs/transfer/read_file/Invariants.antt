use Rattle.std.proofs.Common.{◌≡◌, ◌≤◌, ◌+◌, ◌-◌, vec_len, IfSome}
use Rattle.std.specs.FinMap.{get}
use Rattle.outside.specs.Outside.{Keeps}
use Rattle.outside.specs.Transfer.{IsFront}
use Rattle.outside.proofs.transfer.read_file.Given as goal

-- the front of the file was read, with no fault so far
abbrev pub invariant-loop-text : goal.invariant-loop-text
invariant-loop-text g l =
    let depot = g.D.Depot in
    record {
      within : vec_len l.text ≤ l.limit + 1;
      piece : vec_len l.piece ≡ 65536;
      held : Keeps (depot.held l.fn.depot) (depot.held l.depot);
      front : IfSome (depot.held l.depot) (λ files. IsFront (get files l.name) l.text.items);
      quiet : depot.read_faults l.depot ≡ depot.read_faults l.fn.depot;
      writes : depot.write_faults l.depot ≡ depot.write_faults l.fn.depot;
    }

abbrev pub decreases-loop-text : goal.decreases-loop-text
decreases-loop-text g l = l.limit + 1 - vec_len l.text
