use Rattle.std.proofs.Common.{List, Bool, drop}
use Rattle.cif_form.specs.declared.command.Item.{Item}
use Rattle.cif_form.specs.Scans.{TextEnd, Scans}
use Rattle.cif_reader.proofs.read.skip.Given as goal

abbrev pub invariant-loop-end : goal.invariant-loop-end
invariant-loop-end l = (inside : Bool) (items : List Item) (e : TextEnd)
    → Scans inside l.end (drop l.end l.bytes) items e
    → Scans inside l.fn.at (drop l.fn.at l.bytes) items e
