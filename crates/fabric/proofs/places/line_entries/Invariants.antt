use Rattle.fabric.specs.Places.{line_key}
use Rattle.fabric.proofs.Entries.{AreFirst}
use Rattle.fabric.proofs.places.line_entries.Given as goal

abbrev pub invariant-loop-i : goal.invariant-loop-i
invariant-loop-i l = AreFirst line_key l.lines l.i l.entries
