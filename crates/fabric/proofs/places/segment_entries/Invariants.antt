use Rattle.fabric.specs.Places.{segment_key}
use Rattle.fabric.proofs.Entries.{AreFirst}
use Rattle.fabric.proofs.places.segment_entries.Given as goal

abbrev pub invariant-loop-i : goal.invariant-loop-i
invariant-loop-i l = AreFirst (segment_key l.plan) l.segments l.i l.entries
