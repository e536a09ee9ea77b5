use Rattle.std.specs.BTreeMap.{get}
use Rattle.std.specs.Ordering.{nat_cmp}
use Rattle.extractor.specs.Driving.{AreFirst}
use Rattle.extractor.proofs.drivers.first_meeting.Given as goal

abbrev pub invariant-loop-place : goal.invariant-loop-place
invariant-loop-place l = AreFirst (get nat_cmp l.first_on) l.tags l.place
