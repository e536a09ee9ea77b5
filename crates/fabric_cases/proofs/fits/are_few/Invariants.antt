use Rattle.std.proofs.Common.{◌≡◌, ◌<◌, take}
use Rattle.std.specs.Prelude.{sum}
use Rattle.fabric.specs.Room.{limit}
use Rattle.fabric_cases.proofs.fits.are_few.Given as goal

abbrev pub invariant-loop-row : goal.invariant-loop-row
invariant-loop-row l = (l.total ≡ sum (take l.row-index l.rows)) × (l.total < limit)
