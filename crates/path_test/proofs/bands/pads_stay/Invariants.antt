use Rattle.std.proofs.Common.{◌<◌, ℕ}
use Rattle.path_test.specs.Testing.{PadStays}
use Rattle.path_test.proofs.bands.pads_stay.Given as goal

abbrev pub invariant-loop-index : goal.invariant-loop-index
invariant-loop-index l = (k : ℕ) → k < l.index → PadStays l.images l.pads l.ids l.others k
