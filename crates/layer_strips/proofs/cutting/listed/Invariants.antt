-- The pairs so far.
use Rattle.std.proofs.Common.{◌≡◌, map, take}
use Rattle.layer_strips.specs.Layers.{pair_of}
use Rattle.layer_strips.proofs.cutting.listed.Given as goal

abbrev pub invariant-loop-a : goal.invariant-loop-a
invariant-loop-a l = l.list ≡ map pair_of (take l.a-index l.pairs)
