use Rattle.std.proofs.Common.{◌≡◌, ◌++◌, take}
use Rattle.mask_nodes.proofs.spots.add_places.Given as goal

abbrev pub invariant-loop-place : goal.invariant-loop-place
invariant-loop-place l = l.spots ≡ l.fn.spots ++ take l.place-index l.places
