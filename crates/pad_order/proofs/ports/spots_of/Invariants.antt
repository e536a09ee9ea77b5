use Rattle.std.proofs.Common.{◌≡◌, get_or, map, take}
use Rattle.pad_order.specs.Entries.{no_spot}
use Rattle.pad_order.proofs.ports.spots_of.Given as goal

abbrev pub invariant-loop-number : goal.invariant-loop-number
invariant-loop-number l = l.told ≡ map (λ place. get_or l.spots place no_spot) (take l.number l.places)
