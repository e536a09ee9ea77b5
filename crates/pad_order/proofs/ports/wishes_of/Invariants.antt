use Rattle.std.proofs.Common.{◌≡◌, map, take}
use Rattle.pad_order.specs.Entries.{wish_at}
use Rattle.pad_order.proofs.ports.wishes_of.Given as goal

abbrev pub invariant-loop-place : goal.invariant-loop-place
invariant-loop-place l = l.wishes ≡ map (wish_at l.ports) (take l.place l.entries)
