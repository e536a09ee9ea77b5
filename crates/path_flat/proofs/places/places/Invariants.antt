use Rattle.std.proofs.Common.{◌≡◌, ◌<◌, ◌++◌, ◌+◌, ◌-◌, take}
use Rattle.path_flat.specs.Order.{places_from, places_of}
use Rattle.path_flat.proofs.places.places.Given as goal

abbrev pub invariant-loop-piece : goal.invariant-loop-piece
invariant-loop-piece l = l.places ≡ places_of (take l.piece-index l.order)

abbrev pub invariant-loop-net : goal.invariant-loop-net
invariant-loop-net l = record {
  places : l.places ≡ l.initial.places ++ places_from l.piece.band l.piece.first (l.net - l.piece.first);
  empty : l.piece.last + 1 < l.piece.first → l.net ≡ l.piece.first;
}
