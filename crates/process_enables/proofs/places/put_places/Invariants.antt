use Rattle.std.proofs.Common.{◌≡◌, ◌∷◌}
use Rattle.process_enables.proofs.Placing.{CellsBelow}
use Rattle.process_enables.proofs.places.put_places.Given as goal

abbrev pub invariant-loop-place : goal.invariant-loop-place
invariant-loop-place l =
    CellsBelow l.program l.layout.roles l.layout.cells l.process l.place l.fn.exprs l.exprs l.others
    × (l.places ≡ 0 ∷ l.others)
