use Rattle.std.proofs.Common.{◌≡◌, drop, map, reverse}
use Rattle.mp_written.specs.Laying.{laid}
use Rattle.expansion.specs.Walking.{piece_of}
use Rattle.expansion.proofs.layout.lay.Given as goal

abbrev pub invariant-loop-i : goal.invariant-loop-i
invariant-loop-i l = record {
  exprs : reverse l.backward.items ≡ (laid l.i (drop l.i (map (piece_of l.exprs) l.pieces))).exprs;
  tops : reverse l.stack.items ≡ (laid l.i (drop l.i (map (piece_of l.exprs) l.pieces))).tops;
}
