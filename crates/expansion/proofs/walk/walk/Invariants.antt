use Rattle.std.proofs.Common.{◌≡◌, map}
use Rattle.std.specs.List.{flat_map, range_with_len}
use Rattle.mp_written.specs.Pieces.{pieces}
use Rattle.expansion.specs.Walking.{begin, HavePieces, tops_before}
use Rattle.expansion.proofs.walk.walk.Given as goal

abbrev pub invariant-loop-expr : goal.invariant-loop-expr
invariant-loop-expr l = record {
  starts : l.starts ≡ map (begin l.program) (range_with_len 0 l.expr);
  pieces : HavePieces l.program.exprs (flat_map (pieces l.program) (tops_before l.program l.expr)) l.pieces;
}
