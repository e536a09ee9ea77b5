use Rattle.std.proofs.Common.{◌≤◌}
use Rattle.cif_reader.proofs.Runs.{CommentSoFar}
use Rattle.cif_reader.proofs.words.comment_end.Given as goal

abbrev pub invariant-loop-end : goal.invariant-loop-end
invariant-loop-end l = record {
  shallow : l.depth ≤ l.end;
  so_far : CommentSoFar l.bytes l.fn.at l.end l.depth;
}
