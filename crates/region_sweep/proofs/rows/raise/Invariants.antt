-- The blocks before `next` are raised.
use Rattle.std.proofs.Common.{ℕ, ◌≡◌, ◌-◌, length}
use Rattle.cover_tree.specs.Trees.{cover_of, told_of, row_of}
use Rattle.region_sweep.specs.Rows.{AreRaised}
use Rattle.region_sweep.proofs.rows.raise.Given as goal

abbrev pub invariant-loop-next : goal.invariant-loop-next
invariant-loop-next l = record {
  mask : (cover_of l.tree).mask ≡ (cover_of l.initial.tree).mask;
  cells : (cover_of l.tree).cells ≡ (cover_of l.initial.tree).cells;
  row : row_of l.tree ≡ row_of l.initial.tree;
  told : (c : ℕ) → told_of l.tree c ≡ told_of l.initial.tree c;
  raised : AreRaised l.blocks l.row l.next (cover_of l.tree);
}

abbrev pub decreases-loop-next : goal.decreases-loop-next
decreases-loop-next l = length l.blocks - l.next
