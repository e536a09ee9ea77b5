-- Nothing is covered, kept or found yet.
use Rattle.region_sweep.proofs.rows.Front.new.Goals as goal

pub returns : goal.returns
returns c = record {
  bare = c.in_ok-tree.ensures.bare;
  row = c.in_ok-tree.ensures.row;
  told = c.in_ok-tree.ensures.told;
  wide = c.in_ok-kept.ensures.cells;
  blank = c.in_ok-kept.ensures.blank;
  as_wide = c.in_ok-strips.ensures.cells;
  swept = c.in_ok-strips.ensures.strips;
}
