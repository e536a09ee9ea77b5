-- The runs before `left` are in the list, and the cells from there up to `right` have the colour in hand.
use Rattle.std.proofs.Common.{◌≡◌, ◌⊎◌, ◌-◌, ◌<◌, ◌≤◌, true}
use Rattle.cell_set.specs.Sets.{has}
use Rattle.mask_runs.specs.Runs.{AreRuns}
use Rattle.kept_runs.specs.Borders.{windowed, IsBorderAfter}
use Rattle.kept_runs.specs.Kept.{colours_of, width_of}
use Rattle.kept_runs.proofs.runs.KeptRuns.collect.Given as goal

abbrev pub invariant-loop-right : goal.invariant-loop-right
invariant-loop-right l = record {
  order : l.from ≤ l.left;
  within : l.left < l.to;
  border : (l.left ≡ l.from) ⊎ (has l.self.borders l.left ≡ true);
  after : IsBorderAfter l.self.borders (width_of l.self) l.left l.right;
  colour : l.colour ≡ colours_of l.self l.left;
  runs : AreRuns (windowed l.from l.left (colours_of l.self)) l.runs.items;
}

abbrev pub decreases-loop-right : goal.decreases-loop-right
decreases-loop-right l = l.to - l.left
