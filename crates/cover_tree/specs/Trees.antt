-- What a tree covers, and what it told last.
use Rattle.std.specs.Prelude.{ℕ, nat_lt, if◌then◌else◌}
use Rattle.cover_tree.specs.declared.tree.CoverTree.{CoverTree}
use Rattle.mask_runs.specs.Colours.{bare, colour_of}
use Rattle.cover_tree.specs.Covers.{Cover}
use Rattle.cover_tree.specs.Layered.{cover}
use Rattle.cover_tree.specs.Looking.{told}
use Rattle.cover_tree.specs.Parts.{root}

-- up to which row the layers cover the cells
unfoldable pub cover_of : CoverTree → Cover
cover_of t = cover t.mask t.cells t.trees

-- the row told last
unfoldable pub row_of : CoverTree → ℕ
row_of t = t.trees.since

-- the colours of its cells
unfoldable pub told_of : CoverTree → ℕ → ℕ
told_of t c = if nat_lt c t.cells then colour_of t.mask (told t.trees (root t.cells) bare c) else 0
