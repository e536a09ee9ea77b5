-- No tile so far has such a colour.
use Rattle.std.proofs.Common.{ℕ, ◌<◌, ◌≤◌, get_or}
use Rattle.mask_tiles.specs.declared.tile.Tile.{Tile}
use Rattle.rule_rows.proofs.channels.first_deep.Given as goal

abbrev pub invariant-loop-tile : goal.invariant-loop-tile
invariant-loop-tile l = (k : ℕ) (d : Tile) → k < l.tile-index → (get_or l.tiles k d).colour ≤ 1
