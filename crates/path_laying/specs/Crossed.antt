-- Crossings under the trunk of ground, in the rows of segments.
use Rattle.std.specs.Prelude.{ℕ, suc, List, map}
use Rattle.tile_cells.specs.declared.tile.Tile.TheVariants.{Under}
use Rattle.fabric.specs.declared.thing.Mark.{Mark}
use Rattle.nor_net.specs.declared.net.NetId.{NetId}
use Rattle.array_form.specs.Lists.{mark}

abbrev pub crossing : (ℕ → ℕ) → ℕ → ℕ → Mark
crossing row band k = mark Under band (suc (row k)) 0

abbrev pub crossings : (ℕ → ℕ) → ℕ → List NetId → List Mark
crossings row band nets = map (λ i. crossing row band i.0) nets
