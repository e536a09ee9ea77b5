-- The pieces of the masks of conductors, and their numbers.
use Rattle.std.specs.Prelude.{◌≡◌, ◌<◌, length, map, All, AllPairs}
use Rattle.std.specs.Option.{ForSome}
use Rattle.lam_geom.specs.declared.layer.Layer.TheVariants.{NM, NP, ND}
use Rattle.mask_tiles.specs.declared.swept.Swept.{Swept}
use Rattle.mask_tiles.specs.Tiles.{Before}
use Rattle.mask_pieces.specs.declared.cut.Cut.{Cut}
use Rattle.mask_pieces.specs.Pieces.{AreCutUp, AreNumbersOf, over}

-- tiles are in order, and what was found is among them
pub record IsReady (s : Swept) : Type 0 where
  pub ascending : AllPairs Before s.tiles
  pub found : All (λ o. ForSome o (λ n. n < length s.tiles)) s.found

-- these are the pieces, the numbers of the tiles' pieces, and the pieces over the places
pub record IsCutOf (metal polysilicon diffusion : Swept) (c : Cut) : Type 0 where
  pub pieces : AreCutUp metal.tiles polysilicon.tiles diffusion.tiles c.pieces
  pub metal_numbers : AreNumbersOf NM metal.tiles c.pieces c.metal.numbers
  pub polysilicon_numbers : AreNumbersOf NP polysilicon.tiles c.pieces c.polysilicon.numbers
  pub diffusion_numbers : AreNumbersOf ND diffusion.tiles c.pieces c.diffusion.numbers
  pub metal_over : c.metal.over ≡ map (over c.metal.numbers c.pieces) metal.found
  pub polysilicon_over : c.polysilicon.over ≡ map (over c.polysilicon.numbers c.pieces) polysilicon.found
  pub diffusion_over : c.diffusion.over ≡ map (over c.diffusion.numbers c.pieces) diffusion.found
