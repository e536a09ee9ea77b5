-- What the sweeps of the masks of contacts and conductors find.
use Rattle.std.specs.Prelude.{◌++◌, List, [], map}
use Rattle.lam_geom.specs.declared.layer.Layer.TheVariants.{NM, NP}
use Rattle.lam_geom.specs.declared.place.Point.{Point}
use Rattle.lam_geom.specs.declared.rect.Rect.{Rect}
use Rattle.mask_runs.specs.declared.mask.Mask.TheVariants.{Only, Diffusion, Contacts}
use Rattle.mask_tiles.specs.declared.tile.Tile.{Tile}
use Rattle.mask_tiles.specs.declared.swept.Swept.{Swept}
use Rattle.mask_tiles.specs.Sweeps.{IsSweepOf}
use Rattle.mask_pieces.specs.Columns.{corner_point}

-- the places that are asked for on metal and diffusion: the first squares of contacts, and then these
abbrev pub asked : List Tile → List Point → List Point
asked contacts places = map corner_point contacts ++ places

pub record AreMasks (shapes : List Rect) (places : List Point)
    (contacts metal polysilicon diffusion : Swept) : Type 0 where
  pub contacts_swept : IsSweepOf shapes Contacts [] contacts
  pub metal_swept : IsSweepOf shapes (Only NM) (asked contacts.tiles places) metal
  pub diffusion_swept : IsSweepOf shapes Diffusion (asked contacts.tiles places) diffusion
  pub polysilicon_swept : IsSweepOf shapes (Only NP)
      (asked contacts.tiles places ++ map corner_point diffusion.tiles) polysilicon
