-- The sizes of what a mask draws.
use Rattle.std.specs.Prelude.{ℕ, List, [], length}
use Rattle.lam_geom.specs.declared.layer.Layer.{Layer}
use Rattle.lam_geom.specs.declared.layer.Layer.TheVariants.{NM, NP, ND}
use Rattle.lam_geom.specs.declared.rect.Rect.{Rect}
use Rattle.mask_pieces.specs.declared.cut.Cut.{Cut}
use Rattle.mask_pieces.specs.declared.masks.Masks.{Masks}
use Rattle.piece_classes.specs.declared.classed.Classed.{Classed}
use Rattle.mask_nodes.specs.Drawn.{AreClassedMasks}
use Rattle.net_sizes.specs.declared.sizes.Sizes.{Sizes}
use Rattle.mask_sizes.specs.declared.sums.Measured.TheVariants.{Channels, Conductors}
use Rattle.mask_sizes.specs.Sums.{AreValues, channel_edge, class_area}

-- a value for each channel, by the classes of channels
abbrev pub OfChannels : Classed → (ℕ → ℕ) → List ℕ → Type 0
OfChannels classes f = AreValues f (length classes.channels.roots)

-- for each node the area of its conductors of a layer
abbrev pub AreNodeAreas : Cut → Classed → Layer → List ℕ → Type 0
AreNodeAreas c classes l =
    AreValues (class_area (Conductors l) c.pieces classes.nodes.numbers) (length classes.nodes.roots)

-- The sizes of channels and nodes, by the pieces into which they are cut. Classes are numbered in the order of their
-- least squares, as the channels and nodes of the network are.
pub record AreSizes (m : Masks) (c : Cut) (classes : Classed) (sizes : Sizes) : Type 0 where
  pub areas : OfChannels classes (class_area Channels c.pieces classes.channels.numbers) sizes.areas
  pub edges : OfChannels classes
      (channel_edge c.diffusion.numbers c.pieces classes.channels.numbers m.diffusion.pairs) sizes.edges
  pub metal : AreNodeAreas c classes NM sizes.metal
  pub polysilicon : AreNodeAreas c classes NP sizes.polysilicon
  pub diffusion : AreNodeAreas c classes ND sizes.diffusion

-- the sizes of what these rectangles draw
pub record IsMeasured (shapes : List Rect) (sizes : Sizes) : Type 0 where
  pub masks : Masks
  pub cut : Cut
  pub classes : Classed
  pub drawn : AreClassedMasks shapes [] masks cut classes
  pub sizes_are : AreSizes masks cut classes sizes
