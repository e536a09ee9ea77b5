-- What a mask draws, as numbers.
use Rattle.std.specs.Prelude.{◌≡◌, ℕ, List, length, Option, Some, MatchOption, slice_get}
use Rattle.piece_classes.specs.Classed.{AreClassed}
use Rattle.piece_classes.specs.declared.classed.Classed.{Classed}
use Rattle.std.specs.List.{AllZip}
use Rattle.lam_geom.specs.declared.layer.Layer.{Layer}
use Rattle.lam_geom.specs.declared.layer.Layer.TheVariants.{NM, NP, ND}
use Rattle.lam_geom.specs.declared.place.Point.{Point}
use Rattle.lam_geom.specs.declared.rect.Rect.{Rect}
use Rattle.lam_geom.specs.Squares.{Square, covered}
use Rattle.switch_net.specs.Conductors.{ConductsOn}
use Rattle.switch_net.specs.Drawn.{AreNodes, AreRegions, IsOfNode, IsChannelAt}
use Rattle.mask_nodes.specs.declared.drawing.Drawing.{Drawing}
use Rattle.mask_pieces.specs.Columns.{square_at}
use Rattle.mask_pieces.specs.Masks.{AreMasks}
use Rattle.mask_pieces.specs.CutOf.{IsCutOf}
use Rattle.mask_pieces.specs.declared.masks.Masks.{Masks}
use Rattle.mask_pieces.specs.declared.cut.Cut.{Cut}

-- the number of the node of the conductor of the layer at a place, or none where nothing conducts there
abbrev pub IsNodeOver : List Rect → List Square → Layer → Point → Option ℕ → Type 0
IsNodeOver shapes nodes l p o =
    MatchOption o (¬ ConductsOn (covered shapes) l p.x p.y) (λ k. IsOfNode (covered shapes) nodes k (square_at l p))

-- the list has that for each of the places
pub record AreNodesOver (shapes : List Rect) (nodes : List Square) (l : Layer) (places : List Point)
    (column : List (Option ℕ)) : Type 0 where
  pub each : (n : ℕ) (p : Point) → slice_get places n ≡ Some p
      → (o : Option ℕ) × (slice_get column n ≡ Some o) × IsNodeOver shapes nodes l p o

-- the count of nodes, the channels, and the nodes at places
pub record IsDrawn (shapes : List Rect) (places : List Point) (d : Drawing) : Type 0 where
  pub nodes : List Square
  pub regions : List Square
  pub are_nodes : AreNodes (covered shapes) nodes
  pub are_regions : AreRegions (covered shapes) regions
  pub count : d.nodes ≡ length nodes
  pub channels : AllZip (IsChannelAt (covered shapes) nodes) regions d.channels
  pub on_metal : AreNodesOver shapes nodes NM places d.metal
  pub on_polysilicon : AreNodesOver shapes nodes NP places d.polysilicon
  pub on_diffusion : AreNodesOver shapes nodes ND places d.diffusion

-- the masks of the rectangles with these places, cut into pieces, and the classes of the pieces
pub record AreClassedMasks (shapes : List Rect) (places : List Point) (m : Masks) (c : Cut) (classes : Classed) :
    Type 0 where
  pub masks : AreMasks shapes places m.contacts m.metal m.polysilicon m.diffusion
  pub cut : IsCutOf m.metal m.polysilicon m.diffusion c
  pub classed : AreClassed shapes c.pieces classes.nodes classes.channels
