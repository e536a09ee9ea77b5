-- The laws of walks and expansions. Polygons are drawn as any rectangles that fill them, so squares are determined, and
-- rectangles where there is no polygon.
use Rattle.std.specs.Prelude.{◌≡◌, List, [], None, All}
use Rattle.lam_geom.specs.declared.rect.Rect.{Rect}
use Rattle.lam_geom.specs.declared.label.FlatLabel.{FlatLabel}
use Rattle.lam_geom.specs.Squares.{covered, SameSquares}
use Rattle.cif_form.specs.declared.command.Command.{Command}
use Rattle.cif_form.specs.declared.command.Command.TheVariants.{Polygon}
use Rattle.cif_form.specs.declared.command.Item.{Item}
use Rattle.cif_form.specs.Expansion.{Expands}
use Rattle.cif_form.specs.Walk.{WalkEnd, FileWalks}
use Rattle.cif_form.specs.Walk.WalkEnd.{Whole}

abbrev pub IsNoPolygon : Command → Type 0
IsNoPolygon (Polygon path) = ⊥
IsNoPolygon _ = Unit {0}

abbrev pub HaveNoPolygon : List Item → Type 0
HaveNoPolygon items = All (λ i. IsNoPolygon i.command) items

-- the squares that a walk draws, its labels and how it ends are determined: there is one first broken rule, or none
abbrev pub WalkIsUnique : Type 0
WalkIsUnique =
    (items : List Item) (shapes others : List Rect) (labels names : List FlatLabel) (end last : WalkEnd)
    → FileWalks items shapes labels end → FileWalks items others names last
    → SameSquares (covered shapes) (covered others) × (labels ≡ names) × (end ≡ last)

-- and without polygons its rectangles
abbrev pub PlainWalkIsUnique : Type 0
PlainWalkIsUnique =
    (items : List Item) (shapes others : List Rect) (labels names : List FlatLabel) (end last : WalkEnd)
    → HaveNoPolygon items → FileWalks items shapes labels end → FileWalks items others names last → shapes ≡ others

-- the squares that commands draw are determined
abbrev pub ExpansionIsUnique : Type 0
ExpansionIsUnique =
    (items : List Item) (shapes others : List Rect) → Expands [] None items shapes → Expands [] None items others
    → SameSquares (covered shapes) (covered others)

-- and without polygons the rectangles
abbrev pub PlainExpansionIsUnique : Type 0
PlainExpansionIsUnique =
    (items : List Item) (shapes others : List Rect) → HaveNoPolygon items
    → Expands [] None items shapes → Expands [] None items others → shapes ≡ others

-- a walk that breaks no rule draws the expansion of its commands
abbrev pub WalkIsExpansion : Type 0
WalkIsExpansion =
    (items : List Item) (shapes : List Rect) (labels : List FlatLabel) → FileWalks items shapes labels Whole
    → Expands [] None items shapes
