-- The chips that can be written as commands.
use Rattle.std.specs.Prelude.{ℕ, ◌≡◌, ◌≢◌, ◌⊎◌, ◌+◌, ◌*◌, ◌<◌, ◌≤◌, List, ◌∷◌, ◌++◌, length, All, ℤ, pos, ◌*ℤ◌}
use Rattle.std.specs.Prelude.{◌<ℤ◌}
use Rattle.lam_geom.specs.declared.layer.Layer.TheVariants.{NM, NP, ND}
use Rattle.lam_geom.specs.declared.rect.Rect.{Rect}
use Rattle.lam_geom.specs.Extent.{lambda}
use Rattle.lam_geom.specs.Moves.{IsNearRect, far}
use Rattle.cif_form.specs.Fits.{IsSmall}
use Rattle.cif_form.specs.Labels.{IsSpace}
use Rattle.fabric.specs.declared.chip.Chip.{Chip}
use Rattle.fabric.specs.declared.chip.ChipLabel.{ChipLabel}
use Rattle.fabric.specs.Plan.{Plan, bands, IsFabric}
use Rattle.fabric.specs.Shape.{shape, base}
use Rattle.slice_symbols.specs.declared.bands.Bands.{Bands}
use Rattle.slice_symbols.specs.declared.symbols.Symbol.{Symbol}
use Rattle.slice_symbols.specs.Heights.{AreUsable, raised}

-- what a chip draws: its fabric, and the rectangles beside it
abbrev pub chip_rects : Chip → List Rect
chip_rects chip = shape chip.fabric ++ chip.extra

-- a whole number of lambda, at most 2^31 - 1 half-units in size
pub record IsOnLambda (z : ℤ) : Type 0 where
  pub whole : (k : ℤ) × (z ≡ pos lambda *ℤ k)
  pub small : IsSmall z

-- both corners are on whole lambda
pub record IsOnGrid (r : Rect) : Type 0 where
  pub x0 : IsOnLambda r.x0
  pub y0 : IsOnLambda r.y0
  pub x1 : IsOnLambda r.x1
  pub y1 : IsOnLambda r.y1

-- it covers something
pub record IsSolid (r : Rect) : Type 0 where
  pub wide : r.x0 <ℤ r.x1
  pub high : r.y0 <ℤ r.y1

-- a label that stands near enough, on a layer that conducts, and whose name CIF can tell from what follows
pub record IsPlainLabel (l : ChipLabel) : Type 0 where
  pub x : IsSmall l.x
  pub y : IsSmall l.y
  pub layer : (l.layer ≡ NM) ⊎ (l.layer ≡ NP) ⊎ (l.layer ≡ ND)
  pub named : 0 < length l.name
  pub plain : All (λ b. (b ≢ 59) × ¬ IsSpace b) l.name

pub record IsEmittable (rects : List Rect) (labels : List ChipLabel) : Type 0 where
  pub corners : All IsOnGrid rects
  pub names : All IsPlainLabel labels

-- the rectangles and heights of a symbol are on whole lambda, and what it draws is near
pub record IsDrawable (s : Symbol) : Type 0 where
  pub corners : All IsOnGrid s.shapes
  pub heights : All IsOnLambda s.heights
  pub near : All (λ h. All (λ r. IsNearRect (raised h r)) s.shapes) s.heights
  pub few : length s.heights ≤ 64

pub record AreDrawable (symbols : List Symbol) (labels : List ChipLabel) : Type 0 where
  pub each : All IsDrawable symbols
  pub two : length symbols ≤ 2
  pub names : All IsPlainLabel labels

-- there is a band, they are as high as whole lambda, and 64 of them aren't too high
pub record AreBands (b : Bands) : Type 0 where
  pub usable : AreUsable b
  pub some : 1 ≤ b.count
  pub whole : (m : ℕ) × (b.height ≡ lambda * m)
  pub low : b.height < 33_554_432

-- how high a band of so many signal rows is, in half-units
abbrev pub band_height : ℕ → ℕ
band_height rows = lambda * (12 * rows + 36)

-- The bands above the lowest of a fabric with these numbers of rows are two to 64 of one height, and neither they nor
-- the lowest one are too high.
pub record CanShare (rows : List ℕ) (lowest each : ℕ) (upper : List ℕ) : Type 0 where
  pub are : rows ≡ lowest ∷ upper
  pub alike : All (λ other. other ≡ each) upper
  pub several : 2 ≤ length upper
  pub few : length upper ≤ 64
  pub low : lowest < 100_000
  pub lower : each < 5_000

abbrev pub bands_above : ℕ → ℕ → ℕ → Bands
bands_above lowest each many =
    record { low = pos (band_height lowest); height = band_height each; count = many }

-- a band so far up that nothing stands in it
abbrev pub far_band : Bands
far_band = record { low = pos far; height = lambda; count = 1 }

-- the bands that a fabric with these numbers of rows shares its symbols in: those above the lowest, if they can
abbrev pub AreBandsAbove : List ℕ → Bands → Type 0
AreBandsAbove rows b =
    ((lowest each : ℕ) × (upper : List ℕ) × CanShare rows lowest each upper
    × (b ≡ bands_above lowest each (length upper)))
    ⊎ (((lowest each : ℕ) (upper : List ℕ) → ¬ CanShare rows lowest each upper) × (b ≡ far_band))

-- how many lambda are small in half-units
abbrev pub farthest : ℕ
farthest = 4_294_967

-- a fabric that is not too wide and not too high draws on whole lambda
abbrev pub FabricsAreOnGrid : Type 0
FabricsAreOnGrid =
    (f : Plan) → IsFabric f → 20 * f.columns ≤ farthest → base f (bands f) ≤ farthest → All IsOnGrid (shape f)
