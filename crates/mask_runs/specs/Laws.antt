-- What holds of every mask.
use Rattle.std.specs.Prelude.{◌≡◌, ℕ, ℤ, List, true, false}
use Rattle.lam_geom.specs.declared.layer.Layer.{Layer}
use Rattle.lam_geom.specs.declared.rect.Rect.{Rect}
use Rattle.mask_runs.specs.declared.mask.Layers.{Layers}
use Rattle.mask_runs.specs.declared.mask.Mask.{Mask}
use Rattle.mask_runs.specs.Colours.{has, uses, needs, colour_of, HasColour}

-- the colour rests on the layers that the mask uses
abbrev pub ColoursByLayers : Type 0
ColoursByLayers = (mask : Mask) (a b : Layers) → ((l : Layer) → uses mask l ≡ true → has a l ≡ has b l)
    → colour_of mask a ≡ colour_of mask b

-- a square has one colour
abbrev pub OneColour : Type 0
OneColour = (shapes : List Rect) (mask : Mask) (k j : ℕ) (x y : ℤ) → HasColour shapes mask k x y
    → HasColour shapes mask j x y → k ≡ j

-- a square without all layers that the mask needs has no colour
abbrev pub BlankWithoutNeeded : Type 0
BlankWithoutNeeded = (mask : Mask) (s : Layers) → ((l : Layer) → needs mask l ≡ true → has s l ≡ false)
    → colour_of mask s ≡ 0
