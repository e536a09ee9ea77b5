-- The colours of squares on masks that layers make.
use Rattle.std.specs.Prelude.{◌≡◌, ◌↔◌, ◌&&◌, ◌||◌, not, ℕ, ℤ, List, Bool, true, false, if◌then◌else◌}
use Rattle.lam_geom.specs.declared.layer.Layer.{Layer}
use Rattle.lam_geom.specs.declared.layer.Layer.TheVariants.{ND, NP, NC, NM, NI, NB, NG}
use Rattle.lam_geom.specs.declared.rect.Rect.{Rect}
use Rattle.lam_geom.specs.Squares.{covered}
use Rattle.mask_runs.specs.declared.mask.Layers.{Layers}
use Rattle.mask_runs.specs.declared.mask.Mask.{Mask}
use Rattle.mask_runs.specs.declared.mask.Mask.TheVariants.{Only, Diffusion, Contacts}

-- no layer
abbrev pub bare : Layers
bare = record { nd = false; np = false; nc = false; nm = false; ni = false; nb = false; ng = false }

-- whether the layer is one of these
abbrev pub has : Layers → Layer → Bool
has s ND = s.nd
has s NP = s.np
has s NC = s.nc
has s NM = s.nm
has s NI = s.ni
has s NB = s.nb
has s NG = s.ng

-- these and the layer
abbrev pub with : Layers → Layer → Layers
with s ND = record s { nd = true }
with s NP = record s { np = true }
with s NC = record s { nc = true }
with s NM = record s { nm = true }
with s NI = record s { ni = true }
with s NB = record s { nb = true }
with s NG = record s { ng = true }

-- polysilicon over diffusion, and no buried contact
abbrev pub is_channel : Layers → Bool
is_channel s = s.nd && s.np && not s.nb

-- 1 without implant, and 2 with it, more than that
abbrev pub implanted : Layers → ℕ
implanted s = if s.ni then 3 else 2

-- the sum of the conductors that a contact joins: metal 1, polysilicon 2, diffusion 4
abbrev pub joined : Layers → Bool → ℕ
joined s diffusion =
    if s.nc && s.nm && s.np && diffusion then 7
    else if s.nc && s.nm && s.np then 3
    else if s.nc && s.nm && diffusion then 5
    else if (s.nc || s.nb) && s.np && diffusion then 6
    else 0

-- the colour of a square with these layers
abbrev pub colour_of : Mask → Layers → ℕ
colour_of (Only l) s = if has s l then 1 else 0
colour_of Diffusion s = if is_channel s then implanted s else if s.nd then 1 else 0
colour_of Contacts s = joined s (s.nd && not (is_channel s))

-- whether the layer has any part in the mask
abbrev pub uses : Mask → Layer → Bool
uses (Only ND) ND = true
uses (Only NP) NP = true
uses (Only NC) NC = true
uses (Only NM) NM = true
uses (Only NI) NI = true
uses (Only NB) NB = true
uses (Only NG) NG = true
uses (Only _) _ = false
uses Diffusion ND = true
uses Diffusion NP = true
uses Diffusion NB = true
uses Diffusion NI = true
uses Diffusion _ = false
uses Contacts NI = false
uses Contacts NG = false
uses Contacts _ = true

-- whether the layer is one of those of which each square with a colour has one
abbrev pub needs : Mask → Layer → Bool
needs (Only own) l = uses (Only own) l
needs Diffusion ND = true
needs Diffusion _ = false
needs Contacts NC = true
needs Contacts NB = true
needs Contacts _ = false

-- these are the layers that cover the square
pub record Sees (shapes : List Rect) (x y : ℤ) (layers : Layers) : Type 0 where
  pub each : (l : Layer) → (has layers l ≡ true) ↔ covered shapes l x y

-- the square has this colour on the mask
pub record HasColour (shapes : List Rect) (mask : Mask) (colour : ℕ) (x y : ℤ) : Type 0 where
  pub layers : Layers
  pub sees : Sees shapes x y layers
  pub same : colour_of mask layers ≡ colour
