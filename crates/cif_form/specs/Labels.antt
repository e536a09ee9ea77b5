-- Labels: user commands `94 name x y` and `94 name x y layer`.
use Rattle.std.specs.Prelude.{ℕ, ◌<◌, ◌≡◌, ◌⊎◌, List, length, All, Option, Some, None, ℤ, pos, ◌*ℤ◌}
use Rattle.lam_geom.specs.declared.layer.Layer.{Layer}
use Rattle.lam_geom.specs.declared.layer.Layer.TheVariants.{ND, NP, NM}
use Rattle.lam_geom.specs.declared.label.FlatLabel.{FlatLabel}
use Rattle.cif_form.specs.Text.{◌▹◌, Byte, Nothing, SignedDigits}
use Rattle.cif_form.specs.Fits.{IsSmall}
use Rattle.cif_form.specs.Place.{layer_name}

-- a space, a tab, a line feed or a carriage return
abbrev pub IsSpace : ℕ → Type 0
IsSpace b = (b ≡ 32) ⊎ (b ≡ 9) ⊎ (b ≡ 10) ⊎ (b ≡ 13)

abbrev pub Spaces : List ℕ → Type 0
Spaces text = (0 < length text) × All IsSpace text

-- one or more bytes, and none of them a space
abbrev pub Solid : List ℕ → List ℕ → Type 0
Solid name text = (text ≡ name) × (0 < length name) × All (λ b. ¬ IsSpace b) name

-- a number of units, at most 2^31 - 1 in size, for this one of half-units
abbrev pub Coordinate : ℤ → List ℕ → Type 0
Coordinate half text = (z : ℤ) × (half ≡ pos 2 *ℤ z) × IsSmall z × SignedDigits z text

abbrev pub OwnLayer : Option Layer → List ℕ → Type 0
OwnLayer None = Nothing
OwnLayer (Some l) = Spaces ▹ λ text. (text ≡ layer_name l) × ((l ≡ NM) ⊎ (l ≡ NP) ⊎ (l ≡ ND))

-- behind its digit 9 the text of a user command is that of this label
abbrev pub IsLabelText : FlatLabel → List ℕ → Type 0
IsLabelText label = Byte 52 ▹ Spaces ▹ Solid label.name ▹ Spaces ▹ Coordinate label.x ▹ Spaces ▹ Coordinate label.y
    ▹ OwnLayer label.layer ▹ λ text. All IsSpace text

-- no label has this text
abbrev pub IsNoLabel : List ℕ → Type 0
IsNoLabel text = (label : FlatLabel) → ¬ IsLabelText label text
