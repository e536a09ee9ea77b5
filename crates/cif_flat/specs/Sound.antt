-- Items that a reader gives.
use Rattle.std.specs.Prelude.{◌≡◌, ◌≤ℤ◌, ℤ, pos, List, [], ◌∷◌, All, Bool, false, Some}
use Rattle.cif_form.specs.declared.command.Item.{Item}
use Rattle.cif_form.specs.Fits.{Fits, IsSmall}
use Rattle.cif_form.specs.Scans.{opens}

-- definitions are flat, and each is closed; `inside`: one is open before the items
abbrev pub AreClosed : Bool → List Item → Type 0
AreClosed inside [] = inside ≡ false
AreClosed inside (i ∷ is) = (within : Bool) × (opens inside i.command ≡ Some within) × AreClosed within is

-- each command has a text and small numbers, and definitions are closed
pub record IsWellFormed (items : List Item) : Type 0 where
  pub fit : All (λ i. Fits i.command) items
  pub closed : AreClosed false items

-- neither negative nor large
abbrev pub Unsigned : ℤ → Type 0
Unsigned z = (pos 0 ≤ℤ z) × IsSmall z
