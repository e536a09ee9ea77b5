-- Slice nets that were added to.
use Rattle.std.specs.Prelude.{◌≡◌, ◌≤◌, ℕ, List, ◌++◌, Some, Bool, true, false, All, length, slice_get}
use Rattle.mp_base.specs.declared.value.Trit.{Trit}
use Rattle.nor_net.specs.declared.net.Part.{Part}
use Rattle.nor_net.specs.declared.net.Part.TheVariants.{Latch}
use Rattle.nor_net.specs.Elements.{Spot}
use Rattle.nor_net.specs.Machine.{Solves}
use Rattle.organelles.specs.declared.slices.Chain.{Chain}
use Rattle.organelles.specs.declared.slices.Programmed.{Programmed}
use Rattle.organelles.specs.declared.slices.SliceNet.{SliceNet}
use Rattle.organelles.specs.Slices.{ObeysFrom}
use Rattle.path_form.specs.declared.path.DataPath.{DataPath}
use Rattle.path_form.specs.Shape.{chain_to}
use Rattle.path_form.specs.Showing.{path_nets}

abbrev pub is_latch : Part → Bool
is_latch (Latch phase source) = true
is_latch _ = false

-- all that stood before stands, but latches may have been fed; new chains and programs end in new nets
pub record Extends (s t : SliceNet) : Type 0 where
  pub parts : (n : ℕ) (q : Part) → slice_get s.net n ≡ Some q → is_latch q ≡ false → slice_get t.net n ≡ Some q
  pub chains : (more : List Chain) × (t.chains ≡ s.chains ++ more) × All (λ c. length s.net ≤ (chain_to c).0) more
  pub programs : (more : List Programmed) × (t.programs ≡ s.programs ++ more)
      × All (λ (p : Programmed). length s.net ≤ p.net.0) more

-- values that a path has are values of any slice net that grew into its own
abbrev pub SlicesObey : Type 0
SlicesObey = (p : DataPath) (s : SliceNet) → Extends s p.slices → (v : Spot → Trit) → Solves (path_nets p) v
    → ObeysFrom p.width s 0 v
