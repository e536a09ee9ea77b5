-- What stands while a path grows.
use Rattle.std.specs.Prelude.{◌≡◌, ◌≤◌, ℕ, List, ◌++◌, Some, None, true, All, length, slice_get}
use Rattle.nor_net.specs.declared.net.Part.{Part}
use Rattle.nor_net.specs.declared.net.Part.TheVariants.{Latch}
use Rattle.nor_net.specs.declared.net.Phase.{Phase}
use Rattle.organelles.specs.declared.slices.Chain.{Chain}
use Rattle.organelles.specs.declared.slices.Programmed.{Programmed}
use Rattle.path_form.specs.declared.path.Cast.{Cast}
use Rattle.path_form.specs.declared.path.Lift.{Lift}
use Rattle.path_form.specs.Shape.{chain_to, is_fed}
use Rattle.datapath_making.specs.declared.making.Making.{Making}

-- all that stood before stands, but a latch that had no data may have been fed; new chains and programs end in new nets
pub record Grows (old new : Making) : Type 0 where
  pub width : new.width ≡ old.width
  pub control : new.control ≡ old.control
  pub names : new.names ≡ old.names
  pub reset : new.reset ≡ old.reset
  pub longer : length old.slices.net ≤ length new.slices.net
  pub parts : (n : ℕ) (q : Part) → slice_get old.slices.net n ≡ Some q → is_fed q ≡ true
      → slice_get new.slices.net n ≡ Some q
  pub chains : (more : List Chain) × (new.slices.chains ≡ old.slices.chains ++ more)
      × All (λ c. length old.slices.net ≤ (chain_to c).0) more
  pub programs : (more : List Programmed) × (new.slices.programs ≡ old.slices.programs ++ more)
      × All (λ (p : Programmed). length old.slices.net ≤ p.net.0) more
  pub casts : (more : List Cast) × (new.casts ≡ old.casts ++ more)
  pub lifts : (more : List Lift) × (new.lifts ≡ old.lifts ++ more)
  pub cell_count : length new.cell_words ≡ length old.cell_words
  pub word_count : length new.words ≡ length old.words
  pub pad_count : length new.pads ≡ length old.pads
  pub guard_count : length new.guards ≡ length old.guards

-- a latch that has no data
abbrev pub IsUnfed : List Part → ℕ → Type 0
IsUnfed net n = (phase : Phase) × (slice_get net n ≡ Some (Latch phase None))

-- parts were added at the end, and no latch without data is among them
abbrev pub Appends : List Part → List Part → Type 0
Appends old new = (more : List Part) × (new ≡ old ++ more) × All (λ q. is_fed q ≡ true) more
