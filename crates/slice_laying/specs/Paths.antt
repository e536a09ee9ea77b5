-- What holds of every data path, as its placing takes it.
use Rattle.std.specs.Prelude.{◌≡◌, ◌≢◌, ℕ, Some, Contains, slice_get}
use Rattle.nor_net.specs.Shape.{IsNet}
use Rattle.path_form.specs.declared.path.DataPath.{DataPath}
use Rattle.slice_form.specs.Joints.{AreJoinedOnce}
use Rattle.slice_form.specs.Path.{Path, Carry, Programmed, IsPath}
use Rattle.slice_form.specs.Whole.{path_of}

-- a pad's bit isn't the end of a chain, nor programmed, and a chain ends at another net than it starts at
pub record ArePadsApart (p : Path) : Type 0 where
  pub chains : (i : ℕ) (c : Carry) → slice_get p.chains i ≡ Some c → ¬ Contains p.words c.to
  pub programs : (i : ℕ) (g : Programmed) → slice_get p.programs i ≡ Some g → ¬ Contains p.words g.net
  pub ends : (i : ℕ) (c : Carry) → slice_get p.chains i ≡ Some c → c.to ≢ c.start

-- a path of nets is one that can be placed
pub record IsPlaceable (p : Path) : Type 0 where
  pub path : IsPath p
  pub once : AreJoinedOnce p
  pub apart : ArePadsApart p

abbrev pub PathsArePlaceable : Type 0
PathsArePlaceable = (p : DataPath) → IsNet p.control → IsNet p.slices.net → IsPlaceable (path_of p)
