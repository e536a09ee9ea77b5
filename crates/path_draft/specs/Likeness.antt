-- Paths that are no larger than another.
use Rattle.std.specs.Prelude.{◌≡◌, ◌≤◌, List, length, sum_by}
use Rattle.nor_net.specs.declared.net.Part.{Part}
use Rattle.nor_net.specs.Shape.{gate_inputs}
use Rattle.organelles.specs.declared.slices.SliceNet.{SliceNet}
use Rattle.path_form.specs.declared.path.Cast.{Cast}
use Rattle.path_form.specs.declared.path.DataPath.{DataPath}
use Rattle.path_form.specs.declared.path.Lift.{Lift}
use Rattle.path_form.specs.Sizes.{active}

-- no more of anything
pub record NetIsNoLarger (old new : List Part) : Type 0 where
  pub nets : length new ≤ length old
  pub inputs : gate_inputs new ≤ gate_inputs old
  pub active : sum_by active new ≤ sum_by active old

pub record IsNoLarger (p : DataPath) (net : List Part) (s : SliceNet) (cs : List Cast) (ls : List Lift)
    : Type 0 where
  pub control : NetIsNoLarger p.control net
  pub slices : NetIsNoLarger p.slices.net s.net
  pub chains : length s.chains ≤ length p.slices.chains
  pub programs : length s.programs ≤ length p.slices.programs
  pub casts : length cs ≤ length p.casts
  pub lifts : length ls ≤ length p.lifts

-- the same pads and word length, and no more of anything
pub record IsLike (p q : DataPath) : Type 0 where
  pub width : q.width ≡ p.width
  pub pads : q.pads ≡ p.pads
  pub no_larger : IsNoLarger p q.control q.slices q.casts q.lifts
