use Rattle.std.proofs.Common.{refl}
use Rattle.datapath_finish.proofs.finishing.path_of.Goals as goal

pub returns : goal.returns
returns c = record {
  width = refl;
  control = refl;
  slices = refl;
  casts = refl;
  lifts = refl;
  pads = refl;
  inputs = refl;
  outputs = refl;
}

pub invariant_of-result : goal.invariant_of-result
invariant_of-result c = record { whole = c.requires }
