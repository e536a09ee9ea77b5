use Rattle.slice_joints.proofs.ControlColumns as proofs
use Rattle.slice_joints.proofs.laws.controls_match.Goals as goal

pub returns : goal.returns
returns c = proofs.controls_match
