use Rattle.std.proofs.Common.{[]}
use Rattle.path_labels.proofs.Adding.{all_labels}
use Rattle.path_labels.proofs.labels.corners_of.Goals as goal

pub returns-clause-there : goal.returns-clause-there
returns-clause-there c =
    (all_labels c.args.path.now c.args.fabric.now c.in_ok-corners.corners c.add_pads.new.corners
    c.add_pads-2.new.corners c.in_ok-corners.ensures c.as_slice-inputs.result.now c.as_slice.result.now
    c.as_slice-inputs.ensures c.as_slice.ensures c.in_ok-add_pads.ensures c.as_slice-outputs.result.now
    c.as_slice-2.result.now c.as_slice-outputs.ensures c.as_slice-2.ensures c.in_ok-add_pads-2.ensures).there [] tt

pub returns-clause-high : goal.returns-clause-high
returns-clause-high c =
    (all_labels c.args.path.now c.args.fabric.now c.in_ok-corners.corners c.add_pads.new.corners
    c.add_pads-2.new.corners c.in_ok-corners.ensures c.as_slice-inputs.result.now c.as_slice.result.now
    c.as_slice-inputs.ensures c.as_slice.ensures c.in_ok-add_pads.ensures c.as_slice-outputs.result.now
    c.as_slice-2.result.now c.as_slice-outputs.ensures c.as_slice-2.ensures c.in_ok-add_pads-2.ensures).high
