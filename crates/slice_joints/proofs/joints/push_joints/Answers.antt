use Rattle.slice_form.specs.Whole.{path_of}
use Rattle.slice_joints.specs.Joining.{trunk_joints, cast_joints, lift_joints, bit_joints, chain_joints}
use Rattle.slice_layout.proofs.Growth.{five_more}
use Rattle.slice_joints.proofs.joints.push_joints.Goals as goal

pub returns : goal.returns
returns c =
    let p = path_of c.args.path.now in
    five_more c.args.lines.now.items (trunk_joints p) (cast_joints p) (lift_joints p) (bit_joints p) (chain_joints p)
    _ _ _ _ _ c.in_ok-push_trunks.ensures c.in_ok-push_casts.ensures c.in_ok-push_lifts.ensures
    c.in_ok-push_bits.ensures c.in_ok-push_chains.ensures
