use Rattle.std.proofs.Common.{◌≡◌, ◌++◌, ◌∙◌, length, ap, arith}
use Rattle.std.specs.Prelude.{flat_map}
use Rattle.std.specs.List.{range_with_len}
use Rattle.std.specs.Prelude.{map}
use Rattle.mp_base.proofs.Ranges.{flat_grown}
use Rattle.slice_form.specs.Whole.{path_of}
use Rattle.slice_form.specs.PathLists.{bands_of}
use Rattle.slice_form.specs.PathWires.{chain_line}
use Rattle.slice_form.specs.Slices.{across_of}
use Rattle.slice_joints.proofs.joints.push_chains.Goals as goal

pub loop-i-preserved : goal.loop-i-preserved
loop-i-preserved c =
    let p = path_of c.args.path.now in
    flat_grown c.args.lines.now.items (λ i. map
    (λ g. across_of p (chain_line i g)) (bands_of p)) c.loop-i.i _ _ c.loop-i.invariant c.in_ok-push_chain.ensures

pub returns : goal.returns
returns c =
    let p = path_of c.args.path.now in
    let end : c.loop-i.i ≡ length p.chains = omega arith in
    c.loop-i.invariant ∙ ap (λ n. c.args.lines.now.items
    ++ flat_map (λ i. map (λ g. across_of p (chain_line i g)) (bands_of p))
    (range_with_len 0 n)) end
