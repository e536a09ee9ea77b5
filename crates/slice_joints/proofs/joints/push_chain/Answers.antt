use Rattle.std.proofs.Common.{suc, ◌≡◌, [], ◌∷◌, ◌++◌, ◌∙◌, ap, map, arith}
use Rattle.std.specs.List.{range_with_len}
use Rattle.mp_base.proofs.Ranges.{map_grown}
use Rattle.array_form.specs.Lists.{upright}
use Rattle.slice_form.specs.PathWires.{chain_line}
use Rattle.slice_form.specs.Slices.{across_of}
use Rattle.slice_form.specs.Whole.{path_of}
use Rattle.slice_layout.specs.Links.{carry_by}
use Rattle.slice_joints.proofs.Joined.{chain_joined}
use Rattle.slice_joints.proofs.joints.push_chain.Goals as goal

pub loop-gap-preserved : goal.loop-gap-preserved
loop-gap-preserved c =
    let p = path_of c.args.path.now in
    let items = c.loop-gap.lines.items in
    map_grown c.args.lines.now.items (λ g. across_of p (chain_line c.args.i g)) c.loop-gap.gap _ _ c.loop-gap.invariant
    (c.in_ok-push.ensures.items ∙ ap (λ z. items ++ z ∷ [])
    (c.line.ensures
    ∙ (λ j. upright c.home_of-column.result c.side_of.result (c.max.ensures j) (c.min.ensures j))
    ∙ chain_joined p c.args.i (carry_by c.link_at.result) c.link_at.ensures.is c.home_of-column.result
    c.home_of-column.ensures c.loop-gap.gap c.side_of.result c.side_of.ensures))

pub returns : goal.returns
returns c =
    let p = path_of c.args.path.now in
    let end : c.loop-gap.gap ≡ suc p.width = omega arith in
    c.loop-gap.invariant ∙ ap (λ n. c.args.lines.now.items ++ map (λ g. across_of p (chain_line c.args.i g))
    (range_with_len 0 n)) end
