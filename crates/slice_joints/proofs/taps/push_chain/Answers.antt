use Rattle.std.proofs.Common.{ℕ, ◌≡◌, ◌++◌, ◌∙◌, ap, arith}
use Rattle.std.specs.Prelude.{flat_map, slice_index}
use Rattle.std.specs.List.{range_with_len}
use Rattle.mp_base.proofs.Ranges.{flat_grown}
use Rattle.slice_form.specs.Whole.{path_of}
use Rattle.slice_layout.specs.Links.{carry_by}
use Rattle.slice_joints.specs.Tapping.{link_marks}
use Rattle.slice_joints.proofs.Joined.{chain_tapped}
use Rattle.slice_joints.proofs.taps.push_chain.Goals as goal

pub loop-k-preserved : goal.loop-k-preserved
loop-k-preserved c =
    let row : ℕ → ℕ = slice_index c.args.tracks.now.row in
    flat_grown _ (link_marks row (carry_by c.link_at-link.result) c.home_of-column.result) c.loop-k.k _ _
    c.loop-k.invariant c.in_ok-push_link.ensures

pub returns : goal.returns
returns c =
    let p = path_of c.args.path.now in
    let row : ℕ → ℕ = slice_index c.args.tracks.now.row in
    let link = carry_by c.link_at-link.result in
    let end : c.loop-k.k ≡ p.width = omega arith in
    chain_tapped p c.args.i link c.link_at-link.ensures.is row c.home_of-column.result c.home_of-column.ensures
    c.args.marks.now.items c.push_open_end.new.marks.items _ c.in_ok-push_open_end.ensures
    (c.loop-k.invariant ∙ ap (λ n. c.push_open_end.new.marks.items
    ++ flat_map (link_marks row link c.home_of-column.result)
    (range_with_len 0 n)) end)
