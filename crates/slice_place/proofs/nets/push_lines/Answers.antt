use Rattle.std.proofs.Common.{◌≡◌, ◌++◌, ◌∙◌, ap, arith}
use Rattle.std.specs.Prelude.{flat_map}
use Rattle.std.specs.List.{range_with_len}
use Rattle.std.proofs.Common.{◌++◌, ◌∙◌, ◌+◌, ap, length}
use Rattle.array_form.specs.Laying.{band_lines}
use Rattle.slice_form.specs.Slices.{slice_columns}
use Rattle.slice_form.specs.Whole.{path_of}
use Rattle.band_lists.specs.Listed.{lines_of}
use Rattle.band_lists.proofs.Banded.{lines_same}
use Rattle.slice_layout.proofs.Growth.{bands_grown}
use Rattle.slice_layout.proofs.SliceLayout.{columns_long, stubs_long}
use Rattle.slice_place.proofs.nets.push_lines.Goals as goal

pub push_lines-requires-clause-columns : goal.push_lines-requires-clause-columns
push_lines-requires-clause-columns c =
    ap length c.deref.ensures.value ∙ columns_long c.args.path.now _ c.requires.homes.columns

pub push_lines-requires-clause-stubs : goal.push_lines-requires-clause-stubs
push_lines-requires-clause-stubs c =
    ap length c.deref-in-loop-k.ensures.value ∙ stubs_long c.args.path.now _ c.requires.stubs

pub loop-k-preserved : goal.loop-k-preserved
loop-k-preserved c =
    let p = path_of c.args.path.now in
    let layout = c.args.layout.now in
    let k = c.loop-k.k in
    let items = c.loop-k.lines.items in
    bands_grown c.args.lines.now.items (λ b. band_lines b (slice_columns p) p.slice) k _ _ c.loop-k.invariant
    (c.in_ok-push_lines.ensures
    ∙ ap (λ l. items ++ l)
    (ap (λ l. lines_of (k + 1) l c.deref-in-loop-k.result.now p.slice) c.deref.ensures.value
    ∙ (ap (λ l. lines_of (k + 1) layout.homes.columns.items l p.slice) c.deref-in-loop-k.ensures.value
    ∙ lines_same (slice_columns p) p.slice layout.homes.columns.items layout.stubs.items c.requires.homes.columns
    c.requires.stubs (k + 1))))

pub returns : goal.returns
returns c =
    let p = path_of c.args.path.now in
    let tracks = c.args.layout.now.tracks in
    let end : c.loop-k.k ≡ p.width = omega arith in
    c.loop-k.invariant
    ∙ ap (λ n. c.args.lines.now.items ++ flat_map (λ b. band_lines b (slice_columns p) p.slice)
    (range_with_len 1 n)) end
