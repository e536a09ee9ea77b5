use Rattle.std.proofs.Common.{ℕ, ◌≡◌, ◌++◌, ◌∙◌, ap, arith}
use Rattle.std.specs.Prelude.{flat_map}
use Rattle.std.specs.List.{range_with_len}
use Rattle.std.proofs.Common.{ℕ, List, ◌++◌, ◌∙◌, ◌+◌, ◌<◌, ◌^◌, length, ap, sym, subst, arith}
use Rattle.std.specs.Prelude.{All, slice_index}
use Rattle.track_assign.specs.declared.packing.Interval.{Interval}
use Rattle.array_form.specs.Laying.{band_segments}
use Rattle.slice_form.specs.Slices.{slice_columns}
use Rattle.slice_form.specs.Whole.{path_of}
use Rattle.slice_laying.specs.Added.{slice_cols}
use Rattle.band_lists.specs.Listed.{segments_of}
use Rattle.band_lists.proofs.Banded.{intervals_long, segments_same}
use Rattle.slice_layout.proofs.Growth.{bands_grown}
use Rattle.slice_place.proofs.nets.push_segments.Goals as goal

pub push_segments-requires-clause-long : goal.push_segments-requires-clause-long
push_segments-requires-clause-long c =
    let p = path_of c.args.path.now in
    let are = c.requires in
    ap (λ (l : List ℕ). length l) c.as_slice-rows.ensures
    ∙ (are.tracks.rows.long
    ∙ sym (ap (λ (l : List Interval). length l) (c.deref.ensures.value ∙ are.spans)
    ∙ intervals_long (slice_columns p) p.slice))

pub push_segments-requires-clause-rows : goal.push_segments-requires-clause-rows
push_segments-requires-clause-rows c =
    let are = c.requires.tracks.rows in
    subst (All (λ (r : ℕ). r + 1 < 2 ^ 32)) (sym c.as_slice-rows.ensures)
    (λ k d lt. let b = are.below k d lt in let f = are.few in omega (arith, b, f))

pub loop-k-preserved : goal.loop-k-preserved
loop-k-preserved c =
    let p = path_of c.args.path.now in
    let layout = c.args.layout.now in
    let k = c.loop-k.k in
    let items = c.loop-k.segments.items in
    bands_grown c.args.segments.now.items
    (λ b. band_segments b (slice_cols p) (slice_index layout.tracks.row) p.slice) k _ _ c.loop-k.invariant
    (c.in_ok-push_segments.ensures
    ∙ ap (λ l. items ++ l)
    (ap (λ s. segments_of (k + 1) s c.as_slice-rows.result.now) (c.deref.ensures.value ∙ c.requires.spans)
    ∙ (ap (segments_of (k + 1) _) c.as_slice-rows.ensures
    ∙ segments_same (slice_columns p) p.slice (k + 1) layout.tracks.row)))

pub returns : goal.returns
returns c =
    let p = path_of c.args.path.now in
    let tracks = c.args.layout.now.tracks in
    let end : c.loop-k.k ≡ p.width = omega arith in
    c.loop-k.invariant
    ∙ ap (λ n. c.args.segments.now.items
    ++ flat_map (λ b. band_segments b (slice_cols p) (slice_index tracks.row) p.slice)
    (range_with_len 1 n)) end
