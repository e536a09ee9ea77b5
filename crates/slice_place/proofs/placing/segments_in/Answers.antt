use Rattle.std.proofs.Common.{ℕ, List, ◌∙◌, ◌+◌, ◌++◌, ◌<◌, ◌^◌, ap, length, take, sym, subst, arith}
use Rattle.std.specs.Prelude.{All, slice_index}
use Rattle.track_assign.specs.declared.packing.Interval.{Interval}
use Rattle.std.proofs.lemmas.List.FromFn.{take-map-range_with_len}
use Rattle.array_form.specs.Laying.{band_segment}
use Rattle.slice_form.specs.Slices.{slice_columns}
use Rattle.slice_form.specs.Whole.{path_of}
use Rattle.slice_laying.specs.Added.{slice_cols}
use Rattle.band_lists.specs.Listed.{segments_of}
use Rattle.band_lists.proofs.Banded.{intervals_long, segments_same}
use Rattle.slice_place.proofs.placing.segments_in.Goals as goal

pub push_segments-requires-clause-long : goal.push_segments-requires-clause-long
push_segments-requires-clause-long c =
    let p = path_of c.args.path.now in
    let are = c.requires in
    ap (λ (l : List ℕ). length l) c.as_slice-rows.ensures
    ∙ (are.tracks.rows.long
    ∙ sym (ap (λ (l : List Interval). length l) (c.deref.ensures.value ∙ are.spans)
    ∙ intervals_long (slice_columns p) p.slice))

pub push_segments-requires-clause-rows : goal.push_segments-requires-clause-rows
push_segments-requires-clause-rows c =
    let are = c.requires.tracks.rows in
    subst (All (λ (r : ℕ). r + 1 < 2 ^ 32)) (sym c.as_slice-rows.ensures)
    (λ k d lt. let b = are.below k d lt in let f = are.few in omega (arith, b, f))

pub returns : goal.returns
returns c =
    let p = path_of c.args.path.now in
    let layout = c.args.layout.now in
    let b : ℕ = c.args.band in
    let nets : ℕ = length p.slice in
    let all = c.in_ok-push_segments.ensures
    ∙ (ap (λ l. l ++ segments_of b c.deref.result.now c.as_slice-rows.result.now) c.new-segments.ensures.items
    ∙ (ap (λ s. segments_of b s c.as_slice-rows.result.now) (c.deref.ensures.value ∙ c.requires.spans)
    ∙ (ap (segments_of b _) c.as_slice-rows.ensures
    ∙ segments_same (slice_columns p) p.slice b layout.tracks.row))) in
    c.first_of.ensures
    ∙ (ap (λ n. take n c.push_segments.new.segments.items) c.len-nets.ensures.len
    ∙ (ap (take nets) all
    ∙ take-map-range_with_len (band_segment b (slice_cols p) (slice_index layout.tracks.row)) 0 (nets + 3) nets
    (omega arith)))
