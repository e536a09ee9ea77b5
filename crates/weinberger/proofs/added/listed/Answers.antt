use Rattle.std.proofs.Common.{◌∙◌, ◌++◌, ℕ, List, length, sym, ap}
use Rattle.track_assign.specs.declared.packing.Interval.{Interval}
use Rattle.array_form.specs.Place.{columns_in}
use Rattle.band_lists.specs.Listed.{segments_of, lines_of, marks_of}
use Rattle.band_lists.proofs.Banded.{intervals_long, columns_long, stubs_long, segments_same, lines_same, marks_same}
use Rattle.weinberger.proofs.added.listed.Goals as goal

pub push_segments-requires-clause-long : goal.push_segments-requires-clause-long
push_segments-requires-clause-long c =
    let are = c.requires.layout in
    ap (λ (l : List ℕ). length l) c.as_slice-rows.ensures
    ∙ (are.tracks.rows.long
    ∙ sym (ap (λ (l : List Interval). length l) (c.as_slice-spans.ensures.value ∙ are.spans)
    ∙ intervals_long (columns_in c.args.band.now c.args.net.now) c.args.net.now))

pub push_lines-requires-clause-columns : goal.push_lines-requires-clause-columns
push_lines-requires-clause-columns c =
    let l = c.requires.layout in
    ap length c.as_slice-columns.ensures.value
    ∙ columns_long (columns_in c.args.band.now c.args.net.now) c.args.net.now _ _ l.homes.columns l.stubs

pub push_lines-requires-clause-stubs : goal.push_lines-requires-clause-stubs
push_lines-requires-clause-stubs c =
    let l = c.requires.layout in
    ap length c.as_slice-stubs.ensures.value
    ∙ stubs_long (columns_in c.args.band.now c.args.net.now) c.args.net.now _ _ l.homes.columns l.stubs

pub push_marks-requires-clause-columns : goal.push_marks-requires-clause-columns
push_marks-requires-clause-columns c =
    let l = c.requires.layout in
    ap length c.as_slice-columns.ensures.value
    ∙ columns_long (columns_in c.args.band.now c.args.net.now) c.args.net.now _ _ l.homes.columns l.stubs

pub push_marks-requires-clause-stubs : goal.push_marks-requires-clause-stubs
push_marks-requires-clause-stubs c =
    let l = c.requires.layout in
    ap length c.as_slice-stubs.ensures.value
    ∙ stubs_long (columns_in c.args.band.now c.args.net.now) c.args.net.now _ _ l.homes.columns l.stubs

pub returns : goal.returns
returns c =
    let band = c.args.band.now in
    let parts = c.args.net.now in
    let y = columns_in band parts in
    let layout = c.args.layout.now in
    let columns = layout.homes.columns.items in
    let stubs = layout.stubs.items in
    let are = c.requires.layout in
    record {
      segments = c.in_ok-push_segments.ensures
          ∙ (ap (λ l. l ++ segments_of band.index c.as_slice-spans.result.now c.as_slice-rows.result.now)
          c.new-segments.ensures.items
          ∙ (ap (λ l. segments_of band.index l c.as_slice-rows.result.now)
          (c.as_slice-spans.ensures.value ∙ are.spans)
          ∙ (ap (segments_of band.index _) c.as_slice-rows.ensures
          ∙ segments_same y parts band.index layout.tracks.row)));
      lines = c.in_ok-push_lines.ensures
          ∙ (ap (λ l. l ++ lines_of band.index c.as_slice-columns.result.now c.as_slice-stubs.result.now parts)
          c.new-lines.ensures.items
          ∙ (ap (λ l. lines_of band.index l c.as_slice-stubs.result.now parts) c.as_slice-columns.ensures.value
          ∙ (ap (λ l. lines_of band.index columns l parts) c.as_slice-stubs.ensures.value
          ∙ lines_same y parts columns stubs are.homes.columns are.stubs band.index)));
      marks = c.in_ok-push_marks.ensures
          ∙ (ap (λ l. l ++ marks_of layout.tracks band.index c.as_slice-columns.result.now
          c.as_slice-stubs.result.now parts) c.new-marks.ensures.items
          ∙ (ap (λ l. marks_of layout.tracks band.index l c.as_slice-stubs.result.now parts)
          c.as_slice-columns.ensures.value
          ∙ (ap (λ l. marks_of layout.tracks band.index columns l parts) c.as_slice-stubs.ensures.value
          ∙ marks_same y parts columns stubs are.homes.columns are.stubs band.index layout.tracks)));
    }
