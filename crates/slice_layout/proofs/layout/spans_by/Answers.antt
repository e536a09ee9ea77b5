use Rattle.std.proofs.Common.{◌+◌, ◌<◌, ◌∙◌, length, sym, ap, subst, arith}
use Rattle.std.specs.Prelude.{All}
use Rattle.std.proofs.lemmas.List.FromFn.{fill_by_all}
use Rattle.array_form.specs.Place.{cols_in, interval_of}
use Rattle.slice_form.specs.Slices.{slice_columns}
use Rattle.slice_form.specs.Whole.{path_of}
use Rattle.band_lists.specs.declared.pins.Pin.{Pin}
use Rattle.band_lists.specs.Spans.{IsPin, columns_at, span_of}
use Rattle.slice_layout.proofs.Ends.{has_ends}
use Rattle.slice_layout.proofs.SliceSpans.{pins_on, pins_in, span_is}
use Rattle.slice_layout.proofs.SliceLayout as layout
use Rattle.slice_layout.proofs.layout.spans_by.Goals as goal

pub spans-requires-clause-pins : goal.spans-requires-clause-pins
spans-requires-clause-pins c =
    let p = c.args.path.now in
    let stubs = c.args.stubs.now in
    let columns = c.args.homes.now.columns.items in
    subst (λ l. All (IsPin l) c.args.pins.now) (sym c.deref.ensures.value)
    (subst (All (IsPin columns)) (sym c.requires.pins)
    (pins_in (path_of p) (has_ends p) c.len-nets.ensures.shape stubs (layout.stubs_at p stubs c.requires.stubs)
    (layout.stubs_long p stubs c.requires.stubs) columns (layout.columns_at p columns c.requires.homes.columns)
    (layout.columns_long p columns c.requires.homes.columns)))

pub spans-requires-clause-segments : goal.spans-requires-clause-segments
spans-requires-clause-segments c =
    let p = c.args.path.now in
    let stubs = c.args.stubs.now in
    subst (λ n. All (λ (q : Pin). q.segment < n + 3) c.args.pins.now) (sym c.len-nets.ensures.len)
    (subst (All (λ (q : Pin). q.segment < length p.slices.net + 3)) (sym c.requires.pins)
    (pins_on (path_of p) (has_ends p) c.len-nets.ensures.shape stubs (layout.stubs_at p stubs c.requires.stubs)
    (layout.stubs_long p stubs c.requires.stubs)))

pub returns : goal.returns
returns c =
    let p = c.args.path.now in
    let q = path_of p in
    let stubs = c.args.stubs.now in
    let columns = c.args.homes.now.columns.items in
    let e = c.in_ok-spans.ensures in
    let n = c.len-nets.ensures.len in
    fill_by_all (λ k. interval_of (cols_in (slice_columns q) p.slices.net k)) c.in_ok-spans.spans.items
    (length p.slices.net + 3) _
    (e.long ∙ ap (λ z. z + 3) n)
    (λ k lt. e.spans k (omega (arith, n))
    ∙ (ap (λ l. span_of (columns_at l c.args.pins.now k)) c.deref.ensures.value
    ∙ (ap (λ l. span_of (columns_at columns l k)) c.requires.pins
    ∙ span_is q (has_ends p) c.len-nets.ensures.shape stubs (layout.stubs_at p stubs c.requires.stubs)
    (layout.stubs_long p stubs c.requires.stubs) columns (layout.columns_at p columns c.requires.homes.columns)
    (layout.columns_long p columns c.requires.homes.columns) k lt)))
