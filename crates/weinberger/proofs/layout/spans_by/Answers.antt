use Rattle.std.proofs.Common.{◌+◌, ◌<◌, ◌++◌, ◌∙◌, List, length, sym, ap, subst, arith}
use Rattle.std.specs.Prelude.{All}
use Rattle.std.proofs.lemmas.List.FromFn.{fill_by_all}
use Rattle.nor_net.specs.declared.net.Part.{Part}
use Rattle.array_form.specs.declared.band.Band.{Band}
use Rattle.array_form.specs.Place.{columns_in, cols_in, interval_of}
use Rattle.band_lists.specs.declared.pins.Pin.{Pin}
use Rattle.band_lists.specs.Pins.{stub_pins}
use Rattle.band_lists.specs.Spans.{IsPin, columns_at, span_of}
use Rattle.band_lists.proofs.BandPins.{pins_on, pins_in, span_is}
use Rattle.band_lists.proofs.Banded.{column_is, columns_long}
use Rattle.weinberger.specs.Pins.{band_pins, west_pins}
use Rattle.weinberger.proofs.AllPins.{are_narrow, are_pins}
use Rattle.weinberger.proofs.layout.spans_by.Goals as goal

pub spans-requires-clause-pins : goal.spans-requires-clause-pins
spans-requires-clause-pins c =
    let band : Band = c.args.band.now in
    let parts : List Part = c.args.net.now in
    let y = columns_in band parts in
    let stubs = c.args.stubs.now in
    let columns = c.args.homes.now.columns.items in
    let is_net = c.len.ensures.shape in
    subst (λ l. All (IsPin l) c.args.pins.now) (sym c.deref.ensures.value)
    (subst (All (IsPin columns)) (sym c.requires.pins)
    (pins_in y parts is_net columns (column_is y parts columns stubs c.requires.homes.columns c.requires.stubs)
    (columns_long y parts columns stubs c.requires.homes.columns c.requires.stubs)
    (band_pins band parts ++ stub_pins stubs ++ west_pins (length parts) band.west)
    (are_pins band parts c.requires.band is_net stubs c.requires.stubs columns)))

pub spans-requires-clause-segments : goal.spans-requires-clause-segments
spans-requires-clause-segments c =
    let band : Band = c.args.band.now in
    let parts : List Part = c.args.net.now in
    let y = columns_in band parts in
    let stubs = c.args.stubs.now in
    let columns = c.args.homes.now.columns.items in
    let is_net = c.len.ensures.shape in
    subst (λ n. All (λ (p : Pin). p.segment < n + 3) c.args.pins.now) (sym c.len.ensures.len)
    (subst (All (λ (p : Pin). p.segment < length parts + 3)) (sym c.requires.pins)
    (pins_on y parts is_net columns (column_is y parts columns stubs c.requires.homes.columns c.requires.stubs)
    (columns_long y parts columns stubs c.requires.homes.columns c.requires.stubs)
    (band_pins band parts ++ stub_pins stubs ++ west_pins (length parts) band.west)
    (are_pins band parts c.requires.band is_net stubs c.requires.stubs columns)))

pub returns : goal.returns
returns c =
    let band : Band = c.args.band.now in
    let parts : List Part = c.args.net.now in
    let y = columns_in band parts in
    let stubs = c.args.stubs.now in
    let columns = c.args.homes.now.columns.items in
    let is_net = c.len.ensures.shape in
    let e = c.in_ok-spans.ensures in
    let n = c.len.ensures.len in
    fill_by_all (λ k. interval_of (cols_in y parts k)) c.in_ok-spans.spans.items (length parts + 3) _
    (e.long ∙ ap (λ z. z + 3) n)
    (λ k lt. e.spans k (omega (arith, n))
    ∙ (ap (λ l. span_of (columns_at l c.args.pins.now k)) c.deref.ensures.value
    ∙ (ap (λ l. span_of (columns_at columns l k)) c.requires.pins
    ∙ span_is y parts is_net columns
    (column_is y parts columns stubs c.requires.homes.columns c.requires.stubs)
    (columns_long y parts columns stubs c.requires.homes.columns c.requires.stubs)
    (band_pins band parts ++ stub_pins stubs ++ west_pins (length parts) band.west)
    (are_pins band parts c.requires.band is_net stubs c.requires.stubs columns)
    (are_narrow band parts c.requires.band is_net) k lt)))
