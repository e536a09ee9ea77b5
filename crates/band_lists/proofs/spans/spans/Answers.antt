use Rattle.std.proofs.Common.{◌≡◌, ◌<◌, ◌∙◌, ℕ, List, length, get_or, ap, arith}
use Rattle.std.proofs.lemmas.List.{length-set, get_or_default}
use Rattle.track_assign.specs.declared.packing.Interval.{Interval}
use Rattle.band_lists.specs.declared.pins.Pin.{Pin}
use Rattle.band_lists.specs.declared.pins.At.TheVariants.{Home}
use Rattle.band_lists.specs.declared.spans.TheConstants.{NOWHERE}
use Rattle.band_lists.specs.Spans.{column_at, widened_by}
use Rattle.band_lists.proofs.SpanSteps.{spans_more}
use Rattle.band_lists.proofs.spans.spans.Goals as goal

pub loop-pin-preserved : goal.loop-pin-preserved
loop-pin-preserved c =
    let pins : List Pin = c.args.pins.now in
    let i : ℕ = c.loop-pin.pin-index in
    let none : Pin = record { segment = 0; at = Home 0 } in
    let spans : List Interval = c.loop-pin.spans.items in
    let v = c.loop-pin.invariant in
    let k : ℕ = (get_or pins i none).segment in
    let columns : List ℕ = c.args.columns.now in
    let inside : k < length spans =
    (let h = c.requires.segments i none c.loop-pin-test.true in omega (arith, h, v.long)) in
    let is : c.widened.result ≡ widened_by (get_or spans k NOWHERE) (column_at columns (get_or pins i none).at) =
    c.widened.ensures
    ∙ (ap (λ s. widened_by s c.column_of.result) (c.index.ensures ∙ get_or_default spans k _ NOWHERE inside)
    ∙ ap (widened_by (get_or spans k NOWHERE)) c.column_of.ensures) in
    record {
      long = length-set spans k c.widened.result ∙ v.long;
      spans = λ j lt. spans_more columns pins i none c.loop-pin-test.true spans NOWHERE c.widened.result inside
          (λ m b. v.spans m (omega (arith, v.long))) is j (omega (arith, v.long));
    }
