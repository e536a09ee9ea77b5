use Rattle.std.proofs.Common.{arith, get_or, subst, sym}
use Rattle.slice_symbols.specs.declared.standing.Standing.{Standing}
use Rattle.slice_symbols.specs.Heights.{StandsIn}
use Rattle.slice_symbols.proofs.Banded.{stood_in_first}
use Rattle.slice_symbols.proofs.Lifting.{no_rect, stood_again}
use Rattle.slice_symbols.proofs.Stood.{all_stood, one_stood, rest_stood}
use Rattle.slice_symbols.proofs.standing.stand.Goals as goal

pub loop-rect-preserved-in_default : goal.loop-rect-preserved-in_default
loop-rect-preserved-in_default c =
    rest_stood c.args.rects.now c.args.bands c.loop-rect.rect-index c.loop-rect.standing c.loop-rect.rest no_rect
    c.loop-rect-test.true c.loop-rect.invariant c.push.new.self c.in_ok-push.ensures.ok c.in_default.ensures

pub loop-rect-preserved : goal.loop-rect-preserved
loop-rect-preserved c =
    let rects = c.args.rects.now in
    let bands = c.args.bands in
    let i = c.loop-rect.rect-index in
    let band = c.in-Some.band in
    let s : Standing = record { first = c.lowered-first.result; band = band } in
    let fits = c.lowered-first.ensures in
    let same = stood_again bands band c.height_of.result (get_or rects i no_rect) c.lowered-first.result
    c.height_of.ensures.near c.height_of.ensures.value fits.back in
    one_stood rects bands i c.loop-rect.standing c.loop-rect.rest no_rect c.loop-rect-test.true
    c.loop-rect.invariant s c.push-in-loop-rect.new.self c.in_ok-push-2.ensures.ok
    (record {
      band = c.in-Some.ensures.0;
      bottom = fits.bottom;
      top = fits.top;
      first = stood_in_first bands c.lowered-first.result band
          (subst (StandsIn bands band) (sym same) c.in-Some.ensures.1);
    }) same

pub returns : goal.returns
returns c =
    all_stood c.args.rects.now c.args.bands c.loop-rect.rect-index c.loop-rect.standing c.loop-rect.rest
    (let t = c.loop-rect-test.false in omega (arith, t)) c.loop-rect.invariant
