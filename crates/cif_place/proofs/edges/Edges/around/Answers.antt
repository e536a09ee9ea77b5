use Rattle.std.proofs.Common.{refl, sym, subst}
use Rattle.cif_form.specs.Place.{IsScaled}
use Rattle.cif_place.specs.Placing.{scale_of}
use Rattle.cif_place.proofs.Numbers.{less_kept, more_kept, kept_128, scaled_same}
use Rattle.cif_place.proofs.edges.Edges.around.Goals as goal

pub returns-in_err-left-clause-uneven : goal.returns-in_err-left-clause-uneven
returns-in_err-left-clause-uneven c =
    let e = less_kept _ c.args.low.x c.args.extent.across c.twice_less.ensures.small c.requires.low.0
    c.requires.extent.0 c.twice_less.ensures.value in
    rw c.from_residual.ensures
    (λ l r h. c.in_err-left.ensures.uneven r.x0 (subst (λ w. IsScaled (scale_of c.args.ratio) w r.x0) (sym e) h.left))

pub returns-in_err-bottom-clause-uneven : goal.returns-in_err-bottom-clause-uneven
returns-in_err-bottom-clause-uneven c =
    let e = less_kept _ c.args.low.y c.args.extent.up c.twice_less-2.ensures.small c.requires.low.1 c.requires.extent.1
    c.twice_less-2.ensures.value in
    rw c.from_residual-in_err-bottom.ensures
    (λ l r h. c.in_err-bottom.ensures.uneven r.y0
    (subst (λ w. IsScaled (scale_of c.args.ratio) w r.y0) (sym e) h.bottom))

pub returns-in_err-right-clause-uneven : goal.returns-in_err-right-clause-uneven
returns-in_err-right-clause-uneven c =
    let e = more_kept _ c.args.high.x c.args.extent.across c.twice_more.ensures.small c.requires.high.0
    c.requires.extent.0 c.twice_more.ensures.value in
    rw c.from_residual-in_err-right.ensures
    (λ l r h. c.in_err-right.ensures.uneven r.x1 (subst (λ w. IsScaled (scale_of c.args.ratio) w r.x1) (sym e) h.right))

pub returns-in_err-top-clause-uneven : goal.returns-in_err-top-clause-uneven
returns-in_err-top-clause-uneven c =
    let e = more_kept _ c.args.high.y c.args.extent.up c.twice_more-2.ensures.small c.requires.high.1
    c.requires.extent.1 c.twice_more-2.ensures.value in
    rw c.from_residual-in_err-top.ensures
    (λ l r h. c.in_err-top.ensures.uneven r.y1 (subst (λ w. IsScaled (scale_of c.args.ratio) w r.y1) (sym e) h.top))

pub returns-clause-whole : goal.returns-clause-whole
returns-clause-whole c = λ l.
    let e1 =
    less_kept _ c.args.low.x c.args.extent.across c.twice_less.ensures.small c.requires.low.0 c.requires.extent.0
    c.twice_less.ensures.value in
    let e2 =
    less_kept _ c.args.low.y c.args.extent.up c.twice_less-2.ensures.small c.requires.low.1 c.requires.extent.1
    c.twice_less-2.ensures.value in
    let e3 =
    more_kept _ c.args.high.x c.args.extent.across c.twice_more.ensures.small c.requires.high.0 c.requires.extent.0
    c.twice_more.ensures.value in
    let e4 =
    more_kept _ c.args.high.y c.args.extent.up c.twice_more-2.ensures.small c.requires.high.1 c.requires.extent.1
    c.twice_more-2.ensures.value in
    let f1 = kept_128 c.in_ok-left.left c.in_ok-left.ensures.small in
    let f2 = kept_128 c.in_ok-bottom.bottom c.in_ok-bottom.ensures.small in
    let f3 = kept_128 c.in_ok-right.right c.in_ok-right.ensures.small in
    let f4 = kept_128 c.in_ok-top.top c.in_ok-top.ensures.small in
    let s = scale_of c.args.ratio in
    record {
      layer = refl;
      left = scaled_same s _ _ _ _ e1 f1 c.in_ok-left.ensures.whole;
      right = scaled_same s _ _ _ _ e3 f3 c.in_ok-right.ensures.whole;
      bottom = scaled_same s _ _ _ _ e2 f2 c.in_ok-bottom.ensures.whole;
      top = scaled_same s _ _ _ _ e4 f4 c.in_ok-top.ensures.whole;
    }
