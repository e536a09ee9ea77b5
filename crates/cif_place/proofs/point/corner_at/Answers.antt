use Rattle.std.proofs.Common.{◌∙◌, subst}
use Rattle.lam_geom.specs.declared.layer.Layer.TheVariants.{ND}
use Rattle.cif_form.specs.Place.{IsScaled, dot}
use Rattle.cif_place.specs.Placing.{scale_of, place_of}
use Rattle.cif_place.proofs.Numbers.{kept_64, kept_128}
use Rattle.cif_place.proofs.Points.{near_ends, within_kept, far_dot, corner_of}
use Rattle.cif_place.proofs.point.corner_at.Goals as goal

pub returns-then-not-are_near-clause-none : goal.returns-then-not-are_near-clause-none
returns-then-not-are_near-clause-none c =
    let s = scale_of c.args.ratio in
    let a = c.in-Some.across in
    let b = c.in-Some-scaled.up in
    let across = subst (λ z. IsScaled s z a) (kept_64 c.args.x c.requires.x) c.in-Some.ensures.whole in
    let up = subst (λ z. IsScaled s z b) (kept_64 c.args.y c.requires.y) c.in-Some-scaled.ensures.whole in
    let x = kept_128 a c.in-Some.ensures.small in
    let y = kept_128 b c.in-Some-scaled.ensures.small in
    let placed = c.dot_at-dot.ensures ∙ (λ i. place_of c.args.placement (dot (x i) (y i))) in
    far_dot s c.args.placement c.args.x c.args.y a b c.dot_at-dot.result across up placed
    (c.if-not-are_near.ensures.far ND)

pub rect-rect-requires : goal.rect-rect-requires
rect-rect-requires c = c.if-not-are_near.ensures.near ND

pub backed_if-requires : goal.backed_if-requires
backed_if-requires c =
    within_kept c.rect-rect.result.x0
    (near_ends c.dot_at-dot.result c.rect-rect.result c.rect-rect.ensures (c.if-not-are_near.ensures.near ND)).0

pub backed_if-requires-2 : goal.backed_if-requires-2
backed_if-requires-2 c =
    within_kept c.rect-rect.result.y0
    (near_ends c.dot_at-dot.result c.rect-rect.result c.rect-rect.ensures (c.if-not-are_near.ensures.near ND)).1

pub returns-clause-some : goal.returns-clause-some
returns-clause-some c =
    let s = scale_of c.args.ratio in
    let a = c.in-Some.across in
    let b = c.in-Some-scaled.up in
    let across = subst (λ z. IsScaled s z a) (kept_64 c.args.x c.requires.x) c.in-Some.ensures.whole in
    let up = subst (λ z. IsScaled s z b) (kept_64 c.args.y c.requires.y) c.in-Some-scaled.ensures.whole in
    let x = kept_128 a c.in-Some.ensures.small in
    let y = kept_128 b c.in-Some-scaled.ensures.small in
    let placed = c.dot_at-dot.ensures ∙ (λ i. place_of c.args.placement (dot (x i) (y i))) in
    corner_of s c.args.placement c.args.x c.args.y a b c.dot_at-dot.result across up placed
    (c.if-not-are_near.ensures.near ND) c.rect-rect.result c.rect-rect.ensures c.backed_if.result c.backed_if-2.result
    c.backed_if.ensures c.backed_if-2.ensures
