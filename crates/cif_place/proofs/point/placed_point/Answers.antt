use Rattle.std.proofs.Common.{refl, ◌∙◌, subst}
use Rattle.std.specs.Prelude.{pos, ◌*ℤ◌}
use Rattle.lam_geom.specs.declared.layer.Layer.TheVariants.{ND}
use Rattle.cif_form.specs.Place.{IsScaled, dot}
use Rattle.cif_place.specs.Placing.{scale_of, place_of}
use Rattle.cif_place.proofs.Numbers.{short_kept, kept_128}
use Rattle.cif_place.proofs.Points.{far_dot, point_of}
use Rattle.cif_place.proofs.point.placed_point.Goals as goal

pub returns-then-not-are_near-clause-none : goal.returns-then-not-are_near-clause-none
returns-then-not-are_near-clause-none c =
    let s = scale_of c.args.ratio in
    let p = c.args.point in
    let a = c.in-Some.across in
    let b = c.in-Some-scaled_twice.up in
    let across =
    subst (λ z. IsScaled s (pos 2 *ℤ z) a) (short_kept p.x c.requires.short.0) c.in-Some.ensures.whole in
    let up =
    subst (λ z. IsScaled s (pos 2 *ℤ z) b) (short_kept p.y c.requires.short.1) c.in-Some-scaled_twice.ensures.whole in
    let x = kept_128 a c.in-Some.ensures.small in
    let y = kept_128 b c.in-Some-scaled_twice.ensures.small in
    let placed = c.dot_at-dot.ensures ∙ (λ i. place_of c.args.placement (dot (x i) (y i))) in
    far_dot s c.args.placement (pos 2 *ℤ p.x) (pos 2 *ℤ p.y) a b c.dot_at-dot.result across up placed
    (c.if-not-are_near.ensures.far ND)

pub rect-rect-requires : goal.rect-rect-requires
rect-rect-requires c = c.if-not-are_near.ensures.near ND

pub returns-clause-some : goal.returns-clause-some
returns-clause-some c =
    let s = scale_of c.args.ratio in
    let p = c.args.point in
    let a = c.in-Some.across in
    let b = c.in-Some-scaled_twice.up in
    let across =
    subst (λ z. IsScaled s (pos 2 *ℤ z) a) (short_kept p.x c.requires.short.0) c.in-Some.ensures.whole in
    let up =
    subst (λ z. IsScaled s (pos 2 *ℤ z) b) (short_kept p.y c.requires.short.1) c.in-Some-scaled_twice.ensures.whole in
    let x = kept_128 a c.in-Some.ensures.small in
    let y = kept_128 b c.in-Some-scaled_twice.ensures.small in
    let placed = c.dot_at-dot.ensures ∙ (λ i. place_of c.args.placement (dot (x i) (y i))) in
    point_of s c.args.placement (pos 2 *ℤ p.x) (pos 2 *ℤ p.y) a b c.dot_at-dot.result across up placed
    (c.if-not-are_near.ensures.near ND) c.rect-rect.result c.rect-rect.ensures p refl refl
