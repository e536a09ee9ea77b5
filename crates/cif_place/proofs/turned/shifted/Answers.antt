use Rattle.std.proofs.Common.{◌≡◌, sym, subst, arith, to_z, of_z, w64}
use mir.Syntax.{w128}
use Rattle.std.specs.Prelude.{pos, ◌*ℤ◌}
use Rattle.std.proofs.lemmas.Int.{ints}
use Rattle.cif_form.specs.Place.{IsScaled}
use Rattle.cif_place.specs.Placing.{scale_of}
use Rattle.cif_place.proofs.Numbers.{scaled_same}
use Rattle.cif_place.proofs.Turns.{uneven, moved_turned}
use Rattle.cif_place.proofs.turned.shifted.Goals as goal

pub returns-in_default-clause-turned : goal.returns-in_default-clause-turned
returns-in_default-clause-turned c =
    let t = c.twice_more.type_inv in
    let v = c.twice_more.ensures.value in
    let p = c.requires.short in
    let e : to_z w64 (of_z w64 c.twice_more.result) ≡ pos 2 *ℤ c.args.by.x = omega (arith, ints) in
    uneven (scale_of c.args.ratio) c.args.by
    (λ ((x, scaled), _). c.in_default.ensures.uneven x
    (subst (λ v. IsScaled (scale_of c.args.ratio) v x) (sym e) scaled))

pub returns-in_default-scaled-clause-turned : goal.returns-in_default-scaled-clause-turned
returns-in_default-scaled-clause-turned c =
    let t = c.twice_more-2.type_inv in
    let v = c.twice_more-2.ensures.value in
    let p = c.requires.short in
    let e : to_z w64 (of_z w64 c.twice_more-2.result) ≡ pos 2 *ℤ c.args.by.y = omega (arith, ints) in
    uneven (scale_of c.args.ratio) c.args.by
    (λ (_, (y, scaled)). c.in_default-scaled.ensures.uneven y
    (subst (λ v. IsScaled (scale_of c.args.ratio) v y) (sym e) scaled))

pub returns : goal.returns
returns c =
    let t1 = c.twice_more.type_inv in
    let t2 = c.twice_more-2.type_inv in
    let v1 = c.twice_more.ensures.value in
    let v2 = c.twice_more-2.ensures.value in
    let p = c.requires.short in
    let e1 : to_z w64 (of_z w64 c.twice_more.result) ≡ pos 2 *ℤ c.args.by.x = omega (arith, ints) in
    let e2 : to_z w64 (of_z w64 c.twice_more-2.result) ≡ pos 2 *ℤ c.args.by.y = omega (arith, ints) in
    let s1 = c.in-Some.ensures.small in
    let s2 = c.in-Some-scaled.ensures.small in
    let f1 : to_z w128 (of_z w128 c.in-Some.dx) ≡ c.in-Some.dx = omega (arith, ints, s1.0, s1.1) in
    let f2 : to_z w128 (of_z w128 c.in-Some-scaled.dy) ≡ c.in-Some-scaled.dy = omega (arith, ints, s2.0, s2.1) in
    let r = moved_turned (scale_of c.args.ratio) c.args.by _ _ c.moved.result
    (scaled_same (scale_of c.args.ratio) _ _ _ _ e1 f1 c.in-Some.ensures.whole)
    (scaled_same (scale_of c.args.ratio) _ _ _ _ e2 f2 c.in-Some-scaled.ensures.whole) c.moved.ensures in
    record { turned = r.0; held = r.1 }
