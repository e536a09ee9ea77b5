use Rattle.std.proofs.Common.{◌≡◌, ◌∙◌, subst, arith}
use Rattle.std.specs.Prelude.{ℤ, pos, ◌+ℤ◌, ◌*ℤ◌, IfSome, IfNone}
use Rattle.std.proofs.lemmas.Int.{ints}
use Rattle.cif_form.specs.Place.{IsScaled}
use Rattle.cif_place.specs.Placing.{scale_of}
use Rattle.cif_place.proofs.Numbers.{more_kept}
use Rattle.cif_place.proofs.ratio.Ratio.scaled_twice.Goals as goal

pub returns-clause-whole : goal.returns-clause-whole
returns-clause-whole c =
    let e = more_kept _ c.args.units (pos 0) c.twice_more.ensures.small c.requires.short
    (omega (arith, ints), omega (arith, ints)) c.twice_more.ensures.value in
    let f : pos 2 *ℤ c.args.units +ℤ pos 0 ≡ pos 2 *ℤ c.args.units = omega (arith, ints) in
    subst (λ w. IfSome c.scaled.result (λ z. IsScaled (scale_of c.args.self) w z)) (e ∙ f) c.scaled.ensures.whole

pub returns-clause-uneven : goal.returns-clause-uneven
returns-clause-uneven c =
    let e = more_kept _ c.args.units (pos 0) c.twice_more.ensures.small c.requires.short
    (omega (arith, ints), omega (arith, ints)) c.twice_more.ensures.value in
    let f : pos 2 *ℤ c.args.units +ℤ pos 0 ≡ pos 2 *ℤ c.args.units = omega (arith, ints) in
    subst (λ w. IfNone c.scaled.result ((z : ℤ) → ¬ IsScaled (scale_of c.args.self) w z))
    (e ∙ f) c.scaled.ensures.uneven
