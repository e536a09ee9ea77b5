use Rattle.std.proofs.Common.{subst}
use Rattle.std.specs.Prelude.{pos, ◌*ℤ◌}
use Rattle.cif_form.specs.Place.{IsScaled}
use Rattle.cif_place.specs.Placing.{scale_of}
use Rattle.cif_place.proofs.Numbers.{short_kept}
use Rattle.cif_place.proofs.point.is_whole.Goals as goal

pub returns-clause-whole : goal.returns-clause-whole
returns-clause-whole c =
    let s = scale_of c.args.ratio in
    let p = c.args.point in
    let a = c.in-Some.field-0 in
    let b = c.in-Some-scaled_twice.field-0 in (
      (a, subst (λ z. IsScaled s (pos 2 *ℤ z) a) (short_kept p.x c.requires.short.0) c.in-Some.ensures.whole),
      (
        b,
        subst (λ z. IsScaled s (pos 2 *ℤ z) b) (short_kept p.y c.requires.short.1)
            c.in-Some-scaled_twice.ensures.whole,
      ),
    )
