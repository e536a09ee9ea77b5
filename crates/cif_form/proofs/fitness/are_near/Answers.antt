use Rattle.std.proofs.Common.{refl, sym, subst, ◌≡◌, true, false, IsTrue}
use Rattle.std.specs.Prelude.{pos}
use Rattle.std.proofs.lemmas.List.{drop_more}
use Rattle.cif_form.specs.Fits.{point_numbers}
use Rattle.cif_form.proofs.Small.{small_on, small_at}
use Rattle.cif_form.proofs.fitness.are_near.Goals as goal

pub returns-then-not-is_near : goal.returns-then-not-is_near
returns-then-not-is_near c =
    let step =
    drop_more c.args.points.now c.loop-point.point-index (record { x = pos 0; y = pos 0 }) c.loop-point-test.true in (
      (λ h. absurd (let e : false ≡ true = h in cc)),
      (λ h. subst IsTrue c.if-not-is_near.true
          (c.is_near.ensures.1 (small_at point_numbers _ _ _ _ step c.loop-point.invariant h))),
    )

pub loop-point-preserved : goal.loop-point-preserved
loop-point-preserved c =
    let step =
    drop_more c.args.points.now c.loop-point.point-index (record { x = pos 0; y = pos 0 }) c.loop-point-test.true in
    small_on point_numbers _ _ _ _ step
    (c.is_near.ensures.0 (subst IsTrue (sym c.if-not-is_near.false) refl)) c.loop-point.invariant
