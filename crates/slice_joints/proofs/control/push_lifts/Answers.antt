use Rattle.std.proofs.Common.{ℕ, [], ◌∷◌, ◌++◌, ◌∙◌, ap, sym}
use Rattle.std.specs.Prelude.{slice_get}
use Rattle.mp_base.proofs.Ranges.{flat_grown}
use Rattle.slice_form.specs.Whole.{path_of}
use Rattle.slice_joints.specs.Control.{tap, lift_tap}
use Rattle.slice_joints.proofs.control.push_lifts.Goals as goal

pub loop-i-preserved : goal.loop-i-preserved
loop-i-preserved c =
    let p = path_of c.args.path.now in
    let i : ℕ = c.loop-i.i in
    let items = c.loop-i.taps in
    flat_grown c.args.taps.now (λ i. lift_tap p i (slice_get p.lifts i)) i _ _ c.loop-i.invariant
    (c.in_ok-push.ensures.ok
    ∙ (ap (λ z. items ++ tap c.lift_at.result.control.0 z ∷ []) c.lift_column.ensures
    ∙ ap (λ q. items ++ lift_tap p i q) (sym c.lift_at.ensures.is)))
