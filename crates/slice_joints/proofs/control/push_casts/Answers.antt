use Rattle.std.proofs.Common.{ℕ, [], ◌∷◌, ◌++◌, ◌∙◌, ap, sym}
use Rattle.std.specs.Prelude.{slice_get}
use Rattle.mp_base.proofs.Ranges.{flat_grown}
use Rattle.slice_form.specs.Whole.{path_of}
use Rattle.slice_joints.specs.Control.{tap, cast_tap}
use Rattle.slice_joints.proofs.control.push_casts.Goals as goal

pub loop-i-preserved : goal.loop-i-preserved
loop-i-preserved c =
    let p = path_of c.args.path.now in
    let i : ℕ = c.loop-i.i in
    let items = c.loop-i.taps in
    flat_grown c.args.taps.now (λ i. cast_tap i (slice_get p.casts i)) i _ _ c.loop-i.invariant
    (c.in_ok-push.ensures.ok
    ∙ (ap (λ z. items ++ tap c.cast_at.result.control.0 z ∷ []) c.cast_column.ensures
    ∙ ap (λ q. items ++ cast_tap i q) (sym c.cast_at.ensures.is)))
