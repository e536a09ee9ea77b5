use Rattle.std.proofs.Common.{ℕ, [], ◌∷◌, ◌++◌, ◌∙◌, ap, sym}
use Rattle.std.specs.Prelude.{slice_get}
use Rattle.mp_base.proofs.Ranges.{flat_grown}
use Rattle.slice_form.specs.Whole.{path_of}
use Rattle.band_lists.specs.declared.pins.Pin.{Pin}
use Rattle.band_lists.specs.declared.pins.At.TheVariants.{Column}
use Rattle.slice_layout.specs.Pins.{lift_pin}
use Rattle.slice_layout.proofs.pins.push_lifts.Goals as goal

pub loop-i-preserved : goal.loop-i-preserved
loop-i-preserved c =
    let p = path_of c.args.path.now in
    let i : ℕ = c.loop-i.i in
    let items = c.loop-i.pins.items in
    let at : ℕ → Pin = λ z. record { segment = c.lift_at.result.from.0; at = Column z } in
    flat_grown c.args.pins.now.items (λ i. lift_pin p i (slice_get p.lifts i)) i _ _ c.loop-i.invariant
    (c.in_ok-push.ensures.items
    ∙ (ap (λ z. items ++ at z ∷ []) c.lift_column.ensures
    ∙ ap (λ q. items ++ lift_pin p i q) (sym c.lift_at.ensures.is)))
