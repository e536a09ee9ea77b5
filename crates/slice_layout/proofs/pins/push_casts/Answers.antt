use Rattle.std.proofs.Common.{ℕ, [], ◌∷◌, ◌++◌, ◌∙◌, ap, sym}
use Rattle.std.specs.Prelude.{slice_get}
use Rattle.mp_base.proofs.Ranges.{flat_grown}
use Rattle.slice_form.specs.Whole.{path_of}
use Rattle.band_lists.specs.declared.pins.Pin.{Pin}
use Rattle.band_lists.specs.declared.pins.At.TheVariants.{Column}
use Rattle.slice_layout.specs.Pins.{cast_pin}
use Rattle.slice_layout.proofs.pins.push_casts.Goals as goal

pub loop-i-preserved : goal.loop-i-preserved
loop-i-preserved c =
    let p = path_of c.args.path.now in
    let i : ℕ = c.loop-i.i in
    let items = c.loop-i.pins.items in
    let at : ℕ → Pin = λ z. record { segment = c.cast_at.result.slice.0; at = Column z } in
    flat_grown c.args.pins.now.items (λ i. cast_pin i (slice_get p.casts i)) i _ _ c.loop-i.invariant
    (c.in_ok-push.ensures.items
    ∙ (ap (λ z. items ++ at z ∷ []) c.cast_column.ensures
    ∙ ap (λ q. items ++ cast_pin i q) (sym c.cast_at.ensures.is)))
