use Rattle.std.proofs.Common.{ℕ, [], ◌∷◌, ◌++◌, ◌∙◌, ap, sym}
use Rattle.std.specs.Prelude.{slice_get}
use Rattle.mp_base.proofs.Ranges.{flat_grown}
use Rattle.slice_form.specs.Whole.{path_of}
use Rattle.slice_layout.specs.Pins.{program_pin}
use Rattle.slice_layout.proofs.pins.push_programs.Goals as goal

pub loop-i-preserved : goal.loop-i-preserved
loop-i-preserved c =
    let p = path_of c.args.path.now in
    let i : ℕ = c.loop-i.i in
    let items = c.loop-i.pins.items in
    flat_grown c.args.pins.now.items (λ i. program_pin (slice_get p.programs i)) i _ _ c.loop-i.invariant
    (c.in_ok-push.ensures.items
    ∙ (ap (λ z. items ++ z ∷ []) c.home_pin.ensures
    ∙ ap (λ q. items ++ program_pin q) (sym c.program_at-net.ensures.is)))
