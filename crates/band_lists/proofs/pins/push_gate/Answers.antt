use Rattle.std.proofs.Common.{[], ◌∷◌, ◌++◌, ◌∙◌, ap}
use Rattle.band_lists.proofs.Growing.{gate_more}
use Rattle.band_lists.proofs.pins.push_gate.Goals as goal

pub loop-input-preserved : goal.loop-input-preserved
loop-input-preserved c =
    gate_more c.args.n c.args.inputs.now c.loop-input.input-index (record { 0 = 0 }) c.loop-input-test.true
    c.args.pins.now.items _ _ c.loop-input.invariant
    (c.in_ok-push-2.ensures.items ∙ ap (λ q. c.loop-input.pins.items ++ q ∷ []) c.home_pin-in-loop-input.ensures)
