-- Pair by pair.
use Rattle.std.proofs.Common.{arith, sym, subst}
use Rattle.mask_runs.specs.declared.mask.Mask.TheVariants.{Diffusion}
use Rattle.mask_tiles.specs.Tiles.{AreTiles, AreWhole}
use Rattle.mask_tiles.specs.Touching.{AreTouching}
use Rattle.rule_rows.proofs.Leading.{AreLed, led_none, led_more, all_led}
use Rattle.rule_rows.proofs.leads.leading.Goals as goal

pub loop-pair-init : goal.loop-pair-init
loop-pair-init c =
    subst (AreLed c.as_slice-tiles.result.now c.as_slice-pair-items.result.now 0) (sym c.new-rects.ensures)
    (led_none c.as_slice-tiles.result.now c.as_slice-pair-items.result.now)

pub loop-pair-preserved : goal.loop-pair-preserved
loop-pair-preserved c =
    led_more c.as_slice-tiles.result.now c.as_slice-pair-items.result.now c.loop-pair.pair-index c.loop-pair.rects
    c.lead.new.rects c.lead-in-loop-pair.new.rects c.loop-pair.invariant c.in_ok-lead.ensures c.in_ok-lead-2.ensures

pub returns : goal.returns
returns c =
    let tiles = c.as_slice-tiles.result.now in
    let pairs = c.as_slice-pair-items.result.now in
    all_led c.args.plan.now c.requires tiles
    (subst (AreTiles c.args.plan.now Diffusion) (sym c.as_slice-tiles.ensures) c.in_ok-swept.ensures.tiles)
    (subst (AreWhole c.args.plan.now Diffusion) (sym c.as_slice-tiles.ensures) c.in_ok-swept.ensures.whole) pairs
    (subst (λ t. AreTouching t pairs) (sym c.as_slice-tiles.ensures)
    (subst (AreTouching c.in_ok-swept.swept.tiles) (sym c.as_slice-pair-items.ensures) c.in_ok-swept.ensures.pairs))
    c.loop-pair.rects c.loop-pair.pair-index (omega arith) c.loop-pair.invariant
