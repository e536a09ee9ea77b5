-- Tile by tile.
use Rattle.std.proofs.Common.{◌∙◌, ◌++◌, ◌∷◌, [], ap, arith, sym, subst, true≢false, ◌+◌}
use Rattle.mask_runs.specs.declared.mask.Mask.TheVariants.{Diffusion}
use Rattle.mask_tiles.specs.Tiles.{AreTiles, AreWhole}
use Rattle.rule_rows.proofs.Stretching.{AreDrawn, drawn_none, drawn_passed, drawn_added, are_long}
use Rattle.rule_rows.proofs.stretches.long.Goals as goal
use Rattle.rule_rows.proofs.stretches.long.Goals.{then-is_wide+in_ok-push, else-is_wide}

pub loop-tile-init : goal.loop-tile-init
loop-tile-init c = subst (AreDrawn c.as_slice-tile-items.result.now 0) (sym c.new-rects.ensures)
    (drawn_none c.as_slice-tile-items.result.now)

pub loop-tile-preserved : goal.loop-tile-preserved
loop-tile-preserved c =
    let tiles = c.as_slice-tile-items.result.now in
    let n = c.loop-tile.tile-index in
    elim c.if-is_wide.branch [
      | then-is_wide+in_ok-push w ↦ drawn_added tiles n c.loop-tile.rects c.if-is_wide.rects
          (c.is_wide.ensures.0 w.if-is_wide.true)
          (w.rects-is ∙ w.in_ok-push.ensures.ok ∙ ap (λ q. c.loop-tile.rects ++ q ∷ []) w.buried.ensures)
          c.loop-tile.invariant
      | else-is_wide w ↦ subst (AreDrawn tiles (n + 1)) (sym w.rects-is)
          (drawn_passed tiles n c.loop-tile.rects
          (λ g. true≢false (sym (c.is_wide.ensures.1 g) ∙ w.if-is_wide.false)) c.loop-tile.invariant)
    ]

pub returns : goal.returns
returns c =
    let e = c.as_slice-tile-items.ensures in
    let tiles = c.as_slice-tile-items.result.now in
    are_long c.args.drawing.now tiles
    (subst (AreTiles c.args.drawing.now Diffusion) (sym e) c.in_ok-swept.ensures.tiles)
    (subst (AreWhole c.args.drawing.now Diffusion) (sym e) c.in_ok-swept.ensures.whole)
    c.requires c.loop-tile.tile-index c.loop-tile.rects (omega arith) c.loop-tile.invariant
