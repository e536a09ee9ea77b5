-- Tile by tile.
use Rattle.std.proofs.Common.{arith, sym, subst, ap, ◌∙◌, ◌++◌, ◌∷◌, [], map}
use Rattle.std.proofs.lemmas.List.{take_all}
use Rattle.mask_runs.specs.declared.mask.Mask.TheVariants.{Only}
use Rattle.mask_tiles.specs.Tiles.{AreTiles}
use Rattle.layer_strips.specs.Layers.{rect_of}
use Rattle.layer_strips.proofs.Bridging.{are_strips_of, tiles_more}
use Rattle.layer_strips.proofs.strips.add_layer.Goals as goal

pub loop-tile-preserved : goal.loop-tile-preserved
loop-tile-preserved c =
    tiles_more c.args.layer c.args.strips.now c.as_slice-tile-items.result.now c.loop-tile.tile-index _
    c.loop-tile.strips c.push.new.self c.loop-tile-test.true
    c.loop-tile.invariant (c.in_ok-push.ensures.ok ∙ ap (λ r. c.loop-tile.strips ++ r ∷ []) c.strip.ensures)

pub returns : goal.returns
returns c =
    let ts = c.as_slice-tile-items.result.now in
    record {
      added = map (rect_of c.args.layer) ts;
      is = c.loop-tile.invariant
          ∙ ap (λ xs. c.args.strips.now ++ map (rect_of c.args.layer) xs)
          (take_all c.loop-tile.tile-index ts (omega arith));
      are = are_strips_of c.args.shapes.now c.args.layer ts
          (subst (AreTiles c.args.shapes.now (Only c.args.layer))
          (sym c.as_slice-tile-items.ensures) c.in_ok-swept.ensures.tiles);
    }
