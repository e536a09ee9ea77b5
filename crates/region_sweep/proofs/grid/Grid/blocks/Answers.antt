-- Rectangle by rectangle.
use Rattle.std.proofs.Common.{sym, ◌∙◌, subst, take, ◌+◌, ap, ◌∷◌, [], ◌++◌, rules}
use Rattle.std.proofs.lemmas.List.Sorted.{IsNonDecreasingBy-from_sort_by_key}
use Rattle.region_sweep.specs.Grid.{AreBlocks}
use Rattle.region_sweep.proofs.Gridding.{no_rect, blocks_more, blocks_same, blocks_sorted, all_inside}
use Rattle.region_sweep.proofs.grid.Grid.blocks.Goals as goal
use Rattle.region_sweep.proofs.grid.Grid.blocks.Goals.{then-uses+in_ok-push, else-uses}

pub loop-shape-preserved : goal.loop-shape-preserved
loop-shape-preserved c =
    let shapes = c.args.shapes.now in
    let i = c.loop-shape.shape-index in
    let grid = c.args.self.now in
    let xs = grid.columns.marks.items in
    let ys = grid.rows.marks.items in
    elim c.if-uses.branch [
      | then-uses+in_ok-push w ↦
          let e = w.blocks-is ∙ w.in_ok-push.ensures.ok ∙ ap (λ b. c.loop-shape.blocks ++ b ∷ []) w.block.ensures in
          subst (λ bs. AreBlocks xs ys c.args.mask (take (i + 1) shapes) bs) (sym e)
          (blocks_more xs ys c.args.mask shapes c.loop-shape.blocks i no_rect c.loop-shape-test.true
          (sym c.uses.ensures ∙ w.if-uses.true) c.loop-shape.invariant)
      | else-uses w ↦
          subst (λ bs. AreBlocks xs ys c.args.mask (take (i + 1) shapes) bs) (sym w.blocks-is)
          (blocks_same xs ys c.args.mask shapes c.loop-shape.blocks i no_rect c.loop-shape-test.true
          (sym c.uses.ensures ∙ w.if-uses.false) c.loop-shape.invariant)
    ]

blocks_are : goal.returns-clause-blocks
blocks_are c =
    let grid = c.args.self.now in
    let xs = grid.columns.marks.items in
    let ys = grid.rows.marks.items in
    blocks_sorted xs ys c.args.mask c.args.shapes.now c.loop-shape.shape-index c.into_vec-blocks.result.items
    c.sort_by_key.new.self.items
    c.loop-shape-test.false
    c.in_ok-sort_by_key.ensures.permutation
    (subst (λ bs. AreBlocks xs ys c.args.mask (take c.loop-shape.shape-index c.args.shapes.now) bs)
    (sym c.into_vec-blocks.ensures) c.loop-shape.invariant)

pub returns-clause-blocks : goal.returns-clause-blocks
returns-clause-blocks c = blocks_are c

pub returns-clause-stacked : goal.returns-clause-stacked
returns-clause-stacked c =
    let grid = c.args.self.now in
    let xs = grid.columns.marks.items in
    let ys = grid.rows.marks.items in
    record {
      each = all_inside xs ys c.args.mask c.args.shapes.now c.sort_by_key.new.self.items grid.columns.ascending
          grid.rows.ascending c.requires (blocks_are c);
      order = IsNonDecreasingBy-from_sort_by_key (λ b. b.low) _ c.in_ok-sort_by_key.ensures.sorted
          (λ a r q k. search rules);
    }
