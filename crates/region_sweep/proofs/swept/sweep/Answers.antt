-- Where no rectangle draws, and where one does.
use Rattle.std.proofs.lemmas.Result.{IfOk-weaker}
use Rattle.region_sweep.proofs.Blank.{blank_tiles, blank_whole, blank_found}
use Rattle.region_sweep.proofs.swept.sweep.Goals as goal

pub returns-then-is_blank-clause-tiles : goal.returns-then-is_blank-clause-tiles
returns-then-is_blank-clause-tiles c = IfOk-weaker c.blank.result _ _
    (λ s e. blank_tiles c.blank_without_needed.ensures c.args.mask c.args.shapes.now s.tiles
    (c.is_blank.ensures c.if-is_blank.true) e) c.blank.ensures.tiles

pub returns-then-is_blank-clause-whole : goal.returns-then-is_blank-clause-whole
returns-then-is_blank-clause-whole c = IfOk-weaker c.blank.result _ _
    (λ s e. blank_whole c.blank_without_needed.ensures c.args.mask c.args.shapes.now s.tiles
    (c.is_blank.ensures c.if-is_blank.true)) c.blank.ensures.tiles

pub returns-then-is_blank-clause-found : goal.returns-then-is_blank-clause-found
returns-then-is_blank-clause-found c = IfOk-weaker c.blank.result _ _
    (λ s e. blank_found c.blank_without_needed.ensures c.args.mask c.args.shapes.now s.tiles c.args.places.now s.found
    (c.is_blank.ensures c.if-is_blank.true) e)
    c.blank.ensures.found

pub returns-clause-tiles : goal.returns-clause-tiles
returns-clause-tiles c = IfOk-weaker c.sweep_grid.result _ _ (λ s is. is.tiles) c.sweep_grid.ensures

pub returns-clause-whole : goal.returns-clause-whole
returns-clause-whole c = IfOk-weaker c.sweep_grid.result _ _ (λ s is. is.whole) c.sweep_grid.ensures

pub returns-clause-pairs : goal.returns-clause-pairs
returns-clause-pairs c = IfOk-weaker c.sweep_grid.result _ _ (λ s is. is.pairs) c.sweep_grid.ensures

pub returns-clause-found : goal.returns-clause-found
returns-clause-found c = IfOk-weaker c.sweep_grid.result _ _ (λ s is. is.found) c.sweep_grid.ensures
