-- Corner by corner.
use Rattle.std.proofs.Common.{arith, ap, ◌∙◌, ◌++◌, ◌∷◌, [], map}
use Rattle.std.proofs.lemmas.List.{take_all}
use Rattle.rule_tiles.specs.Cuts.{block_of}
use Rattle.rule_tiles.proofs.Listing.{map_one}
use Rattle.rule_tiles.proofs.blocks.blocks.Goals as goal

pub block-requires : goal.block-requires
block-requires c = c.requires c.loop-corner.corner-index _ c.loop-corner-test.true

pub loop-corner-preserved : goal.loop-corner-preserved
loop-corner-preserved c =
    map_one (block_of 2000) c.args.corners.now c.loop-corner.corner-index _ c.loop-corner.blocks c.push.new.self
    c.loop-corner-test.true c.loop-corner.invariant
    (c.in_ok-push.ensures.ok ∙ ap (λ r. c.loop-corner.blocks ++ r ∷ []) c.block.ensures)

pub returns : goal.returns
returns c =
    c.loop-corner.invariant
    ∙ ap (map (block_of 2000)) (take_all c.loop-corner.corner-index c.args.corners.now (omega arith))
