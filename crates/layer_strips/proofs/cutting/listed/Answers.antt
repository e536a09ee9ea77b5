-- Pair by pair.
use Rattle.std.proofs.Common.{arith, ap, ◌∙◌, map}
use Rattle.std.proofs.lemmas.List.{take_all}
use Rattle.layer_strips.specs.Layers.{pair_of}
use Rattle.layer_strips.proofs.Listing.{pairs_more}
use Rattle.layer_strips.proofs.cutting.listed.Goals as goal

pub loop-a-preserved : goal.loop-a-preserved
loop-a-preserved c =
    pairs_more c.args.pairs.now c.loop-a.a-index _ c.loop-a.list c.push.new.self c.loop-a-test.true c.loop-a.invariant
    c.in_ok-push.ensures.ok

pub returns : goal.returns
returns c = c.loop-a.invariant ∙ ap (map pair_of) (take_all c.loop-a.a-index c.args.pairs.now (omega arith))
