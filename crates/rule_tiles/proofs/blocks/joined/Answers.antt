-- Number by number.
use Rattle.std.proofs.Common.{arith, sym, subst}
use Rattle.rule_tiles.specs.Cuts.{AreFlags, IsJoined}
use Rattle.rule_tiles.proofs.Listing.{flags_none, flags_more}
use Rattle.rule_tiles.proofs.Pairs.{joined_at}
use Rattle.rule_tiles.proofs.blocks.joined.Goals as goal

pub loop-index-init : goal.loop-index-init
loop-index-init c =
    let Is = IsJoined c.args.odd.now c.args.metal.now c.args.polysilicon.now c.args.diffusion.now in
    subst (AreFlags Is 0) (sym c.new-bare.ensures) (flags_none Is)

pub loop-index-preserved : goal.loop-index-preserved
loop-index-preserved c =
    flags_more (IsJoined c.args.odd.now c.args.metal.now c.args.polysilicon.now c.args.diffusion.now) c.loop-index.index
    c.is_bare-is_bare.result c.loop-index.bare c.push.new.self c.loop-index.invariant
    (joined_at c.args.odd.now c.args.metal.now c.args.polysilicon.now c.args.diffusion.now c.loop-index.index
    c.is_bare-is_bare.result _ _ _ _ (omega arith) (omega arith) (omega arith) (omega arith) c.is_bare-is_bare.ensures)
    c.in_ok-push.ensures.ok
