-- Tile by tile.
use Rattle.std.proofs.Common.{arith, sym, subst}
use Rattle.std.specs.Prelude.{not}
use Rattle.rule_tiles.specs.Cuts.{AreFlags, IsUnsizedAt}
use Rattle.rule_tiles.proofs.Listing.{flags_none, flags_more}
use Rattle.rule_tiles.proofs.Pairs.{unsized_at}
use Rattle.rule_tiles.proofs.cuts.odd_sizes.Goals as goal

pub loop-tile-init : goal.loop-tile-init
loop-tile-init c =
    subst (AreFlags (IsUnsizedAt c.args.tiles.now) 0) (sym c.new-odd.ensures)
    (flags_none (IsUnsizedAt c.args.tiles.now))

pub loop-tile-preserved : goal.loop-tile-preserved
loop-tile-preserved c =
    flags_more (IsUnsizedAt c.args.tiles.now) c.loop-tile.tile-index (not c.is_cut_size.result) c.loop-tile.odd
    c.push.new.self c.loop-tile.invariant
    (unsized_at c.args.tiles.now c.loop-tile.tile-index _ c.is_cut_size.result c.loop-tile-test.true
    c.is_cut_size.ensures)
    c.in_ok-push.ensures.ok

pub returns : goal.returns
returns c =
    let e = c.loop-tile.invariant in
    subst (λ n. AreFlags (IsUnsizedAt c.args.tiles.now) n c.loop-tile.odd) (omega arith) e
