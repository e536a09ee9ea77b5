-- Flag by flag.
use Rattle.std.proofs.Common.{arith, sym, subst}
use Rattle.rule_tiles.specs.Cuts.{IsFirstAt}
use Rattle.rule_tiles.proofs.Pairs.{found_flag, no_flag_more}
use Rattle.rule_tiles.proofs.cuts.first_flagged.Goals as goal

pub returns-then-flags-index : goal.returns-then-flags-index
returns-then-flags-index c =
    subst (IsFirstAt c.args.tiles.now c.args.flags.now) (sym c.low_square.ensures)
    (found_flag c.args.tiles.now c.args.flags.now c.loop-index.index _ _ (omega arith) (omega arith)
    c.if-flags-index.true c.loop-index.invariant)

pub loop-index-preserved : goal.loop-index-preserved
loop-index-preserved c =
    no_flag_more c.args.flags.now c.loop-index.index _ (omega arith) c.if-flags-index.false c.loop-index.invariant

pub returns : goal.returns
returns c = λ j l. c.loop-index.invariant j (omega arith)
