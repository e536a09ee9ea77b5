use Rattle.std.proofs.Common.{◌<◌, ◌^◌, arith}
use Rattle.cover_tree.proofs.Colours.{none_differ, all_differ}
use Rattle.cover_tree.proofs.kinds.Kinds.effect.Goals as goal

-- src/kinds.rt
pub returns-in-None : goal.returns-in-None
returns-in-None c =
    let small : c.args.self.bits < 2 ^ 32 = omega arith in (
      λ k. c.in-None.ensures.none 0 (none_differ c.args.palette.now.mask c.args.self small c.args.old c.args.new
          c.with.result c.with-2.result c.differing-differing.result c.with.ensures c.with-2.ensures
          c.differing-differing.ensures k),
      λ k. c.in-None.ensures.none 1 (all_differ c.args.palette.now.mask c.args.self small c.args.old c.args.new
          c.with.result c.with-2.result c.differing-differing.result c.with.ensures c.with-2.ensures
          c.differing-differing.ensures k),
    )
