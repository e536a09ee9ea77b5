use Rattle.std.proofs.Common.{◌≡◌, ◌+◌, suc, refl, subst, arith}
use Rattle.datapath_alloc.specs.Progress.{IsMadeTo}
use Rattle.datapath_alloc.proofs.Marks.{keeps_twice}
use Rattle.datapath_alloc.proofs.latches.add_latches.Goals as goal

pub loop-index-init : goal.loop-index-init
loop-index-init c = (c.requires.begun, record { names = refl; marks = refl })

pub loop-index-preserved : goal.loop-index-preserved
loop-index-preserved c =
    let e : suc c.loop-index.index ≡ c.loop-index.index + 1 = omega arith in (
      subst (λ n. IsMadeTo c.args.rtl.now n 0 0 c.add_latch.new.making) e c.in_ok-add_latch.ensures.made,
      keeps_twice c.args.making.now c.loop-index.making c.add_latch.new.making c.loop-index.invariant.1
          c.in_ok-add_latch.ensures.marks,
    )
