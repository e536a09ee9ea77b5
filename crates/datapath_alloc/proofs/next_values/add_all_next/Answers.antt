use Rattle.std.proofs.Common.{◌≡◌, ◌+◌, suc, length, refl, ap, subst, arith}
use Rattle.control_nor.specs.declared.names.Names.{Names}
use Rattle.datapath_alloc.specs.Progress.{IsMadeTo}
use Rattle.datapath_alloc.proofs.Marks.{keeps_twice}
use Rattle.datapath_alloc.proofs.Noting.{words_twice}
use Rattle.datapath_alloc.proofs.next_values.add_all_next.Goals as goal

pub loop-index-init : goal.loop-index-init
loop-index-init c = (
  c.requires.made,
  record { names = refl; marks = refl },
  record { names = refl; words = refl; lifts = refl },
)

pub loop-index-preserved : goal.loop-index-preserved
loop-index-preserved c =
    let e : suc c.loop-index.index ≡ c.loop-index.index + 1 = omega arith in
    let tasks = ap (λ (n : Names). length n.tasks) c.loop-index.invariant.1.names in (
      subst (λ n. IsMadeTo c.args.rtl.now (length c.args.rtl.now.cells) (length c.args.making.now.names.tasks) n
          c.add_next_of.new.making) e
          (subst (λ n. IsMadeTo c.args.rtl.now (length c.args.rtl.now.cells) n (suc c.loop-index.index)
          c.add_next_of.new.making) tasks c.in_ok-add_next_of.ensures.made),
      keeps_twice c.args.making.now c.loop-index.making c.add_next_of.new.making c.loop-index.invariant.1
          c.in_ok-add_next_of.ensures.marks,
      words_twice c.args.making.now c.loop-index.making c.add_next_of.new.making c.loop-index.invariant.2
          c.in_ok-add_next_of.ensures.words,
    )
