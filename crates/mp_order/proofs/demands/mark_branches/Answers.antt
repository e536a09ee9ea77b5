use Rattle.std.proofs.Common.{◌≡◌, inl, inr, ◌+◌, ℕ, List, ◌∙◌, subst, arith, get_or}
use Rattle.std.specs.Prelude.{Contains}
use Rattle.mp_order.specs.Tables.{Lifted}
use Rattle.mp_base.specs.Entries.{IsAt}
use Rattle.mp_base.proofs.Entries.{entry}
use Rattle.mp_order.proofs.Tables.{lifted_none}
use Rattle.mp_order.proofs.Branches.{Highest, GivesBelow, highest_none, highest_more, branches_more, branches_done}
use Rattle.mp_order.proofs.demands.mark_branches.Goals.{then-high-guard, else-high-guard}
use Rattle.mp_order.proofs.demands.mark_branches.Goals as goal

pub loop-branch-init : goal.loop-branch-init
loop-branch-init c = (
  highest_none c.args.tops.now c.args.branches.now c.args.mark,
  lifted_none (GivesBelow c.args.tops.now c.args.branches.now c.args.mark 0) c.args.marks.now
      (λ i k lt g. absurd (omega (arith, g.2))),
)

pub loop-branch-preserved : goal.loop-branch-preserved
loop-branch-preserved c =
    let at : IsAt c.args.branches.now c.loop-branch.branch-index c.branch-item.result =
    entry c.args.branches.now c.loop-branch.branch-index c.loop-branch-test.true c.branch-item.is in
    let guard : c.from-guard.result ≡ get_or c.args.tops.now c.branch-item.result.guard 0 =
    c.from-guard.ensures ∙ c.read.ensures in
    let h : Highest c.args.tops.now c.args.branches.now c.args.mark
    (c.loop-branch.branch-index + 1) c.if-high-guard.high = elim c.if-high-guard.branch [
      | then-high-guard w ↦
          highest_more c.args.tops.now c.args.branches.now c.args.mark c.loop-branch.branch-index c.loop-branch.high
          c.if-high-guard.high c.branch-item.result at
          c.loop-branch.invariant.0 (inr (omega (arith, guard, w.high-is)))
          (omega (arith, w.high-is, w.if-high-guard.true)) (omega (arith, guard, w.high-is))
      | else-high-guard w ↦
          highest_more c.args.tops.now c.args.branches.now c.args.mark c.loop-branch.branch-index c.loop-branch.high
          c.if-high-guard.high c.branch-item.result at
          c.loop-branch.invariant.0 (inl (omega (arith, w.high-is))) (omega (arith, w.high-is))
          (omega (arith, guard, w.high-is, w.if-high-guard.false))
    ] in
    let P : List ℕ
    → Type 0 = λ xs. Lifted
    (λ f k. Contains xs f × (k ≡ c.if-high-guard.high)) c.loop-branch.marks c.lift_all.new.numbers in (
      h,
      branches_more c.args.tops.now c.args.branches.now c.args.mark c.loop-branch.branch-index c.if-high-guard.high
          c.branch-item.result c.args.marks.now c.loop-branch.marks c.lift_all.new.numbers
          at h c.loop-branch.invariant.1 (subst P c.as_slice.ensures c.lift_all.ensures),
    )

pub returns : goal.returns
returns c =
    branches_done c.args.tops.now c.args.branches.now c.args.mark c.loop-branch.branch-index c.args.marks.now
    c.loop-branch.marks c.loop-branch-test.false c.loop-branch.invariant.1
