use Rattle.std.proofs.Common.{◌≡◌, ◌+◌, length, take, ap, sym, ◌∙◌, arith, slice_index, min, zero-add}
use Rattle.std.specs.List.{sum_by, flat_map}
use Rattle.mp_base.proofs.Lists.{take_whole}
use Rattle.mp_program.specs.declared.program.FormKind.{FormKind}
use Rattle.mp_program.specs.declared.program.Branch.{Branch}
use Rattle.mp_program.specs.Weight.{inner, is_call}
use Rattle.mp_weight.proofs.Capping.{bodies_more}
use Rattle.mp_weight.proofs.calls.calls_of.Goals as goal

pub loop-branch-init : goal.loop-branch-init
loop-branch-init c = omega arith

pub sum_at-sum-requires : goal.sum_at-sum-requires
sum_at-sum-requires c = omega (arith, c.loop-branch.invariant)

pub loop-branch-preserved : goal.loop-branch-preserved
loop-branch-preserved c =
    bodies_more
    (slice_index c.args.calls.now) c.args.cap c.as_slice-branch-items.result.now c.loop-branch.branch-index
    c.branch-item.result c.loop-branch.sum c.sum_at-sum.result
    c.loop-branch-test.true c.loop-branch.invariant
    (c.sum_at-sum.ensures
    ∙ ap (λ xs. min c.args.cap (c.loop-branch.sum + sum_by (slice_index c.args.calls.now) xs))
    (c.as_slice-in-loop-branch.ensures ∙ ap (λ (b : Branch). b.body) c.branch-item.is))

pub returns-after-loop-branch : goal.returns-after-loop-branch
returns-after-loop-branch c =
    let end : c.loop-branch.branch-index ≡ length c.as_slice-branch-items.result.now = omega arith in
    let whole =
    ap (λ k. take k c.as_slice-branch-items.result.now) end ∙ take_whole c.as_slice-branch-items.result.now
    ∙ c.as_slice-branch-items.ensures in
    c.loop-branch.invariant
    ∙ ap (λ bs. min c.args.cap (sum_by (slice_index c.args.calls.now) (flat_map (λ (b : Branch). b.body) bs))) whole
    ∙ ap (min c.args.cap)
    (sym (zero-add (sum_by (slice_index c.args.calls.now) (flat_map (λ (b : Branch). b.body) c.in-Cond.branches))))
    ∙ ap (λ (k : FormKind). min c.args.cap (is_call k + sum_by (slice_index c.args.calls.now) (inner k)))
    (sym c.in-Cond.is)
