use Rattle.std.proofs.Common.{◌<◌, ℕ, List, length, take, arith, sym, subst}
use Rattle.std.specs.Prelude.{All}
use Rattle.std.specs.List.{flat_map}
use Rattle.mp_program.specs.declared.program.Branch.{Branch}
use Rattle.mp_base.proofs.Entries.{entry}
use Rattle.mp_transfers.specs.Marks.{IsMarking}
use Rattle.mp_transfers.proofs.Lists.{all_flat}
use Rattle.mp_transfers.proofs.Marking.{marking_append, bodies_more, bodies_all}
use Rattle.mp_transfers.proofs.marks.mark_branches.Goals as goal

pub mark_forms-next-requires : goal.mark_forms-next-requires
mark_forms-next-requires c =
    let P : List ℕ → Type 0 = All (λ f. f < length c.loop-branch.marks) in
    let Q : ℕ → Type 0 = λ n. All (λ f. f < n) c.branch-item.result.body in
    subst P (sym c.as_slice.ensures) (subst Q (sym c.loop-branch.invariant.size)
    (all_flat (λ f. f < length c.args.marks.now)
    (λ (b : Branch). b.body) c.args.branches.now c.loop-branch.branch-index c.branch-item.result c.requires
    (entry c.args.branches.now c.loop-branch.branch-index (omega arith) c.branch-item.is)))

pub loop-branch-preserved : goal.loop-branch-preserved
loop-branch-preserved c =
    let i : ℕ = c.loop-branch.branch-index in
    let M : List ℕ
    → Type 0 = λ xs. IsMarking xs c.args.number c.loop-branch.next c.loop-branch.marks c.mark_forms-next.new.marks
    c.mark_forms-next.result in
    let P : List ℕ
    → Type 0 = λ xs. IsMarking xs c.args.number c.args.end c.args.marks.now c.mark_forms-next.new.marks
    c.mark_forms-next.result in
    subst P (sym (bodies_more c.args.branches.now i c.branch-item.result
    (entry c.args.branches.now i (omega arith) c.branch-item.is)))
    (marking_append
    (flat_map (λ (b : Branch). b.body) (take i c.args.branches.now)) c.branch-item.result.body c.args.number c.args.end
    c.args.marks.now c.loop-branch.marks c.mark_forms-next.new.marks
    c.loop-branch.next c.mark_forms-next.result c.loop-branch.invariant
    (subst M c.as_slice.ensures c.mark_forms-next.ensures))

pub returns : goal.returns
returns c =
    let P : List ℕ
    → Type 0 = λ xs. IsMarking xs c.args.number c.args.end c.args.marks.now c.loop-branch.marks c.loop-branch.next in
    subst P (bodies_all c.args.branches.now c.loop-branch.branch-index (omega arith)) c.loop-branch.invariant
