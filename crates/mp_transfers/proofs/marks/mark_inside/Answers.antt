use Rattle.std.proofs.Common.{ℕ, List, sym, subst}
use Rattle.std.specs.List.{flat_map}
use Rattle.mp_program.specs.declared.program.FormKind.{FormKind}
use Rattle.mp_program.specs.declared.program.Branch.{Branch}
use Rattle.mp_program.specs.Weight.{inner}
use Rattle.mp_transfers.specs.Marks.{IsMarking}
use Rattle.mp_transfers.proofs.marks.mark_inside.Goals as goal

pub returns-in-Cond : goal.returns-in-Cond
returns-in-Cond c =
    let P : List ℕ
    → Type 0 = λ xs. IsMarking xs c.args.number c.args.end c.args.marks.now c.mark_branches.new.marks
    c.mark_branches.result in
    let Q : FormKind → Type 0 = λ k. P (inner k) in
    let R : List Branch → Type 0 = λ bs. P (flat_map (λ (b : Branch). b.body) bs) in
    subst Q (sym c.in-Cond.is) (subst R c.as_slice-in-Cond.ensures c.mark_branches.ensures)
