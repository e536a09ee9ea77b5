use Rattle.std.proofs.Common.{ℕ, List, sym, subst}
use Rattle.std.specs.List.{flat_map}
use Rattle.mp_program.specs.declared.program.FormKind.{FormKind}
use Rattle.mp_program.specs.declared.program.Branch.{Branch}
use Rattle.mp_program.specs.Weight.{inner}
use Rattle.mp_rules.specs.Breaking.{IsEarliest}
use Rattle.mp_transfers.specs.Tables.{IsAmong}
use Rattle.mp_transfers.proofs.Earliest.{from_none}
use Rattle.mp_transfers.proofs.tables.least_inside.Goals as goal

pub returns-in-Par : goal.returns-in-Par
returns-in-Par c =
    let P : FormKind → Type 0 = λ k. IsEarliest (IsAmong c.args.table.now (inner k)) c.least.result in
    let Q : List ℕ → Type 0 = λ xs. IsEarliest (IsAmong c.args.table.now xs) c.least.result in
    subst P (sym c.in-Par.is)
    (subst Q c.as_slice.ensures
    (from_none (IsAmong c.args.table.now c.as_slice.result.now) c.least.result c.least.ensures))

pub returns-in-Cond : goal.returns-in-Cond
returns-in-Cond c =
    let P : FormKind → Type 0 = λ k. IsEarliest (IsAmong c.args.table.now (inner k)) c.least_of_branches.result in
    let Q : List Branch
    → Type 0 = λ bs. IsEarliest
    (IsAmong c.args.table.now (flat_map (λ (b : Branch). b.body) bs)) c.least_of_branches.result in
    subst P (sym c.in-Cond.is) (subst Q c.as_slice-in-Cond.ensures c.least_of_branches.ensures)
