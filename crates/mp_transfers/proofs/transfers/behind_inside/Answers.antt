use Rattle.std.proofs.Common.{◌≡◌, ◌⊎◌, inl, inr, ℕ, zero, suc, List, [], ◌∷◌, Option, Some, map, arith, refl, sym}
use Rattle.std.proofs.Common.{subst}
use Rattle.mp_base.specs.declared.refusal.Place.{Place}
use Rattle.mp_program.specs.declared.program.FormKind.{FormKind}
use Rattle.mp_program.specs.declared.program.Branch.{Branch}
use Rattle.mp_rules.specs.Breaking.{IsEarliest}
use Rattle.mp_rules.specs.Standing.{sequences}
use Rattle.mp_transfers.specs.Tables.{IsBehind, IsBehindInOne}
use Rattle.mp_rules.proofs.EarliestPlaces.{earliest_same}
use Rattle.mp_transfers.proofs.transfers.behind_inside.Goals as goal

only_one : (table : List (Option Place)) (forms : List ℕ) (at : Place) → IsBehindInOne table (forms ∷ []) at
    → IsBehind table forms at
only_one table forms at (xs, (zero, lt, is), behind) = let P : List ℕ → Type 0 = λ ys. IsBehind table ys at in
    subst P (sym is) behind
only_one table forms at (xs, (suc k, lt, is), behind) = absurd (omega (arith, lt))

pub returns-in-Par : goal.returns-in-Par
returns-in-Par c =
    let P : FormKind
    → Type 0 = λ k. IsEarliest
    (λ at. (c.args.found ≡ Some at) ⊎ IsBehindInOne c.args.table.now (sequences k) at) c.behind_first.result in
    let Q : List ℕ
    → Type 0 = λ xs. IsEarliest
    (λ at. (c.args.found ≡ Some at) ⊎ IsBehind c.args.table.now xs at) c.behind_first.result in
    subst P (sym c.in-Par.is)
    (earliest_same (λ at. (c.args.found ≡ Some at) ⊎ IsBehind c.args.table.now c.in-Par.forms at)
    (λ at. (c.args.found ≡ Some at) ⊎ IsBehindInOne c.args.table.now (c.in-Par.forms ∷ []) at) c.behind_first.result
    (subst Q c.as_slice.ensures c.behind_first.ensures)
    (λ at there. elim there [ inl e ↦ inl e | inr behind ↦ inr (c.in-Par.forms, (0, omega arith, refl), behind) ])
    (λ at there. elim there [ inl e ↦ inl e | inr behind ↦ inr (only_one c.args.table.now c.in-Par.forms at behind) ]))

pub returns-in-Cond : goal.returns-in-Cond
returns-in-Cond c =
    let P : FormKind
    → Type 0 = λ k. IsEarliest
    (λ at. (c.args.found ≡ Some at) ⊎ IsBehindInOne c.args.table.now (sequences k) at) c.behind_in_branches.result in
    let Q : List Branch
    → Type 0 = λ bs. IsEarliest
    (λ at. (c.args.found ≡ Some at) ⊎ IsBehindInOne c.args.table.now (map (λ (b : Branch). b.body) bs) at)
    c.behind_in_branches.result in
    subst P (sym c.in-Cond.is) (subst Q c.as_slice-in-Cond.ensures c.behind_in_branches.ensures)
