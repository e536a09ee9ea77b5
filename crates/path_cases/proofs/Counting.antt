-- The cost of the counter.
use Rattle.std.proofs.Common.{◌≡◌, ◌≤◌, ◌+◌, ℕ, List, refl, sym, subst, arith}
use Rattle.std.specs.List.{sum_by}
use Rattle.rtl_form.specs.Cost.{cell_cost, expr_cost, transfer_cost, cost}
use Rattle.rtl_form.specs.declared.rtl.Cell as cells
use Rattle.rtl_form.specs.declared.rtl.Rtl.{Rtl}
use Rattle.rtl_form.specs.declared.rtl.RtlExpr.{RtlExpr}
use Rattle.rtl_form.specs.declared.rtl.Transfer.{Transfer}
use Rattle.path_cases.specs.Counter.{IsCounter, counter_cells, counter_exprs, counter_transfers}

abbrev total : List cells.Cell → List RtlExpr → List Transfer → ℕ
total xs es ts =
    sum_by (λ (x : cells.Cell). cell_cost x.kind) xs + sum_by expr_cost es + sum_by (transfer_cost xs) ts

counter_is : total counter_cells counter_exprs counter_transfers ≡ 27
counter_is = refl

pub counter_light : (r : Rtl) → IsCounter r → cost r ≤ 1024
counter_light r counter =
    subst (λ ys. total ys r.exprs r.transfers ≤ 1024) (sym counter.cells)
    (subst (λ ys. total counter_cells ys r.transfers ≤ 1024) (sym counter.exprs)
    (subst (λ ys. total counter_cells counter_exprs ys ≤ 1024) (sym counter.transfers)
    (let e = counter_is in omega (arith, e))))
