-- The expressions that tell at which places processes are.
use Rattle.std.specs.Prelude.{◌≡◌, ◌⊎◌, ℕ, ◌+◌, ◌<◌, ◌≤◌, List, [], false, length, take}
use Rattle.std.specs.List.{sum_by}
use Rattle.mp_base.specs.declared.op.Op.TheVariants.{Nor}
use Rattle.mp_program.specs.declared.program.Process.{Process}
use Rattle.mp_program.specs.declared.program.Program.{Program}
use Rattle.mp_base.specs.Entries.{IsAt}
use Rattle.rtl_form.specs.declared.rtl.Cell as cells
use Rattle.rtl_form.specs.declared.rtl.RtlExpr.{RtlExpr}
use Rattle.rtl_form.specs.declared.rtl.RtlExpr.TheVariants.{Apply}
use Rattle.process_plan.specs.declared.role.Role.{Role}
use Rattle.process_plan.specs.Bill.{first_bill, exprs_cost}
use Rattle.process_plan.specs.Enables.{IsPlaceExpr}
use Rattle.process_plan.specs.Fits.{ExprsFit, HasSortIn}
use Rattle.process_layout.specs.Steps.{Keeps}
use Rattle.process_enables.specs.Adding.{IsPut}

-- expressions were added that still fit, at no more than this cost
pub record Adds (w : ℕ) (xs : List cells.Cell) (bill : ℕ) (exprs more : List RtlExpr) : Type 0 where
  pub kept : Keeps exprs more
  pub fits : ExprsFit w xs exprs → ExprsFit w xs more
  pub cost : exprs_cost more ≤ exprs_cost exprs + bill

-- a is 1 where none of these is; it is the expression that is true where there are none of these
abbrev pub PutsFirst : List ℕ → List RtlExpr → List RtlExpr → ℕ → Type 0
PutsFirst es exprs more a =
    ((es ≡ []) × (more ≡ exprs) × (a ≡ 0)) ⊎ ((0 < length es) × IsPut exprs (Apply Nor 0 es) more a)

-- es are expressions of places of process k, that of place 0 first
abbrev pub ArePlaces : Program → List Role → List cells.Cell → List RtlExpr → ℕ → List ℕ → Type 0
ArePlaces p roles xs exprs k es = (i a : ℕ) → IsAt es i a
    → IsPlaceExpr p exprs roles k i a × HasSortIn xs exprs a false

-- es are the expressions of all places of process k
pub record PutsPlaces (p : Program) (roles : List Role) (xs : List cells.Cell) (k : ℕ) (exprs more : List RtlExpr)
    (es : List ℕ) : Type 0 where
  pub added : (q : Process) → IsAt p.processes k q
      → Adds p.width xs (first_bill (length q.forms)) exprs more × (length es ≡ length q.forms)
  pub places : ArePlaces p roles xs more k es

-- ess are those of each of the first n processes
pub record PutsAllPlaces (p : Program) (roles : List Role) (xs : List cells.Cell) (n : ℕ) (exprs more : List RtlExpr)
    (ess : List (List ℕ)) : Type 0 where
  pub added : Adds p.width xs (sum_by (λ (q : Process). first_bill (length q.forms)) (take n p.processes)) exprs more
  pub size : length ess ≡ n
  pub sizes : (k : ℕ) (q : Process) (es : List ℕ) → IsAt p.processes k q → IsAt ess k es → length es ≡ length q.forms
  pub places : (k : ℕ) (es : List ℕ) → IsAt ess k es → ArePlaces p roles xs more k es
