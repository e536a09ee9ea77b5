-- What the steps from a program to its transfers hand on.
use Rattle.std.specs.Prelude.{◌≡◌, ◌≤◌, ℕ, ◌+◌, List, [], ◌∷◌, true, false, length}
use Rattle.std.specs.List.{sum_by}
use Rattle.mp_base.specs.declared.op.Op.TheVariants.{Not}
use Rattle.mp_program.specs.declared.program.Expr.{Expr}
use Rattle.mp_program.specs.declared.program.Process.{Process}
use Rattle.mp_program.specs.declared.program.Program.{Program}
use Rattle.mp_program.specs.Weight.{calls_in}
use Rattle.mp_base.specs.Entries.{IsAt}
use Rattle.rtl_form.specs.declared.rtl.Cell as cells
use Rattle.rtl_form.specs.declared.rtl.RtlExpr.{RtlExpr}
use Rattle.rtl_form.specs.declared.rtl.RtlExpr.TheVariants.{Truth, Apply}
use Rattle.rtl_form.specs.declared.rtl.Transfer.{Transfer}
use Rattle.process_plan.specs.declared.role.Role.{Role}
use Rattle.process_plan.specs.declared.enable.Origin.{Origin}
use Rattle.process_plan.specs.Enables.{HasEnable, AreEnables, IsPlaceExpr, copy_of, IsCopy}
use Rattle.process_plan.specs.Plan.{AreTransfers, is_call}
use Rattle.process_plan.specs.Fits.{ExprsFit, HasSortIn}
use Rattle.process_plan.specs.Bill.{
  Tally,
  first_bill,
  copies_bill,
  exprs_cost,
  forms_bill,
  transfers_bill,
  transfers_cost,
}
use Rattle.process_layout.specs.declared.enabling.Enabling.{Enabling}
use Rattle.process_layout.specs.Counts.{count_of, guards_of, tallies_of}

-- what stood in a list stands there still
abbrev pub Keeps : {X : Type 0} → List X → List X → Type 0
Keeps {X} xs ys = (k : ℕ) (x : X) → IsAt xs k x → IsAt ys k x

-- the expressions of a program, and when its forms are active
pub record IsEnabling (p : Program) (roles : List Role) (xs : List cells.Cell) (e : Enabling) : Type 0 where
  pub truth : IsAt e.exprs 0 (Truth true) × IsAt e.exprs 1 (Apply Not 0 (0 ∷ []))
  pub copies : (n : ℕ) (x : Expr) → IsAt p.exprs n x
      → (y : RtlExpr) × IsAt e.exprs (copy_of p n) y × IsCopy p roles x.kind y
  pub enabled : AreEnables p e.exprs roles e.enables
  -- an expression for each place of each process
  pub processes : length e.places ≡ length p.processes
  pub sizes : (k : ℕ) (q : Process) (es : List ℕ) → IsAt p.processes k q → IsAt e.places k es
      → length es ≡ length q.forms
  pub places : (k i a : ℕ) (es : List ℕ) → IsAt e.places k es → IsAt es i a → IsPlaceExpr p e.exprs roles k i a
  -- all expressions fit, and these are bits
  pub fits : ExprsFit p.width xs e.exprs
  pub enable_bits : (f a : ℕ) (o : Origin) → HasEnable e.enables f o a → HasSortIn xs e.exprs a false
  pub place_bits : (k i a : ℕ) (es : List ℕ) → IsAt e.places k es → IsAt es i a → HasSortIn xs e.exprs a false
  pub cost : exprs_cost e.exprs ≤ 2 + copies_bill p p.exprs + guards_of p.forms e.enables
      + sum_by (λ (q : Process). first_bill (length q.forms)) p.processes
  -- no more forms that call are active in a process than are weighed
  pub called : (k : ℕ) (q : Process) → IsAt p.processes k q
      → count_of is_call k p.forms e.enables ≤ sum_by (calls_in p) q.forms

-- what moves of a process cost in expressions: falls, calls and returns
abbrev pub moves_cost : Tally → ℕ
moves_cost t = t.parted + (t.goes + t.calls + t.backs) + t.calls + t.backs

-- all transfers, and the expressions that they need beyond those of an enabling
pub record IsTransferring (p : Program) (roles : List Role) (xs : List cells.Cell) (e : Enabling)
    (exprs : List RtlExpr) (transfers : List Transfer) : Type 0 where
  pub kept : Keeps e.exprs exprs
  pub all : AreTransfers p exprs roles e.enables transfers
  pub fits : ExprsFit p.width xs exprs
  pub cost : exprs_cost exprs ≤ exprs_cost e.exprs + sum_by moves_cost (tallies_of p e.enables 0 p.processes)
  pub moved : transfers_cost xs transfers
      ≤ forms_bill p.defs p.forms + sum_by transfers_bill (tallies_of p e.enables 0 p.processes)
