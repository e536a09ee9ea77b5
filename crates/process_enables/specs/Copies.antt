-- The copies of a program's expressions.
use Rattle.std.specs.Prelude.{◌≡◌, ◌⊎◌, ℕ, ◌+◌, ◌≤◌, List, [], ◌∷◌, true, length, drop}
use Rattle.mp_base.specs.declared.op.Op.TheVariants.{Not}
use Rattle.mp_program.specs.declared.program.What.TheVariants.{Constant}
use Rattle.mp_program.specs.declared.program.Def.{Def}
use Rattle.mp_program.specs.declared.program.Expr.{Expr}
use Rattle.mp_program.specs.declared.program.Program.{Program}
use Rattle.mp_base.specs.Entries.{IsAt}
use Rattle.rtl_form.specs.declared.rtl.Cell as cells
use Rattle.rtl_form.specs.declared.rtl.RtlExpr.{RtlExpr}
use Rattle.rtl_form.specs.declared.rtl.RtlExpr.TheVariants.{Number, Truth, Cell, Apply}
use Rattle.rtl_form.specs.Cost.{expr_cost}
use Rattle.process_plan.specs.declared.role.Role.{Role}
use Rattle.process_plan.specs.declared.role.Role.TheVariants.{Value}
use Rattle.process_plan.specs.Bill.{copy_bill, copies_bill, exprs_cost}
use Rattle.process_plan.specs.Enables.{copy_of, IsCopy}
use Rattle.process_plan.specs.Fits.{ExprsFit}

-- expression 0 is true, and expression 1 isn't
abbrev pub HasTruth : List RtlExpr → Type 0
HasTruth exprs = IsAt exprs 0 (Truth true) × IsAt exprs 1 (Apply Not 0 (0 ∷ []))

-- what a name of the definition d becomes
abbrev pub IsNamedCopy : Program → List Role → ℕ → RtlExpr → Type 0
IsNamedCopy p roles d y = (x : Def) × IsAt p.defs d x
    × (((n : ℕ) × (x.what ≡ Constant n) × (y ≡ Number n)) ⊎ ((c : ℕ) × IsAt roles c (Value d) × (y ≡ Cell c)))

-- y is the copy of expression e, at no more than its cost
abbrev pub IsCopyAt : Program → List Role → ℕ → RtlExpr → Type 0
IsCopyAt p roles e y = (x : Expr) × IsAt p.exprs e x × IsCopy p roles x.kind y × (expr_cost y ≤ copy_bill p x.kind)

-- the copies of the expressions from index i on, behind the expression that is true and its negation
pub record AreCopiedFrom (p : Program) (roles : List Role) (xs : List cells.Cell) (i : ℕ) (exprs : List RtlExpr)
    : Type 0 where
  pub truth : HasTruth exprs
  pub size : length exprs + i ≡ length p.exprs + 2
  pub copies : (e : ℕ) (x : Expr) → i ≤ e → IsAt p.exprs e x
      → (y : RtlExpr) × IsAt exprs (copy_of p e) y × IsCopy p roles x.kind y
  pub fits : ExprsFit p.width xs exprs
  pub cost : exprs_cost exprs ≤ 2 + copies_bill p (drop i p.exprs)
