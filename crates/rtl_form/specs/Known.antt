-- What passes along expressions and transfers reaches every cell.
use Rattle.std.specs.Prelude.{◌≡◌, ◌<◌, ℕ, Bool, true, false, All, Contains, length}
use Rattle.rtl_form.specs.declared.rtl.Cell as cells
use Rattle.rtl_form.specs.declared.rtl.Transfer.{Transfer}
use Rattle.rtl_form.specs.declared.rtl.RtlExpr.{RtlExpr}
use Rattle.rtl_form.specs.declared.rtl.RtlExpr.TheVariants.{Number, Truth, Cell, Apply}
use Rattle.rtl_form.specs.declared.rtl.Rtl.{Rtl}
use Rattle.mp_base.specs.Entries.{IsAt}
use Rattle.rtl_form.specs.Environment.{is_driven}
use Rattle.rtl_form.specs.Sound.{IsSound}

-- what an expression reads holds, where E says so of expressions and C of cells
abbrev pub Ready : (ℕ → Type 0) → (ℕ → Type 0) → RtlExpr → Type 0
Ready E C (Number n) = Unit {0}
Ready E C (Truth b) = Unit {0}
Ready E C (Cell c) = C c
Ready E C (Apply op index args) = All E args

-- it passes along expressions, and from the transfers to each driven cell
pub record Passes (r : Rtl) (E C : ℕ → Type 0) : Type 0 where
  pub base : (c : ℕ) (x : cells.Cell) → IsAt r.cells c x → is_driven x.kind ≡ false → C c
  pub exprs : (e : ℕ) (x : RtlExpr) → IsAt r.exprs e x → Ready E C x → E e
  pub driven : (c : ℕ) (x : cells.Cell) → IsAt r.cells c x → is_driven x.kind ≡ true
      → ((t : Transfer) → Contains r.transfers t → t.target ≡ c → E t.guard × E t.value) → C c

-- it reaches all
pub record Reached (r : Rtl) (E C : ℕ → Type 0) : Type 0 where
  pub cells : (c : ℕ) → c < length r.cells → C c
  pub exprs : (e : ℕ) → e < length r.exprs → E e

-- the same of tests, as a law
abbrev pub AllKnown : Type 0
AllKnown = (r : Rtl) → IsSound r → (e c : ℕ → Bool) → Passes r (λ n. e n ≡ true) (λ n. c n ≡ true)
    → Reached r (λ n. e n ≡ true) (λ n. c n ≡ true)
