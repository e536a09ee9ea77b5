-- What expressions read.
use Rattle.std.specs.Prelude.{◌≡◌, ℕ, ◌≢◌, ◌<◌, List, [], true, All, Contains, length, slice_index, take}
use Rattle.rtl_form.specs.declared.rtl.Cell as cells
use Rattle.rtl_form.specs.declared.rtl.Rtl.{Rtl}
use Rattle.rtl_form.specs.declared.rtl.RtlExpr.{RtlExpr}
use Rattle.rtl_form.specs.declared.rtl.RtlExpr.TheVariants.{Cell, Apply}
use Rattle.rtl_form.specs.declared.rtl.Transfer.{Transfer}
use Rattle.mp_base.specs.Entries.{IsAt}
use Rattle.rtl_form.specs.Environment.{is_driven}
use Rattle.rtl_form.specs.Sound.{ExprFits, ReadsCell}

-- all expressions fit, so that arguments stand before what takes them
abbrev pub ExprsFit : Rtl → Type 0
ExprsFit r = (e : ℕ) (x : RtlExpr) → IsAt r.exprs e x → ExprFits r e x

-- the cell at an index is driven
pub record IsDriven (xs : List cells.Cell) (c : ℕ) : Type 0 where
  pub cell : cells.Cell
  pub at : IsAt xs c cell
  pub driven : is_driven cell.kind ≡ true

-- a cell stands in an order
pub record HasPlace (order : List ℕ) (c : ℕ) : Type 0 where
  pub place : ℕ
  pub inside : place < length order
  pub there : slice_index order place ≡ c

-- no cell stands twice
pub record AreDistinct (order : List ℕ) : Type 0 where
  pub once : (j k : ℕ) → j < k → k < length order → slice_index order j ≢ slice_index order k

-- each driven cell stands in the order
pub record HasAllDriven (r : Rtl) : Type 0 where
  pub all : (c : ℕ) (x : cells.Cell) → IsAt r.cells c x → is_driven x.kind ≡ true → HasPlace r.order c

-- the arguments of an expression
abbrev pub operands_of : RtlExpr → List ℕ
operands_of (Apply op index args) = args
operands_of _ = []

-- an expression, if it is a driven cell, is in a list
abbrev pub IsKnown : List cells.Cell → List ℕ → RtlExpr → Type 0
IsKnown xs known (Cell c) = IsDriven xs c → Contains known c
IsKnown xs known _ = Unit {0}

-- of driven cells, the expression at e reads none but those in a list
pub record ReadsOnly (r : Rtl) (known : List ℕ) (e : ℕ) : Type 0 where
  pub only : (c : ℕ) → IsDriven r.cells c → ReadsCell r.exprs c e → Contains known c

-- guard and value of a transfer do
pub record BothReadOnly (r : Rtl) (known : List ℕ) (t : Transfer) : Type 0 where
  pub guard : ReadsOnly r known t.guard
  pub value : ReadsOnly r known t.value

-- wherever the target of a transfer stands in the order, what the transfer reads stands before it
pub record ReadsBefore (r : Rtl) (t : Transfer) : Type 0 where
  pub before : (k : ℕ) → k < length r.order → slice_index r.order k ≡ t.target → BothReadOnly r (take k r.order) t

-- no transfer reads what doesn't stand before its target
pub record AllReadBefore (r : Rtl) : Type 0 where
  pub each : (k : ℕ) (t : Transfer) → IsAt r.transfers k t → ReadsBefore r t

-- the order has each driven cell once, and no others
pub record ListsDriven (r : Rtl) : Type 0 where
  pub driven : All (IsDriven r.cells) r.order
  pub once : AreDistinct r.order
  pub all : HasAllDriven r

-- the order of evaluation is one
pub record HasOrder (r : Rtl) : Type 0 where
  pub lists : ListsDriven r
  pub before : AllReadBefore r
