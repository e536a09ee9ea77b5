-- Transfers that fit together.
use Rattle.std.specs.Prelude.{◌≡◌, ◌≢◌, ◌⊎◌, ℕ, ◌<◌, ◌≤◌, ◌^◌, List, Bool, true, false, IfSome, IsSome, ◌==◌, not}
use Rattle.std.specs.Prelude.{codes, length, slice_index, Contains}
use Rattle.mp_base.specs.declared.op.Op.{Op}
use Rattle.mp_base.specs.declared.op.Op.TheVariants.{Bit}
use Rattle.mp_base.specs.declared.pad.Pad.{Pad}
use Rattle.rtl_form.specs.declared.rtl.CellKind.{CellKind}
use Rattle.rtl_form.specs.declared.rtl.CellKind.TheVariants.{Input, Output, Inner, Stored}
use Rattle.rtl_form.specs.declared.rtl.Cell as cells
use Rattle.rtl_form.specs.declared.rtl.Transfer.{Transfer}
use Rattle.rtl_form.specs.declared.rtl.RtlExpr.{RtlExpr}
use Rattle.rtl_form.specs.declared.rtl.RtlExpr.TheVariants.{Number, Truth, Cell, Apply}
use Rattle.rtl_form.specs.declared.rtl.Rtl.{Rtl}
use Rattle.mp_base.specs.Entries.{IsAt}
use Rattle.rtl_form.specs.Operands.{takes_words, gives_word}
use Rattle.mp_base.specs.Apply.{takes}
use Rattle.rtl_form.specs.Environment.{is_driven}
use Rattle.rtl_form.specs.Trace.{stores}

-- an expression is a word, or else a bit
abbrev pub IsSort : List cells.Cell → RtlExpr → Bool → Type 0
IsSort xs (Number n) word = word ≡ true
IsSort xs (Truth b) word = word ≡ false
IsSort xs (Cell c) word = (x : cells.Cell) × IsAt xs c x × (word ≡ x.word)
IsSort xs (Apply op index args) word = word ≡ gives_word op

-- the expression at an index is a word, or else a bit
abbrev pub HasSort : Rtl → ℕ → Bool → Type 0
HasSort r e word = (x : RtlExpr) × IsAt r.exprs e x × IsSort r.cells x word

-- an operator's index, which counts for `bit` alone
abbrev pub IndexFits : ℕ → Op → ℕ → Type 0
IndexFits w Bit index = index < w
IndexFits w _ index = Unit {0}

-- the expression at e
abbrev pub ExprFits : Rtl → ℕ → RtlExpr → Type 0
ExprFits r e (Number n) = n < 2 ^ r.width
ExprFits r e (Truth b) = Unit {0}
ExprFits r e (Cell c) = c < length r.cells
ExprFits r e (Apply op index args) =
    (takes op (length args) ≡ true) × IndexFits r.width op index
    × ((a : ℕ) → Contains args a → (a < e) × HasSort r a (takes_words op))

-- a transfer: its guard is a bit, and its value of the sort of its target, which is no input
abbrev pub TransferFits : Rtl → Transfer → Type 0
TransferFits r t =
    HasSort r t.guard false
    × ((x : cells.Cell) × IsAt r.cells t.target x × HasSort r t.value x.word × ((k : ℕ) → x.kind ≢ Input k))

-- a cell has a pad of this list, of its sort
abbrev pub IsCellOf : List Pad → ℕ → Bool → Type 0
IsCellOf pads k word = (pad : Pad) × IsAt pads k pad × (word ≡ not (pad.width == 0))

abbrev pub CellFits : Rtl → cells.Cell → CellKind → Type 0
CellFits r x (Input k) = IsCellOf (r.pads).inputs k x.word
CellFits r x (Output k) = IsCellOf (r.pads).outputs k x.word
CellFits r x Inner = Unit {0}
CellFits r x Stored = Unit {0}

-- exactly one cell is of this kind
abbrev pub IsOnly : List cells.Cell → CellKind → Type 0
IsOnly xs kind = (c : ℕ) × ((x : cells.Cell) × IsAt xs c x × (x.kind ≡ kind))
    × ((d : ℕ) (y : cells.Cell) → IsAt xs d y → y.kind ≡ kind → d ≡ c)

-- the expression at an index reads a cell: it is that cell, or an argument of it reads the cell
pub data ReadsCell (exprs : List RtlExpr) (c : ℕ) : ℕ → Type 0 where
  itself : (e : ℕ) → IsAt exprs e (Cell c) → ReadsCell exprs c e
  inside : (e a : ℕ) (op : Op) (index : ℕ) (args : List ℕ) → IsAt exprs e (Apply op index args) → Contains args a
      → ReadsCell exprs c a
      → ReadsCell exprs c e

-- a transfer to the cell t reads the cell c, and both are driven
abbrev pub Reads : Rtl → ℕ → ℕ → Type 0
Reads r t c = (x : Transfer) × (y : cells.Cell) × Contains r.transfers x × (x.target ≡ t) × IsAt r.cells c y
    × (is_driven y.kind ≡ true)
    × (ReadsCell r.exprs c x.guard ⊎ ReadsCell r.exprs c x.value)

-- an order of evaluation: the driven cells, each once, each after all that its transfers read
pub record IsOrder (r : Rtl) : Type 0 where
  pub driven : (k : ℕ) → k < length r.order
      → (x : cells.Cell) × IsAt r.cells (slice_index r.order k) x × (is_driven x.kind ≡ true)
  pub once : (j k : ℕ) → j < k → k < length r.order → slice_index r.order j ≢ slice_index r.order k
  pub all : (c : ℕ) (x : cells.Cell) → IsAt r.cells c x → is_driven x.kind ≡ true
      → (k : ℕ) × (k < length r.order) × (slice_index r.order k ≡ c)
  pub after : (k c : ℕ) → k < length r.order → Reads r (slice_index r.order k) c
      → (j : ℕ) × (j < k) × (slice_index r.order j ≡ c)

-- the cell of the signal input `reset`
abbrev pub IsReset : Rtl → ℕ → Type 0
IsReset r c = (x : cells.Cell) × (k : ℕ) × (pad : Pad) × IsAt r.cells c x × (x.kind ≡ Input k)
    × IsAt (r.pads).inputs k pad
    × (pad.width ≡ 0) × (pad.name ≡ codes "reset")

-- transfers that fit together
pub record IsSound (r : Rtl) : Type 0 where
  pub width : (1 ≤ r.width) × (r.width ≤ 64)
  pub inputs : (k : ℕ) (pad : Pad) → IsAt (r.pads).inputs k pad → (pad.width ≡ r.width) ⊎ (pad.width ≡ 0)
  pub outputs : (k : ℕ) (pad : Pad) → IsAt (r.pads).outputs k pad → (pad.width ≡ r.width) ⊎ (pad.width ≡ 0)
  pub input_cells : (k : ℕ) → k < length (r.pads).inputs → IsOnly r.cells (Input k)
  pub output_cells : (k : ℕ) → k < length (r.pads).outputs → IsOnly r.cells (Output k)
  pub cells : (c : ℕ) (x : cells.Cell) → IsAt r.cells c x → CellFits r x x.kind
  pub exprs : (e : ℕ) (x : RtlExpr) → IsAt r.exprs e x → ExprFits r e x
  pub transfers : (t : Transfer) → Contains r.transfers t → TransferFits r t
  pub order : IsOrder r
  pub reset : IfSome r.reset (IsReset r)
  pub resets : stores r ≡ true → IsSome r.reset
