-- Soundness in parts.
use Rattle.std.specs.Prelude.{◌≡◌, ◌⊎◌, ℕ, ◌<◌, ◌≤◌, List, Bool, true, All, codes, IfSome, IsSome, length, slice_index}
use Rattle.mp_base.specs.declared.op.Op.{Op}
use Rattle.mp_base.specs.declared.pad.Pad.{Pad}
use Rattle.rtl_form.specs.declared.rtl.Cell as cells
use Rattle.rtl_form.specs.declared.rtl.CellKind.{CellKind}
use Rattle.rtl_form.specs.declared.rtl.CellKind.TheVariants.{Input, Output}
use Rattle.rtl_form.specs.declared.rtl.Rtl.{Rtl}
use Rattle.rtl_form.specs.declared.rtl.Transfer.{Transfer}
use Rattle.mp_base.specs.Entries.{IsAt}
use Rattle.rtl_form.specs.Operands.{takes_words}
use Rattle.mp_base.specs.Apply.{takes}
use Rattle.rtl_form.specs.Sound.{CellFits, HasSort, IndexFits, IsOnly, TransferFits}
use Rattle.rtl_form.specs.Trace.{stores}
use Rattle.rtl_check.specs.Reading.{ExprsFit, HasOrder}

-- an argument of the expression at an index stands before it, and is a word, or else a bit
pub record ArgFits (r : Rtl) (index : ℕ) (word : Bool) (a : ℕ) : Type 0 where
  pub before : a < index
  pub sort : HasSort r a word

-- all arguments do
pub record ArgsFit (r : Rtl) (index : ℕ) (words : Bool) (args : List ℕ) : Type 0 where
  pub each : (k : ℕ) → k < length args → ArgFits r index words (slice_index args k)

-- the expression at an index that applies an operator fits
pub record ApplyFits (r : Rtl) (e : ℕ) (op : Op) (index : ℕ) (args : List ℕ) : Type 0 where
  pub taken : takes op (length args) ≡ true
  pub index_fits : IndexFits r.width op index
  pub args_fit : ArgsFit r e (takes_words op) args

-- a transfer fits
pub record IsFitting (r : Rtl) (t : Transfer) : Type 0 where
  pub fits : TransferFits r t

-- all transfers fit
pub record AreFitting (r : Rtl) : Type 0 where
  pub each : (k : ℕ) (t : Transfer) → IsAt r.transfers k t → IsFitting r t

-- exactly one cell is of this kind
pub record HasOne (xs : List cells.Cell) (kind : CellKind) : Type 0 where
  pub only : IsOnly xs kind

-- exactly one cell is of each of so many input pads
pub record HaveInputs (xs : List cells.Cell) (count : ℕ) : Type 0 where
  pub each : (k : ℕ) → k < count → HasOne xs (Input k)

-- exactly one cell is of each of so many output pads
pub record HaveOutputs (xs : List cells.Cell) (count : ℕ) : Type 0 where
  pub each : (k : ℕ) → k < count → HasOne xs (Output k)

-- the pads of a list have this width, or the width 0
abbrev pub HaveWidth : ℕ → List Pad → Type 0
HaveWidth w pads = All (λ (pad : Pad). (pad.width ≡ w) ⊎ (pad.width ≡ 0)) pads

-- all pads do
pub record PadsHaveWidth (r : Rtl) : Type 0 where
  pub inputs : HaveWidth r.width (r.pads).inputs
  pub outputs : HaveWidth r.width (r.pads).outputs

-- each pad has exactly one cell
pub record PadsHaveCells (r : Rtl) : Type 0 where
  pub inputs : HaveInputs r.cells (length (r.pads).inputs)
  pub outputs : HaveOutputs r.cells (length (r.pads).outputs)

-- all cells fit their pads, where they are of one
pub record CellsFit (r : Rtl) : Type 0 where
  pub each : (c : ℕ) (x : cells.Cell) → IsAt r.cells c x → CellFits r x x.kind

-- pads and cells go together
pub record HasPads (r : Rtl) : Type 0 where
  pub widths : PadsHaveWidth r
  pub of_pads : PadsHaveCells r
  pub fits : CellsFit r

-- the input signal `reset`
abbrev pub IsResetPad : Pad → Type 0
IsResetPad pad = (pad.width ≡ 0) × (pad.name ≡ codes "reset")

-- a kind is that of the input signal `reset`
pub record IsResetKind (pads : List Pad) (kind : CellKind) : Type 0 where
  pub number : ℕ
  pub pad : Pad
  pub input : kind ≡ Input number
  pub at : IsAt pads number pad
  pub reset : IsResetPad pad

-- the cell at an index is that of the input signal `reset`
pub record IsResetCell (r : Rtl) (c : ℕ) : Type 0 where
  pub cell : cells.Cell
  pub at : IsAt r.cells c cell
  pub kind : IsResetKind (r.pads).inputs cell.kind

-- there is the `reset` that stored cells want
pub record HasReset (r : Rtl) : Type 0 where
  pub reset : IfSome r.reset (IsResetCell r)
  pub resets : stores r ≡ true → IsSome r.reset

-- the width is one, and pads, cells and `reset` go together
pub record HasPorts (r : Rtl) : Type 0 where
  pub some : 1 ≤ r.width
  pub narrow : r.width ≤ 64
  pub pads : HasPads r
  pub reset : HasReset r

-- expressions and transfers fit, and the order of evaluation is one
pub record HasContents (r : Rtl) : Type 0 where
  pub exprs : ExprsFit r
  pub transfers : AreFitting r
  pub order : HasOrder r
