-- When a path in the making is a path, and which.
use Rattle.std.specs.Prelude.{◌≡◌, ◌≢◌, ◌≤◌, ◌<◌, ◌+◌, ℕ, List, [], Some, true, false, Contains, length, slice_get, ◌*◌}
use Rattle.std.specs.Prelude.{slice_set}
use Rattle.nor_net.specs.declared.net.NetId.{NetId}
use Rattle.nor_net.specs.Shape.{IsNet, gate_inputs}
use Rattle.mp_base.specs.declared.pad.Pad.{Pad}
use Rattle.rtl_form.specs.declared.rtl.Cell as cells
use Rattle.rtl_form.specs.declared.rtl.CellKind.{CellKind}
use Rattle.rtl_form.specs.declared.rtl.CellKind.TheVariants.{Output}
use Rattle.rtl_form.specs.declared.rtl.RtlExpr.{RtlExpr}
use Rattle.rtl_form.specs.declared.rtl.Rtl.{Rtl}
use Rattle.mp_base.specs.Entries.{IsAt}
use Rattle.mp_base.specs.declared.limits.TheConstants.{WEIGHT_LIMIT}
use Rattle.control_nor.specs.Lowering.{IsEntry, IsLowered, Stands}
use Rattle.path_form.specs.declared.path.Lift.{Lift}
use Rattle.path_form.specs.declared.path.DataPath.{DataPath}
use Rattle.path_form.specs.declared.path.Piece.{Piece}
use Rattle.path_form.specs.Shape.{IsPath, entries_of}
use Rattle.path_order.specs.Order.{order_from, start}
use Rattle.datapath_making.specs.declared.making.Making.{Making}
use Rattle.datapath_making.specs.Growing.{IsUnfed}
use Rattle.datapath_making.specs.Steps.{marked}
use Rattle.datapath_making.specs.WellMade.{IsWellMade}
use Rattle.datapath_finish.specs.declared.finishing.Ends.{Ends}

-- All is made: words, the answers that the control waits for, and the data of latches.
pub record IsComplete (r : Rtl) (m : Making) : Type 0 where
  pub width : m.width ≡ r.width
  pub lowered : IsLowered r [] m.control m.names
  pub made : IsWellMade m
  pub cell_words : (c : ℕ) (x : cells.Cell) → IsAt r.cells c x → x.word ≡ true → (id : NetId) × Stands m.cell_words c id
  pub bit_cells : (c : ℕ) (x : cells.Cell) (id : NetId) → IsAt r.cells c x → Stands m.cell_words c id → x.word ≡ true
  pub pads : (k : ℕ) (pad : Pad) → IsAt (r.pads).inputs k pad → pad.width ≢ 0
      → (id : NetId) × Stands m.pads k id
  pub pad_count : length m.pads ≡ length (r.pads).inputs
  pub bit_pads : (k : ℕ) (pad : Pad) (id : NetId) → IsAt (r.pads).inputs k pad → Stands m.pads k id
      → pad.width ≢ 0
  pub fed : (n : ℕ) → ¬ IsUnfed m.slices.net n
  pub entries : (e : ℕ) (x : RtlExpr) (id : NetId) → IsAt r.exprs e x → IsEntry x → Stands m.names.exprs e id
      → (l : Lift) × Contains m.lifts l × (l.control ≡ id)
  pub lifted : (l : Lift) → Contains m.lifts l
      → (e : ℕ) × (x : RtlExpr) × IsAt r.exprs e x × IsEntry x × Stands m.names.exprs e l.control
  pub nets : length m.slices.net + length m.slices.chains + length m.slices.programs ≤ 2 * WEIGHT_LIMIT
  pub inputs : gate_inputs m.slices.net + length m.slices.chains + length m.slices.programs ≤ 4 * WEIGHT_LIMIT

-- the path that was made, with the nets of the pads
pub record IsFinished (r : Rtl) (m : Making) (p : DataPath) : Type 0 where
  pub width : p.width ≡ r.width
  pub control : p.control ≡ m.control
  pub slices : p.slices ≡ m.slices
  pub casts : p.casts ≡ m.casts
  pub lifts : p.lifts ≡ m.lifts
  pub pads : p.pads ≡ r.pads
  pub word_inputs : (k : ℕ) (pad : NetId) → Stands m.pads k pad → slice_get p.inputs k ≡ Some pad
  pub bit_inputs : (k : ℕ) (pad : NetId) → Stands m.names.inputs k pad → slice_get p.inputs k ≡ Some pad
  pub word_pads : (id : NetId) → Contains (entries_of true (r.pads).inputs p.inputs) id
      → (k : ℕ) × (pad : Pad) × IsAt (r.pads).inputs k pad × (pad.width ≢ 0) × Stands m.pads k id
  pub bit_pads : (id : NetId) → Contains (entries_of false (r.pads).inputs p.inputs) id
      → (k : ℕ) × (pad : Pad) × IsAt (r.pads).inputs k pad × (pad.width ≡ 0) × Stands m.names.inputs k id
  pub word_outputs : (c k : ℕ) (x : cells.Cell) (id : NetId) → IsAt r.cells c x → x.kind ≡ Output k
      → x.word ≡ true → slice_get p.outputs k ≡ Some id → Stands m.cell_words c id
  pub bit_outputs : (c k : ℕ) (x : cells.Cell) (id : NetId) → IsAt r.cells c x → x.kind ≡ Output k
      → x.word ≡ false → slice_get p.outputs k ≡ Some id → Stands m.names.cells c id

-- the path in the making with a mark at its end, and the order along its marks
pub record IsOrdered (m now : Making) (pieces : List Piece) : Type 0 where
  pub marked : now ≡ marked (length m.control) m
  pub made : IsWellMade now
  pub control : IsNet m.control
  pub slices : IsNet m.slices.net
  pub order : pieces ≡ order_from now.width start now.marks

-- the path of these nets, with these ends
pub record IsPathOf (m : Making) (e : Ends) (p : DataPath) : Type 0 where
  pub width : p.width ≡ m.width
  pub control : p.control ≡ m.control
  pub slices : p.slices ≡ m.slices
  pub casts : p.casts ≡ m.casts
  pub lifts : p.lifts ≡ m.lifts
  pub pads : p.pads ≡ e.pads
  pub inputs : p.inputs ≡ e.inputs
  pub outputs : p.outputs ≡ e.outputs

-- with these ends the nets are a path, which is that which was made
pub record AreEnds (r : Rtl) (m now : Making) (e : Ends) : Type 0 where
  pub whole : IsPath now.width now.control now.slices now.casts now.lifts e.pads e.inputs e.outputs e.order
  pub finished : (p : DataPath) → IsPathOf now e p → IsFinished r m p

-- the net of an input pad, and of a cell
abbrev pub IsPadNet : Making → ℕ → Pad → NetId → Type 0
IsPadNet m k pad id =
    (pad.width ≡ 0 → Stands m.names.inputs k id) × (pad.width ≢ 0 → Stands m.pads k id)

abbrev pub IsCellNet : Making → ℕ → cells.Cell → NetId → Type 0
IsCellNet m c x id = (x.word ≡ true → Stands m.cell_words c id) × (x.word ≡ false → Stands m.names.cells c id)

-- the nets of the first n input pads
pub record AreInputNets (r : Rtl) (m : Making) (n : ℕ) (ids : List NetId) : Type 0 where
  pub count : length ids ≡ n
  pub each : (k : ℕ) (pad : Pad) (id : NetId) → IsAt (r.pads).inputs k pad → slice_get ids k ≡ Some id
      → IsPadNet m k pad id

-- the nets of output pads, of those that are the pads of the first n cells
pub record AreOutputNets (r : Rtl) (m : Making) (n : ℕ) (ids : List NetId) : Type 0 where
  pub count : length ids ≡ length (r.pads).outputs
  pub each : (c k : ℕ) (x : cells.Cell) (id : NetId) → c < n → IsAt r.cells c x → x.kind ≡ Output k
      → slice_get ids k ≡ Some id → IsCellNet m c x id

-- the net of a cell was put at its output pad, if it has one
abbrev pub IsOutputPut : Making → ℕ → cells.Cell → CellKind → List NetId → List NetId → Type 0
IsOutputPut m c x (Output k) old new = (id : NetId) × IsCellNet m c x id × (new ≡ slice_set old k id)
IsOutputPut m c x kind old new = new ≡ old
