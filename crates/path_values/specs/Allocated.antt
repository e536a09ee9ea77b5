-- How a path stands for transfers: which nets stand for which words, and what they are made of.
use Rattle.std.specs.Prelude.{◌≡◌, ◌↔◌, ◌<◌, ◌-◌, ◌^◌, ℕ, suc, List, [], ◌∷◌, ◌++◌, Option, Some, true, false, ◌≢◌}
use Rattle.std.specs.Prelude.{if◌then◌else◌, ◌==◌, All, Contains, length, slice_get, slice_index, slice_index_or}
use Rattle.std.specs.List.{AllZip, filter}
use Rattle.mp_base.specs.declared.value.Trit.{Trit}
use Rattle.mp_base.specs.declared.op.Op.{Op}
use Rattle.mp_base.specs.declared.op.Op.TheVariants as ops
use Rattle.nor_net.specs.declared.net.NetId.{NetId}
use Rattle.nor_net.specs.declared.net.Phase.TheVariants as phases
use Rattle.nor_net.specs.declared.net.Part.{Part}
use Rattle.nor_net.specs.declared.net.Part.TheVariants as parts
use Rattle.nor_net.specs.Elements.{Spot, spot}
use Rattle.nor_net.specs.Machine.{Store, Stores, Port, Ports}
use Rattle.rtl_form.specs.declared.rtl.Cell as cells
use Rattle.rtl_form.specs.declared.rtl.CellKind.TheVariants as kinds
use Rattle.rtl_form.specs.declared.rtl.RtlExpr.{RtlExpr}
use Rattle.rtl_form.specs.declared.rtl.RtlExpr.TheVariants.{Number, Cell, Apply}
use Rattle.rtl_form.specs.declared.rtl.Transfer.{Transfer}
use Rattle.rtl_form.specs.declared.rtl.Rtl.{Rtl}
use Rattle.mp_base.specs.Entries.{IsAt}
use Rattle.rtl_form.specs.Environment.{is_driven, IsEnvironment}
use Rattle.rtl_form.specs.Trace as rtl
use Rattle.rtl_form.specs.Operands.{takes_words}
use Rattle.rtl_form.specs.Sound.{IsSort, HasSort, IsSound}
use Rattle.rtl_form.specs.Values.{value_of, expr_value}
use Rattle.control_nor.specs.declared.names.Names.{Names}
use Rattle.control_nor.specs.Lowering.{Stands, StoredBit, IsLowered, KnownExpr, KnownCell, BitsFit}
use Rattle.organelles.specs.declared.slices.Organelle.{Organelle}
use Rattle.organelles.specs.declared.slices.Programmed.{Programmed}
use Rattle.organelles.specs.declared.slices.SliceNet.{SliceNet}
use Rattle.organelles.specs.Tables.{table_of, op_of}
use Rattle.organelles.specs.Computing.{ChainIn, HasWord, result_at, with_table}
use Rattle.path_form.specs.declared.path.Cast.{Cast}
use Rattle.path_form.specs.declared.path.Lift.{Lift}
use Rattle.path_form.specs.declared.path.DataPath.{DataPath}
use Rattle.path_form.specs.Extending.{Extends}
use Rattle.path_form.specs.Showing.{FitPads}
use Rattle.path_values.specs.Realizing.{StateFits, Realizes}

-- an operator stands in the slices, on the nets of its arguments
pub record Placed (s : SliceNet) (words : List (Option NetId)) (op : Op) (args : List ℕ)
    (result : NetId) : Type 0 where
  pub kind : Organelle
  pub is_kind : op_of kind ≡ op
  pub a : NetId
  pub b : NetId
  pub before : SliceNet
  pub a_in : a.0 < length before.net
  pub b_in : b.0 < length before.net
  pub chains_in : All (ChainIn (length before.net)) before.chains
  pub grown : Extends (with_table (table_of kind) a b before) s
  pub is_result : result ≡ result_at (table_of kind) a b before
  pub is_a : Stands words (slice_index_or args 0 0) a
  pub is_b : Stands words (slice_index_or args (length args - 1) 0) b

-- a gate of the slices
abbrev pub IsGate : List Part → NetId → List NetId → Type 0
IsGate net id inputs = slice_get net id.0 ≡ Some (parts.Gate inputs)

-- a guard in the slices: a cast of its net
abbrev pub IsGuard : List Cast → Names → ℕ → NetId → Type 0
IsGuard casts names guard id = (c : Cast) × Contains casts c × Stands names.exprs guard c.control × (c.slice ≡ id)

-- the term of a transfer: the value where the guard is 1, else 0
pub record IsTerm (s : SliceNet) (casts : List Cast) (names : Names) (words : List (Option NetId)) (t : Transfer)
    (id : NetId) : Type 0 where
  pub value : NetId
  pub off_value : NetId
  pub guard : NetId
  pub off_guard : NetId
  pub is_value : Stands words t.value value
  pub is_guard : IsGuard casts names t.guard guard
  pub is_off_value : IsGate s.net off_value (value ∷ [])
  pub is_off_guard : IsGate s.net off_guard (guard ∷ [])
  pub is_term : IsGate s.net id (off_value ∷ off_guard ∷ [])

-- the transfers to a cell, in order
abbrev pub transfers_to : Rtl → ℕ → List Transfer
transfers_to r c = filter (λ (t : Transfer). t.target == c) r.transfers

-- a driven word: the NOR of the NOR of its terms
pub record DrivenWord (r : Rtl) (s : SliceNet) (casts : List Cast) (names : Names) (words : List (Option NetId))
    (c : ℕ)
    (id : NetId) : Type 0 where
  pub terms : List NetId
  pub off : NetId
  pub are_terms : AllZip (IsTerm s casts names words) (transfers_to r c) terms
  pub is_off : IsGate s.net off terms
  pub is_word : IsGate s.net id (off ∷ [])

-- a stored word: two latches, and the next value, which is 0 where reset is 1
pub record StoredWord (r : Rtl) (s : SliceNet) (casts : List Cast) (names : Names) (words : List (Option NetId))
    (c reset : ℕ)
    (id : NetId) : Type 0 where
  pub master : NetId
  pub negation : NetId
  pub slave : NetId
  pub source : NetId
  pub terms : List NetId
  pub guards : List NetId
  pub hold : NetId
  pub off : NetId
  pub clear : Cast
  pub is_master : slice_get s.net master.0 ≡ Some (parts.Latch phases.A (Some source))
  pub is_negation : IsGate s.net negation (master ∷ [])
  pub is_slave : slice_get s.net slave.0 ≡ Some (parts.Latch phases.B (Some negation))
  pub is_word : IsGate s.net id (slave ∷ [])
  pub are_terms : AllZip (IsTerm s casts names words) (transfers_to r c) terms
  pub are_guards : AllZip (λ (t : Transfer) g. IsGuard casts names t.guard g) (transfers_to r c) guards
  pub is_hold : IsGate s.net hold (slave ∷ guards)
  pub is_off : IsGate s.net off (terms ++ hold ∷ [])
  pub is_source : IsGate s.net source (off ∷ clear.slice ∷ [])
  pub is_clear : Contains casts clear × Stands names.cells reset clear.control

-- an input word: a latch on the net of its pad
abbrev pub InputWord : List Part → NetId → NetId → Type 0
InputWord net id pad =
    (slice_get net id.0 ≡ Some (parts.Latch phases.C (Some pad)))
    × (slice_get net pad.0 ≡ Some parts.Input)

-- where bit k of a stored word, and a stored bit, stand
abbrev pub word_store : (r : Rtl) (s : SliceNet) (casts : List Cast) (names : Names) (words : List (Option NetId))
    (c reset : ℕ)
    (id : NetId) → ℕ → StoredWord r s casts names words c reset id → Store
word_store r s casts names words c reset id k h =
    record {
      master = spot (suc k) h.master;
      negation = spot (suc k) h.negation;
      slave = spot (suc k) h.slave;
      source = spot (suc k) h.source;
    }

abbrev pub bit_store : (net : List Part) (id : NetId) → StoredBit net id → Store
bit_store net id h = record {
  master = spot 0 h.master;
  negation = spot 0 h.negation;
  slave = spot 0 h.slave;
  source = spot 0 h.source;
}

abbrev pub port_at : ℕ → NetId → NetId → Port
port_at band id pad = record { latch = spot band id; pad = spot band pad }

-- how many bits a cell has
abbrev pub cell_bits : Rtl → cells.Cell → ℕ
cell_bits r x = if x.word then r.width else 1

-- a path that stands for transfers
pub record IsAllocated (r : Rtl) (p : DataPath) : Type 0 where
  pub names : Names
  pub lowered : IsLowered r [] p.control names
  pub cell_words : List (Option NetId)
  pub words : List (Option NetId)
  pub width : p.width ≡ r.width
  pub pads : p.pads ≡ r.pads
  pub cell_sorts : (c : ℕ) (x : cells.Cell) → IsAt r.cells c x
      → (x.word ≡ true) ↔ ((id : NetId) × Stands cell_words c id)
  pub sorts : (e : ℕ) (x : RtlExpr) → IsAt r.exprs e x → IsSort r.cells x true ↔ ((id : NetId) × Stands words e id)
  pub numbers : (e n : ℕ) (id : NetId) → IsAt r.exprs e (Number n) → Stands words e id
      → (g : Programmed) × Contains p.slices.programs g × (g.net ≡ id) × (g.bits ≡ n)
  pub reads : (e c : ℕ) (id : NetId) → IsAt r.exprs e (Cell c) → Stands words e id → Stands cell_words c id
  pub operators : (e : ℕ) (op : Op) (index : ℕ) (args : List ℕ) (id : NetId) → IsAt r.exprs e (Apply op index args)
      → Stands words e id → Placed p.slices words op args id
  pub tests : (e : ℕ) (op : Op) (index : ℕ) (args : List ℕ) (id : NetId) → IsAt r.exprs e (Apply op index args)
      → takes_words op ≡ true → op ≢ ops.Bit
      → Stands names.exprs e id → (l : Lift) × Contains p.lifts l × (l.control ≡ id) × (suc l.slice ≡ p.width)
      × Placed p.slices words op args l.from
  pub bits : (e index : ℕ) (args : List ℕ) (id : NetId) → IsAt r.exprs e (Apply ops.Bit index args)
      → Stands names.exprs e id
      → (l : Lift) × Contains p.lifts l × (l.control ≡ id) × (l.slice ≡ index)
      × Stands words (slice_index_or args 0 0) l.from
  pub driven : (c : ℕ) (x : cells.Cell) (id : NetId) → IsAt r.cells c x → is_driven x.kind ≡ true
      → Stands cell_words c id → DrivenWord r p.slices p.casts names words c id
  pub stored : (c reset : ℕ) (x : cells.Cell) (id : NetId) → IsAt r.cells c x → x.kind ≡ kinds.Stored
      → r.reset ≡ Some reset → Stands cell_words c id
      → StoredWord r p.slices p.casts names words c reset id
  pub ports : (c k : ℕ) (x : cells.Cell) (id pad : NetId) → IsAt r.cells c x → x.kind ≡ kinds.Input k
      → Stands cell_words c id → slice_get p.inputs k ≡ Some pad
      → InputWord p.slices.net id pad
  pub bit_ports : (k : ℕ) (pad : NetId) → Stands names.inputs k pad → slice_get p.inputs k ≡ Some pad
  pub shown : (c k : ℕ) (x : cells.Cell) (id : NetId) → IsAt r.cells c x → x.kind ≡ kinds.Output k
      → slice_get p.outputs k ≡ Some id
      → (x.word ≡ true → Stands cell_words c id) × (x.word ≡ false → Stands names.cells c id)
  pub stores : Stores
  pub word_stores : (c reset k : ℕ) (x : cells.Cell) (id : NetId) (at : IsAt r.cells c x)
      (is : x.kind ≡ kinds.Stored) (res : r.reset ≡ Some reset)
      (on : Stands cell_words c id) → k < p.width → stores c k
      ≡ Some (word_store r p.slices p.casts names words c reset id k (stored c reset x id at is res on))
  pub bit_stores : (c : ℕ) (x : cells.Cell) (id : NetId) (at : IsAt r.cells c x) (is : x.kind ≡ kinds.Stored)
      (on : Stands names.cells c id)
      → stores c 0 ≡ Some (bit_store p.control id (lowered.stored c x id at is on))
  pub only_stores : (c k : ℕ) (b : Store) → stores c k ≡ Some b
      → (x : cells.Cell) × IsAt r.cells c x × (x.kind ≡ kinds.Stored) × (k < cell_bits r x)
  pub inputs_at : Ports
  pub word_inputs : (c i k : ℕ) (x : cells.Cell) (id pad : NetId) → IsAt r.cells c x → x.kind ≡ kinds.Input i
      → Stands cell_words c id → slice_get p.inputs i ≡ Some pad
      → k < p.width → inputs_at i k ≡ Some (port_at (suc k) id pad)
  pub bit_inputs : (c i : ℕ) (x : cells.Cell) (id pad : NetId) → IsAt r.cells c x → x.kind ≡ kinds.Input i
      → Stands names.cells c id → slice_get p.inputs i ≡ Some pad
      → inputs_at i 0 ≡ Some (port_at 0 id pad)
  pub only_inputs : (i k : ℕ) (q : Port) → inputs_at i k ≡ Some q
      → (c : ℕ) × (x : cells.Cell) × IsAt r.cells c x × (x.kind ≡ kinds.Input i) × (k < cell_bits r x)

-- ---- what is known of a path in one solution

-- the nets of an expression, or of a cell, have its value
abbrev pub Known : (r : Rtl) (p : DataPath) → IsAllocated r p → (Spot → Trit) → List ℕ → ℕ → Type 0
Known r p a v env e = ((id : NetId) → Stands a.words e id → HasWord v p.width id (value_of r env e))
    × KnownExpr r a.names v env e

-- what is known of the values of expressions: they are those of their parts, and words fit
pub record AreValues (r : Rtl) (env : List ℕ) : Type 0 where
  pub each : (e : ℕ) (x : RtlExpr) → IsAt r.exprs e x → value_of r env e ≡ expr_value r.width env x (value_of r env)
  pub fit : (e : ℕ) → HasSort r e true → value_of r env e < 2 ^ r.width

-- the nets of a cell have its value
abbrev pub KnownCells : (r : Rtl) (p : DataPath) → IsAllocated r p → (Spot → Trit) → List ℕ → ℕ → Type 0
KnownCells r p a v env c = ((id : NetId) → Stands a.cell_words c id → HasWord v p.width id (slice_index env c))
    × KnownCell a.names v env c

-- what sound transfers meet: in a clock from a state that fits, values are those of their parts and fit, and so does
-- the next state
pub record IsTame (r : Rtl) : Type 0 where
  pub values : (state inputs env : List ℕ) → StateFits r state → FitPads (r.pads).inputs inputs
      → IsEnvironment r state inputs env → AreValues r env
  pub bits : (state inputs env : List ℕ) → StateFits r state → FitPads (r.pads).inputs inputs
      → IsEnvironment r state inputs env → BitsFit r env
  pub next : (state inputs outputs after : List ℕ) → StateFits r state → FitPads (r.pads).inputs inputs
      → rtl.IsClock r state inputs outputs after → StateFits r after

-- a path that stands for transfers realizes them
abbrev pub AllocatedRealizes : Type 0
AllocatedRealizes = (r : Rtl) (p : DataPath) → IsSound r → IsAllocated r p → Realizes r p
