-- What gates for bits are, and what they give.
use Rattle.std.specs.Prelude.{◌≡◌, ◌↔◌, ◌⊎◌, ◌<◌, ◌≤◌, ◌+◌, ◌*◌, ℕ, zero, suc, List, [], ◌∷◌, ◌++◌, Option, Some, true}
use Rattle.std.specs.Prelude.{false, cond, if◌then◌else◌, ◌==◌, All, Contains, length, slice_get, slice_index}
use Rattle.std.specs.Prelude.{unwrap_or}
use Rattle.std.specs.List.{sum_by}
use Rattle.mp_base.specs.declared.value.Trit.{Trit}
use Rattle.mp_base.specs.declared.value.Trit.TheVariants.{Zero, One}
use Rattle.mp_base.specs.declared.pad.Pad.{Pad}
use Rattle.mp_base.specs.Merge.{merged}
use Rattle.nor_net.specs.declared.net.NetId.{NetId}
use Rattle.nor_net.specs.declared.net.Phase.{Phase}
use Rattle.nor_net.specs.declared.net.Phase.TheVariants as phases
use Rattle.nor_net.specs.declared.net.Part.{Part}
use Rattle.nor_net.specs.declared.net.Part.TheVariants as parts
use Rattle.nor_net.specs.Elements.{Spot, spot, nets_of}
use Rattle.nor_net.specs.Settled.{Obeys}
use Rattle.nor_net.specs.Shape.{Fed, gate_inputs}
use Rattle.nor_net.specs.Laws.{bit}
use Rattle.rtl_form.specs.declared.rtl.Cell as cells
use Rattle.rtl_form.specs.declared.rtl.CellKind.TheVariants as kinds
use Rattle.rtl_form.specs.declared.rtl.RtlExpr.{RtlExpr}
use Rattle.rtl_form.specs.declared.rtl.RtlExpr.TheVariants.{Number, Truth, Cell, Apply}
use Rattle.rtl_form.specs.declared.rtl.Transfer.{Transfer}
use Rattle.rtl_form.specs.declared.rtl.Rtl.{Rtl}
use Rattle.mp_base.specs.Entries.{IsAt}
use Rattle.rtl_form.specs.Operands.{takes_words, gives_word}
use Rattle.rtl_form.specs.Sound.{IsSort}
use Rattle.rtl_form.specs.Values.{value_of}
use Rattle.rtl_form.specs.Environment.{is_driven, driven_value}
use Rattle.rtl_form.specs.Written.{written}
use Rattle.rtl_form.specs.Cost.{cost}
use Rattle.control_nor.specs.declared.names.Names.{Names}
use Rattle.task_schedule.specs.declared.task.Task.TheVariants as tasks
use Rattle.task_schedule.specs.Schedule.{IsSchedule}
use Rattle.bit_gates.specs.Size.{bit_cost, entry_count, IsWithinCost}

-- the net that stands for entry k
abbrev pub Stands : List (Option NetId) → ℕ → NetId → Type 0
Stands entries k id = slice_get entries k ≡ Some (Some id)

-- an expression where a word enters
abbrev pub IsEntry : RtlExpr → Type 0
IsEntry (Apply op index args) = (takes_words op ≡ true) × (gives_word op ≡ false)
IsEntry _ = ⊥

-- a bit that is stored: two latches with their data, and the bit itself
pub record StoredBit (net : List Part) (result : NetId) : Type 0 where
  pub master : NetId
  pub negation : NetId
  pub slave : NetId
  pub source : NetId
  pub is_master : slice_get net master.0 ≡ Some (parts.Latch phases.A (Some source))
  pub is_negation : slice_get net negation.0 ≡ Some (parts.Gate (master ∷ []))
  pub is_slave : slice_get net slave.0 ≡ Some (parts.Latch phases.B (Some negation))
  pub is_bit : slice_get net result.0 ≡ Some (parts.Gate (slave ∷ []))

-- a bit that is an input: a latch on the net of its pad
pub record InputBit (net : List Part) (result pad : NetId) : Type 0 where
  pub is_latch : slice_get net result.0 ≡ Some (parts.Latch phases.C (Some pad))
  pub is_pad : slice_get net pad.0 ≡ Some parts.Input

-- the nets behind the first ones have what their gates give them
abbrev pub ObeysBehind : List Part → ℕ → (Spot → Trit) → Type 0
ObeysBehind net first v =
    (n : ℕ) → first ≤ n → Obeys v (record { band = 0; net = n }) (nets_of net (record { band = 0; net = n }))

-- a net has the bit of a number that is 0 or 1
abbrev pub HasBit : (Spot → Trit) → NetId → ℕ → Type 0
HasBit v id x = v (spot 0 id) ≡ bit (x == 1)

-- the net of an expression, if it has one, has its value
abbrev pub KnownExpr : Rtl → Names → (Spot → Trit) → List ℕ → ℕ → Type 0
KnownExpr r names v env e = (id : NetId) → Stands names.exprs e id → HasBit v id (value_of r env e)

-- the net of a cell, if it has one, has its value
abbrev pub KnownCell : Names → (Spot → Trit) → List ℕ → ℕ → Type 0
KnownCell names v env c = (id : NetId) → Stands names.cells c id → HasBit v id (slice_index env c)

-- what an expression reads is known; where a word enters, nothing makes the value known
abbrev pub Ready : Rtl → Names → (Spot → Trit) → List ℕ → RtlExpr → Type 0
Ready r names v env (Number n) = ⊥
Ready r names v env (Truth b) = Unit {0}
Ready r names v env (Cell c) = KnownCell names v env c
Ready r names v env (Apply op index args) = (takes_words op ≡ false) × All (KnownExpr r names v env) args

-- the guards and values of the transfers to a cell are known
abbrev pub Fetched : Rtl → Names → (Spot → Trit) → List ℕ → ℕ → Type 0
Fetched r names v env c =
    (t : Transfer) → Contains r.transfers t → t.target ≡ c
    → KnownExpr r names v env t.guard × KnownExpr r names v env t.value

-- what is stored next for the cell c, where `reset` is a cell with this value
abbrev pub next_bit : Rtl → List ℕ → ℕ → ℕ → ℕ
next_bit r env reset c =
    if slice_index env reset == 1 then 0
    else unwrap_or (merged (written (value_of r env) c r.transfers)) (slice_index env c)

-- bits are 0 or 1
abbrev pub BitsFit : Rtl → List ℕ → Type 0
BitsFit r env = (c : ℕ) (x : cells.Cell) → IsAt r.cells c x → x.word ≡ false → slice_index env c < 2

-- In values that the added nets obey, each net has its value as soon as what it reads has. Values of cells are those
-- of env.
pub record Gives (r : Rtl) (net : List Part) (names : Names) (v : Spot → Trit) (env : List ℕ) : Type 0 where
  pub exprs : (e : ℕ) (x : RtlExpr) → IsAt r.exprs e x → IsSort r.cells x false → Ready r names v env x
      → KnownExpr r names v env e
  pub driven : (c : ℕ) (x : cells.Cell) → IsAt r.cells c x → x.word ≡ false → is_driven x.kind ≡ true
      → Fetched r names v env c → slice_index env c ≡ driven_value r env c → KnownCell names v env c
  pub state : (c : ℕ) (id : NetId) (b : StoredBit net id) → Stands names.cells c id
      → v (spot 0 b.slave) ≡ bit (cond (slice_index env c == 1) false true) → KnownCell names v env c
  pub next : (c reset : ℕ) (id : NetId) (b : StoredBit net id) → Stands names.cells c id → r.reset ≡ Some reset
      → KnownCell names v env c → KnownCell names v env reset → Fetched r names v env c
      → HasBit v b.source (next_bit r env reset c)
  pub clear : (c reset : ℕ) (id at : NetId) (b : StoredBit net id) → Stands names.cells c id → r.reset ≡ Some reset
      → Stands names.cells reset at → v (spot 0 at) ≡ One → v (spot 0 b.source) ≡ Zero

-- how many nets stand before task t, and before the next values of stored bits, which are behind all tasks
abbrev pub nets_before : Names → ℕ → ℕ
nets_before names zero = names.start
nets_before names (suc t) = slice_index names.ends t

-- Where nets stand: those of pads, and of cells that nothing drives, before the first task, and those of a task at its
-- place in the schedule.
pub record ArePlaced (r : Rtl) (before after : List Part) (names : Names) : Type 0 where
  pub schedule : IsSchedule r names.tasks
  pub end_count : length names.ends ≡ length names.tasks
  pub begin : length before ≤ names.start
  pub rise : (t : ℕ) → t < length names.tasks → nets_before names t ≤ nets_before names (suc t)
  pub within : nets_before names (length names.tasks) ≤ length after
  pub pads : (k : ℕ) (pad : NetId) → Stands names.inputs k pad → (length before ≤ pad.0) × (pad.0 < names.start)
  pub first_cells : (c : ℕ) (x : cells.Cell) (id : NetId) → IsAt r.cells c x → is_driven x.kind ≡ false
      → Stands names.cells c id → id.0 < names.start
  pub driven_cells : (t c : ℕ) (id : NetId) → slice_get names.tasks t ≡ Some (tasks.Cell c) → Stands names.cells c id
      → (nets_before names t ≤ id.0) × (id.0 < nets_before names (suc t))
  pub exprs : (t e : ℕ) (id : NetId) → slice_get names.tasks t ≡ Some (tasks.Expr e) → Stands names.exprs e id
      → id.0 < nets_before names (suc t)
  pub entries : (t e : ℕ) (x : RtlExpr) (id : NetId) → slice_get names.tasks t ≡ Some (tasks.Expr e)
      → IsAt r.exprs e x → IsEntry x → Stands names.exprs e id → nets_before names t ≤ id.0

-- a net is that of an input pad, or one where a word enters
abbrev pub IsEntered : Rtl → Names → NetId → Type 0
IsEntered r names id =
    ((k : ℕ) × Stands names.inputs k id)
    ⊎ ((e : ℕ) × (x : RtlExpr) × IsAt r.exprs e x × IsEntry x × Stands names.exprs e id)

-- What is read from outside: each input that was added is that of one pad or of one expression where a word enters, and
-- only pads feed latches.
pub record AreInputs (r : Rtl) (before after : List Part) (names : Names) : Type 0 where
  pub pads : (k : ℕ) (pad : NetId) → Stands names.inputs k pad → slice_get after pad.0 ≡ Some parts.Input
  pub entries : (e : ℕ) (x : RtlExpr) (id : NetId) → IsAt r.exprs e x → IsEntry x → Stands names.exprs e id
      → slice_get after id.0 ≡ Some parts.Input
  pub only : (id : NetId) → length before ≤ id.0 → slice_get after id.0 ≡ Some parts.Input → IsEntered r names id
  pub pads_apart : (j k : ℕ) (id : NetId) → Stands names.inputs j id → Stands names.inputs k id → j ≡ k
  pub entries_apart : (d e : ℕ) (x y : RtlExpr) (id : NetId) → IsAt r.exprs d x → IsEntry x → Stands names.exprs d id
      → IsAt r.exprs e y → IsEntry y → Stands names.exprs e id → d ≡ e
  pub latches : (n : ℕ) (p : Phase) (source : NetId) → length before ≤ n
      → slice_get after n ≡ Some (parts.Latch p (Some source)) → slice_get after source.0 ≡ Some parts.Input
      → (k : ℕ) × Stands names.inputs k source

-- the nets that were added, with their names
pub record IsLowered (r : Rtl) (before after : List Part) (names : Names) : Type 0 where
  pub added : (more : List Part) × (after ≡ before ++ more) × All Fed more
  pub size : IsWithinCost (bit_cost r) (sum_by entry_count r.exprs) before after
  pub few : length after ≤ length before + 2 * cost r
  pub few_inputs : gate_inputs after ≤ gate_inputs before + 4 * cost r
  pub cell_count : length names.cells ≡ length r.cells
  pub expr_count : length names.exprs ≡ length r.exprs
  pub pad_count : length names.inputs ≡ length (r.pads).inputs
  pub cell_names : (c : ℕ) (x : cells.Cell) → IsAt r.cells c x
      → (x.word ≡ false) ↔ ((id : NetId) × Stands names.cells c id)
  pub expr_names : (e : ℕ) (x : RtlExpr) → IsAt r.exprs e x
      → IsSort r.cells x false ↔ ((id : NetId) × Stands names.exprs e id)
  pub pad_names : (k : ℕ) (pad : Pad) → IsAt (r.pads).inputs k pad
      → (pad.width ≡ 0) ↔ ((id : NetId) × Stands names.inputs k id)
  pub cells_apart : (c d : ℕ) (id : NetId) → Stands names.cells c id → Stands names.cells d id → c ≡ d
  pub driven : (c : ℕ) (x : cells.Cell) (id : NetId) → IsAt r.cells c x → is_driven x.kind ≡ true
      → Stands names.cells c id → (inputs : List NetId) × (slice_get after id.0 ≡ Some (parts.Gate inputs))
  pub stored : (c : ℕ) (x : cells.Cell) (id : NetId) → IsAt r.cells c x → x.kind ≡ kinds.Stored
      → Stands names.cells c id → StoredBit after id
  pub ports : (c k : ℕ) (x : cells.Cell) (id pad : NetId) → IsAt r.cells c x → x.kind ≡ kinds.Input k
      → Stands names.cells c id → Stands names.inputs k pad → InputBit after id pad
  pub placed : ArePlaced r before after names
  pub inputs : AreInputs r before after names
  pub gives : (v : Spot → Trit) (env : List ℕ) → length env ≡ length r.cells → BitsFit r env
      → ObeysBehind after (length before) v → Gives r after names v env
