-- How far a path is made.
use Rattle.std.specs.Prelude.{◌≡◌, ◌<◌, ◌≤◌, ◌*◌, ℕ, suc, List, [], Some, true, false, Contains, IsSome, MatchBool, ◌≢◌}
use Rattle.std.specs.Prelude.{length, slice_get, slice_index_or, take}
use Rattle.std.specs.List.{list_any}
use Rattle.mp_base.specs.declared.op.Op.{Op}
use Rattle.mp_base.specs.declared.op.Op.TheVariants as ops
use Rattle.nor_net.specs.declared.net.NetId.{NetId}
use Rattle.nor_net.specs.declared.net.Part.{Part}
use Rattle.nor_net.specs.Shape.{gate_inputs}
use Rattle.organelles.specs.declared.slices.Programmed.{Programmed}
use Rattle.rtl_form.specs.declared.rtl.Cell as cells
use Rattle.rtl_form.specs.declared.rtl.CellKind.{CellKind}
use Rattle.rtl_form.specs.declared.rtl.CellKind.TheVariants as kinds
use Rattle.rtl_form.specs.declared.rtl.RtlExpr.{RtlExpr}
use Rattle.rtl_form.specs.declared.rtl.RtlExpr.TheVariants.{Number, Truth, Cell, Apply}
use Rattle.rtl_form.specs.declared.rtl.Rtl.{Rtl}
use Rattle.mp_base.specs.Entries.{IsAt}
use Rattle.mp_base.specs.declared.limits.TheConstants.{WEIGHT_LIMIT}
use Rattle.rtl_form.specs.Environment.{is_driven}
use Rattle.rtl_form.specs.Operands.{gives_word, takes_words}
use Rattle.rtl_form.specs.Sound.{IsSort, IsSound}
use Rattle.rtl_form.specs.Cost.{cost}
use Rattle.control_nor.specs.declared.names.Names.{Names}
use Rattle.task_schedule.specs.declared.task.Task.{Task}
use Rattle.task_schedule.specs.declared.task.Task.TheVariants as tasks
use Rattle.control_nor.specs.Lowering.{IsEntry, IsLowered, Stands, nets_before}
use Rattle.path_form.specs.declared.path.Lift.{Lift}
use Rattle.path_values.specs.Allocated.{DrivenWord, InputWord, Placed, StoredWord}
use Rattle.datapath_making.specs.declared.making.Making.{Making}
use Rattle.datapath_making.specs.Growing.{IsUnfed}
use Rattle.datapath_making.specs.Marking.{last_mark}
use Rattle.datapath_making.specs.Sizes.{columns, crossings}
use Rattle.datapath_making.specs.Steps.{IsWaiting}
use Rattle.datapath_making.specs.WellMade.{IsWellMade}
use Rattle.datapath_alloc.specs.Spending.{crossed, is_stored_word, spent}

-- what stays while words are made
pub record IsBegun (r : Rtl) (bits : List Part) (known : Names) (m : Making) : Type 0 where
  pub made : IsWellMade m
  pub width : m.width ≡ r.width
  pub control : m.control ≡ bits
  pub names : m.names ≡ known
  pub reset : (c : ℕ) → r.reset ≡ Some c → (id : NetId) × (m.reset ≡ Some id) × Stands known.cells c id
  pub cell_count : length m.cell_words ≡ length r.cells
  pub word_count : length m.words ≡ length r.exprs
  pub pad_count : length m.pads ≡ length (r.pads).inputs

-- ---- cells

-- cell c is a word of this kind
abbrev pub IsWordOf : Rtl → ℕ → CellKind → Type 0
IsWordOf r c kind = (x : cells.Cell) × IsAt r.cells c x × (x.kind ≡ kind) × (x.word ≡ true)

-- it is a driven word
abbrev pub IsDrivenWord : Rtl → ℕ → Type 0
IsDrivenWord r c = (x : cells.Cell) × IsAt r.cells c x × (is_driven x.kind ≡ true) × (x.word ≡ true)

-- one of the first t tasks
abbrev pub IsDone : Names → ℕ → Task → Type 0
IsDone names t task = (s : ℕ) × (s < t) × (slice_get names.tasks s ≡ Some task)

-- The first i cells have the words that are inputs or stored, the first t tasks are done, and the first j cells have
-- their next values.
pub record AreCellsMade (r : Rtl) (names : Names) (i t j : ℕ) (m : Making) : Type 0 where
  pub ports : (c k : ℕ) → c < i → IsWordOf r c (kinds.Input k)
      → (id : NetId) × (pad : NetId) × Stands m.cell_words c id × Stands m.pads k pad × InputWord m.slices.net id pad
  pub waiting : (c : ℕ) → c < i → j ≤ c → IsWordOf r c kinds.Stored
      → (id : NetId) × Stands m.cell_words c id × IsWaiting m.slices.net id
  pub stored : (c reset : ℕ) → c < j → IsWordOf r c kinds.Stored → r.reset ≡ Some reset
      → (id : NetId) × Stands m.cell_words c id × StoredWord r m.slices m.casts names m.words c reset id
  pub driven : (c : ℕ) → IsDrivenWord r c → IsDone names t (tasks.Cell c)
      → (id : NetId) × Stands m.cell_words c id × DrivenWord r m.slices m.casts names m.words c id
  pub only : (c : ℕ) (id : NetId) → Stands m.cell_words c id
      → (x : cells.Cell) × IsAt r.cells c x × (x.word ≡ true)
      × MatchBool (is_driven x.kind) (IsDone names t (tasks.Cell c)) (c < i)
  pub pads : (k : ℕ) (pad : NetId) → Stands m.pads k pad → (c : ℕ) × (c < i) × IsWordOf r c (kinds.Input k)
  pub unfed : (n : ℕ) → IsUnfed m.slices.net n
      → (c : ℕ) × (id : NetId) × (j ≤ c) × IsWordOf r c kinds.Stored × Stands m.cell_words c id × (id.0 ≡ suc n)

-- ---- expressions

-- an operator has its nets: a word, or what is lifted into the control
pub record IsApplied (names : Names) (m : Making) (e : ℕ) (op : Op) (index : ℕ) (args : List ℕ) : Type 0 where
  pub word : gives_word op ≡ true → (id : NetId) × Stands m.words e id × Placed m.slices m.words op args id
  pub test : takes_words op ≡ true → gives_word op ≡ false → op ≢ ops.Bit
      → (l : Lift) × Contains m.lifts l × Stands names.exprs e l.control × (suc l.slice ≡ m.width)
      × Placed m.slices m.words op args l.from
  pub bit : op ≡ ops.Bit
      → (l : Lift) × Contains m.lifts l × Stands names.exprs e l.control × (l.slice ≡ index)
      × Stands m.words (slice_index_or args 0 0) l.from

-- an expression has its nets
abbrev pub IsExprMade : Rtl → Names → Making → ℕ → RtlExpr → Type 0
IsExprMade r names m e (Number n) =
    (g : Programmed) × Contains m.slices.programs g × (g.bits ≡ n) × Stands m.words e g.net
IsExprMade r names m e (Truth b) = Unit {0}
IsExprMade r names m e (Cell c) =
    (x : cells.Cell) → IsAt r.cells c x → x.word ≡ true
    → (id : NetId) × Stands m.words e id × Stands m.cell_words c id
IsExprMade r names m e (Apply op index args) = IsApplied names m e op index args

pub record AreExprsMade (r : Rtl) (names : Names) (t : ℕ) (m : Making) : Type 0 where
  pub exprs : (e : ℕ) (x : RtlExpr) → IsAt r.exprs e x → IsDone names t (tasks.Expr e) → IsExprMade r names m e x
  pub only : (e : ℕ) (id : NetId) → Stands m.words e id
      → (x : RtlExpr) × IsAt r.exprs e x × IsSort r.cells x true × IsDone names t (tasks.Expr e)
  pub lifts : (l : Lift) → Contains m.lifts l
      → (e : ℕ) × (x : RtlExpr) × IsAt r.exprs e x × IsEntry x × Stands names.exprs e l.control
      × IsDone names t (tasks.Expr e)

-- ---- all

-- what was spent
pub record AreSpent (cost most : ℕ) (m : Making) : Type 0 where
  pub nets : length m.slices.net ≤ cost
  pub inputs : gate_inputs m.slices.net ≤ 2 * cost
  pub columns : columns m ≤ cost
  pub crossings : crossings m ≤ most

-- sound transfers that aren't large, with the bits that they became
pub record IsGiven (r : Rtl) (bits : List Part) (names : Names) : Type 0 where
  pub sound : IsSound r
  pub light : cost r ≤ WEIGHT_LIMIT
  pub lowered : IsLowered r [] bits names

-- the first i cells have their latches, the first t tasks are done, and the first j cells have their next values
pub record IsProgress (r : Rtl) (bits : List Part) (names : Names) (i t j : ℕ) (m : Making) : Type 0 where
  pub given : IsGiven r bits names
  pub begun : IsBegun r bits names m
  pub cells : AreCellsMade r names i t j m
  pub exprs : AreExprsMade r names t m
  pub spends : AreSpent (spent r i (take t names.tasks) j) (crossed r (take t names.tasks) j) m
  pub cleared : list_any is_stored_word (take j r.cells) ≡ true → IsSome m.clear

-- the same of a path in the making, with its own control
abbrev pub IsMadeTo : Rtl → ℕ → ℕ → ℕ → Making → Type 0
IsMadeTo r i t j m = IsProgress r m.control m.names i t j m

-- the last mark is set before task t, at what stands in the slices
pub record IsMarkedAt (t : ℕ) (m : Making) : Type 0 where
  pub slices : (last_mark m).slices ≡ length m.slices.net
  pub control : (last_mark m).control ≡ nets_before m.names t

-- the names of bits stay, and the marks
pub record KeepsMarks (old new : Making) : Type 0 where
  pub names : new.names ≡ old.names
  pub marks : new.marks ≡ old.marks
