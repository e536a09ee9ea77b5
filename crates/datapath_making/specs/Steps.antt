-- What each step asks, and what it makes.
use Rattle.std.specs.Prelude.{◌≡◌, ◌≢◌, ◌<◌, ◌≤◌, ◌-◌, ℕ, suc, List, [], ◌∷◌, ◌++◌, Option, Some, None, IsSome}
use Rattle.std.specs.Prelude.{Contains, length, map, replicate, slice_get, slice_set, slice_index_or}
use Rattle.mp_base.specs.declared.op.Op.{Op}
use Rattle.nor_net.specs.declared.net.NetId.{NetId}
use Rattle.nor_net.specs.declared.net.Part.{Part}
use Rattle.nor_net.specs.declared.net.Phase.TheVariants as phases
use Rattle.nor_net.specs.declared.net.Part.TheVariants as parts
use Rattle.organelles.specs.declared.slices.Organelle.{Organelle}
use Rattle.organelles.specs.declared.slices.Programmed.{Programmed}
use Rattle.organelles.specs.Computing.{result_at, with_table}
use Rattle.organelles.specs.Tables.{op_of, table_of}
use Rattle.rtl_form.specs.declared.rtl.Transfer.{Transfer}
use Rattle.rtl_form.specs.declared.rtl.Rtl.{Rtl}
use Rattle.control_nor.specs.declared.names.Names.{Names}
use Rattle.control_nor.specs.Lowering.{Stands}
use Rattle.path_form.specs.declared.path.Lift.{Lift}
use Rattle.path_form.specs.Shape.{times}
use Rattle.path_order.specs.declared.order.Mark.{Mark}
use Rattle.path_values.specs.Allocated.{DrivenWord, InputWord, IsGate, Placed, StoredWord}
use Rattle.datapath_making.specs.declared.making.Making.{Making}
use Rattle.datapath_making.specs.Growing.{Appends, Grows, IsUnfed}
use Rattle.datapath_making.specs.Marking.{last_mark}
use Rattle.datapath_making.specs.Sizes.{Spends}
use Rattle.datapath_making.specs.WellMade.{IsWellMade}

-- nothing was made of the slices
abbrev pub begun : Rtl → List Part → Names → Option NetId → Making
begun r control names reset = record {
  width = r.width;
  control = control;
  names = names;
  reset = reset;
  slices = record { net = []; chains = []; programs = [] };
  casts = [];
  lifts = [];
  cell_words = replicate (length r.cells) None;
  words = replicate (length r.exprs) None;
  pads = replicate (length (r.pads).inputs) None;
  guards = replicate (length r.exprs) None;
  clear = None;
  marks = [];
}

-- ---- what steps ask

-- entry k is there, and nothing stands for it yet
abbrev pub IsFree : List (Option NetId) → ℕ → Type 0
IsFree entries k = slice_get entries k ≡ Some None

-- an expression has a word that was made before the last mark
abbrev pub IsReached : Making → ℕ → Type 0
IsReached m e = (id : NetId) × Stands m.words e id × (id.0 < (last_mark m).slices)

-- where a bit enters the control, behind the last mark and not lifted yet
abbrev pub IsWaited : Making → ℕ → Type 0
IsWaited m e =
    (id : NetId) × Stands m.names.exprs e id × ((last_mark m).control ≤ id.0)
    × (times id.0 (map (λ (l : Lift). l.control) m.lifts) ≡ 0)

-- a bit of the control that was made before the last mark
abbrev pub IsBitReached : Making → List (Option NetId) → ℕ → Type 0
IsBitReached m entries k = (id : NetId) × Stands entries k id × (id.0 < (last_mark m).control)

-- the value of a transfer has a word, and its guard was made before the last mark
abbrev pub IsTransferReached : Making → Transfer → Type 0
IsTransferReached m t = ((id : NetId) × Stands m.words t.value id) × IsBitReached m m.names.exprs t.guard

-- a stored word whose slave has no data yet
pub record IsWaiting (net : List Part) (id : NetId) : Type 0 where
  pub slave : NetId
  pub behind : id.0 ≡ suc slave.0
  pub is_slave : slice_get net slave.0 ≡ Some (parts.Latch phases.B None)
  pub is_word : IsGate net id (slave ∷ [])

-- ---- what steps make

-- a step that has this cost and adds so many crossings
pub record IsStep (cost crossed : ℕ) (old new : Making) : Type 0 where
  pub grows : Grows old new
  pub spends : Spends cost crossed old new
  pub marks : new.marks ≡ old.marks
  pub made : IsWellMade new

-- the net of pad k, and the word of cell c, which is a latch on it
pub record IsPortMade (c k : ℕ) (old new : Making) : Type 0 where
  pub id : NetId
  pub pad : NetId
  pub is_port : InputWord new.slices.net id pad
  pub cells : new.cell_words ≡ slice_set old.cell_words c (Some id)
  pub pads : new.pads ≡ slice_set old.pads k (Some pad)
  pub words : new.words ≡ old.words
  pub lifts : new.lifts ≡ old.lifts
  pub appends : Appends old.slices.net new.slices.net

-- the word of cell c, and its slave, which waits for its data
pub record IsSlaveMade (c : ℕ) (old new : Making) : Type 0 where
  pub id : NetId
  pub waiting : IsWaiting new.slices.net id
  pub cells : new.cell_words ≡ slice_set old.cell_words c (Some id)
  pub pads : new.pads ≡ old.pads
  pub words : new.words ≡ old.words
  pub lifts : new.lifts ≡ old.lifts
  pub parts : (more : List Part) × (new.slices.net ≡ old.slices.net ++ more)
  pub unfed : (n : ℕ) → length old.slices.net ≤ n → IsUnfed new.slices.net n → id.0 ≡ suc n

-- the word of expression e, with the bits of a number
pub record IsNumberMade (e n : ℕ) (old new : Making) : Type 0 where
  pub program : Programmed
  pub is_program : Contains new.slices.programs program
  pub bits : program.bits ≡ n
  pub words : new.words ≡ slice_set old.words e (Some program.net)
  pub cells : new.cell_words ≡ old.cell_words
  pub pads : new.pads ≡ old.pads
  pub lifts : new.lifts ≡ old.lifts
  pub appends : Appends old.slices.net new.slices.net

-- the word of expression e, if there is one, is that of cell c
abbrev pub read_cell : ℕ → ℕ → Making → Making
read_cell e c m = record m { words = slice_set m.words e (slice_index_or m.cell_words c None) }

-- the word of expression e is that of an operator
pub record IsOperatorMade (e : ℕ) (op : Op) (args : List ℕ) (old new : Making) : Type 0 where
  pub id : NetId
  pub placed : Placed new.slices old.words op args id
  pub words : new.words ≡ slice_set old.words e (Some id)
  pub cells : new.cell_words ≡ old.cell_words
  pub pads : new.pads ≡ old.pads
  pub lifts : new.lifts ≡ old.lifts
  pub appends : Appends old.slices.net new.slices.net

-- the bit of expression e is that of a test, which is lifted from the top slice
pub record IsTestMade (e : ℕ) (op : Op) (args : List ℕ) (old new : Making) : Type 0 where
  pub lift : Lift
  pub is_entry : Stands old.names.exprs e lift.control
  pub is_top : suc lift.slice ≡ old.width
  pub placed : Placed new.slices old.words op args lift.from
  pub lifts : new.lifts ≡ old.lifts ++ lift ∷ []
  pub words : new.words ≡ old.words
  pub cells : new.cell_words ≡ old.cell_words
  pub pads : new.pads ≡ old.pads
  pub appends : Appends old.slices.net new.slices.net

-- the bit of expression e is one of a word's
pub record IsBitMade (e index a : ℕ) (old new : Making) : Type 0 where
  pub lift : Lift
  pub is_entry : Stands old.names.exprs e lift.control
  pub at_index : lift.slice ≡ index
  pub is_word : Stands old.words a lift.from
  pub lifts : new.lifts ≡ old.lifts ++ lift ∷ []
  pub words : new.words ≡ old.words
  pub cells : new.cell_words ≡ old.cell_words
  pub pads : new.pads ≡ old.pads
  pub slices : new.slices ≡ old.slices

-- the word of cell c is what transfers drive
pub record IsDrivenMade (r : Rtl) (c : ℕ) (old new : Making) : Type 0 where
  pub id : NetId
  pub is_word : DrivenWord r new.slices new.casts old.names old.words c id
  pub cells : new.cell_words ≡ slice_set old.cell_words c (Some id)
  pub pads : new.pads ≡ old.pads
  pub words : new.words ≡ old.words
  pub lifts : new.lifts ≡ old.lifts
  pub clear : new.clear ≡ old.clear
  pub appends : Appends old.slices.net new.slices.net

-- the stored word of cell c has its next value, and its slave has its data
pub record IsNextMade (r : Rtl) (c reset : ℕ) (old new : Making) : Type 0 where
  pub id : NetId
  pub is_id : Stands old.cell_words c id
  pub is_word : StoredWord r new.slices new.casts old.names old.words c reset id
  pub behind : id.0 ≡ suc is_word.slave.0
  pub cells : new.cell_words ≡ old.cell_words
  pub pads : new.pads ≡ old.pads
  pub words : new.words ≡ old.words
  pub lifts : new.lifts ≡ old.lifts
  pub clear : IsSome new.clear
  pub others : (n : ℕ) (q : Part) → n ≢ is_word.slave.0 → slice_get old.slices.net n ≡ Some q
      → slice_get new.slices.net n ≡ Some q
  pub unfed : (n : ℕ) → IsUnfed new.slices.net n → IsUnfed old.slices.net n × (n ≢ is_word.slave.0)

-- a mark at what stands in the slices, and at this many nets of the control
abbrev pub marked : ℕ → Making → Making
marked control m = record m {
  marks = m.marks ++ (let k : Mark = record { slices = length m.slices.net; control = control } in k) ∷ [];
}

-- ---- parts of steps

-- an input and a latch on it were added
pub record IsPortAdded (old new : List Part) (pad latch : NetId) : Type 0 where
  pub parts : new ≡ old ++ parts.Input ∷ parts.Latch phases.C (Some pad) ∷ []
  pub at_pad : pad.0 ≡ length old
  pub at_latch : latch.0 ≡ suc (length old)

-- a slave without data and a gate on it were added
pub record IsSlaveAdded (old new : List Part) (word : NetId) : Type 0 where
  pub slave : NetId
  pub parts : new ≡ old ++ parts.Latch phases.B None ∷ parts.Gate (slave ∷ []) ∷ []
  pub at_slave : slave.0 ≡ length old
  pub at_word : word.0 ≡ suc (length old)

-- the nets of an operator were added on those of its arguments
pub record IsOperatorAdded (op : Op) (args : List ℕ) (old new : Making) (id : NetId) : Type 0 where
  pub kind : Organelle
  pub is_kind : op_of kind ≡ op
  pub a : NetId
  pub b : NetId
  pub is_a : Stands old.words (slice_index_or args 0 0) a
  pub is_b : Stands old.words (slice_index_or args (length args - 1) 0) b
  pub reached : a.0 < (last_mark old).slices
  pub added : new ≡ record old { slices = with_table (table_of kind) a b old.slices }
  pub is_result : id ≡ result_at (table_of kind) a b old.slices
