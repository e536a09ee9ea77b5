-- What each cell stands for.
use Rattle.std.specs.Prelude.{
  ◌≡◌,
  ℕ,
  ◌-◌,
  ◌<◌,
  List,
  [],
  true,
  false,
  ◌==◌,
  Option,
  Some,
  None,
  length,
  map,
  take,
  count_by,
  slice_index,
  slice_index_or,
}
pub use Rattle.process_plan.specs.declared.role.Role.{Role}
pub use Rattle.process_plan.specs.declared.role.Role.TheVariants.{Value, Placed, Stacked}
use Rattle.mp_base.specs.Apply.{truth}
use Rattle.mp_program.specs.declared.program.What.{What}
use Rattle.mp_program.specs.declared.program.What.TheVariants.{Register, Flag, Port, Signal}
use Rattle.mp_program.specs.declared.program.Way.TheVariants.{Input, Output, Internal}
use Rattle.mp_program.specs.declared.program.Def.{Def}
use Rattle.mp_program.specs.declared.program.Process.{Process}
use Rattle.mp_program.specs.declared.program.Program.{Program}
use Rattle.mp_program.specs.Names.{is_output, pad_number}
use Rattle.mp_program.specs.State.{Seat}
use Rattle.mp_program.specs.Weight.{calls_in}
use Rattle.mp_base.specs.Entries.{IsAt}
use Rattle.rtl_form.specs.declared.rtl.CellKind.TheVariants as kinds
use Rattle.rtl_form.specs.declared.rtl.Cell.{Cell}

-- the seat of process k
abbrev pub seat_at : List Seat → ℕ → Seat
seat_at seats k = slice_index_or seats k (record { place = 0; stack = [] })

-- the value of a cell with this role, where values has those of the definitions
abbrev pub role_value : List ℕ → List Seat → Role → ℕ
role_value values seats (Value d) = slice_index values d
role_value values seats (Placed k j) = truth ((seat_at seats k).place == j)
role_value values seats (Stacked k l j) = truth (slice_index (seat_at seats k).stack l == j)

-- the values of all cells
abbrev pub cell_values : List Role → List ℕ → List Seat → List ℕ
cell_values roles values seats = map (role_value values seats) roles

-- the output pad of the definition at an index, where that is an output
abbrev pub output_number : List Def → ℕ → ℕ
output_number defs d = count_by (λ (x : Def). is_output x.what) (take d defs)

-- the cell of a definition, which constants and supplies lack
abbrev pub def_cell : List Def → ℕ → What → Option Cell
def_cell defs d Register = Some (record { word = true; kind = kinds.Stored })
def_cell defs d Flag = Some (record { word = false; kind = kinds.Stored })
def_cell defs d (Port Input) = Some (record { word = true; kind = kinds.Input (pad_number defs d) })
def_cell defs d (Signal Input) = Some (record { word = false; kind = kinds.Input (pad_number defs d) })
def_cell defs d (Port Output) = Some (record { word = true; kind = kinds.Output (output_number defs d) })
def_cell defs d (Signal Output) = Some (record { word = false; kind = kinds.Output (output_number defs d) })
def_cell defs d (Port Internal) = Some (record { word = true; kind = kinds.Inner })
def_cell defs d (Signal Internal) = Some (record { word = false; kind = kinds.Inner })
def_cell defs d _ = None

-- a place to which a call in the form before it returns; the first form has none before it
abbrev pub IsReturnPlace : Program → Process → ℕ → Type 0
IsReturnPlace p q j = (0 < j) × (j < length q.forms) × (0 < calls_in p (slice_index q.forms (j - 1)))

-- the cell of a place, and of an entry of a stack
abbrev pub stored_bit : Cell
stored_bit = record { word = false; kind = kinds.Stored }

-- the program has something with this role, and this is its cell: place 0 has none, it is where no other place is
abbrev pub IsCellOf : Program → Role → Cell → Type 0
IsCellOf p (Value d) x = (y : Def) × IsAt p.defs d y × (def_cell p.defs d y.what ≡ Some x)
IsCellOf p (Placed k j) x =
    (q : Process) × IsAt p.processes k q × (0 < j) × (j < length q.forms) × (x ≡ stored_bit)
IsCellOf p (Stacked k l j) x =
    (q : Process) × IsAt p.processes k q × (l < q.depth) × IsReturnPlace p q j × (x ≡ stored_bit)

-- the cells, one for each thing that has one
pub record AreCells (p : Program) (roles : List Role) (cells : List Cell) : Type 0 where
  pub size : length cells ≡ length roles
  pub each : (c : ℕ) (s : Role) → IsAt roles c s → (x : Cell) × IsAt cells c x × IsCellOf p s x
  pub all : (s : Role) (x : Cell) → IsCellOf p s x → (c : ℕ) × IsAt roles c s
  pub once : (c d : ℕ) (s : Role) → IsAt roles c s → IsAt roles d s → c ≡ d
