-- In which order cells are laid: those of the definitions, then for each process those of its places and of its stack.
use Rattle.std.specs.Prelude.{
  ℕ,
  suc,
  ◌-◌,
  List,
  [],
  ◌∷◌,
  ◌++◌,
  if◌then◌else◌,
  true,
  false,
  Bool,
  Option,
  Some,
  None,
  length,
  map,
  slice_get,
  slice_index,
}
use Prim.Native.Nat.{zero}
use Rattle.std.specs.Option.{option_map_or}
use Rattle.mp_program.specs.declared.program.What.{What}
use Rattle.mp_program.specs.declared.program.What.TheVariants.{Register, Flag, Port, Signal}
use Rattle.mp_program.specs.declared.program.Way.{Way}
use Rattle.mp_program.specs.declared.program.Way.TheVariants.{Input, Output, Internal}
use Rattle.mp_program.specs.declared.program.Def.{Def}
use Rattle.mp_program.specs.declared.program.Process.{Process}
use Rattle.mp_program.specs.declared.program.Program.{Program}
use Rattle.rtl_form.specs.declared.rtl.CellKind.{CellKind}
use Rattle.rtl_form.specs.declared.rtl.CellKind.TheVariants as kinds
use Rattle.rtl_form.specs.declared.rtl.Cell.{Cell}
use Rattle.process_plan.specs.declared.role.Role.{Role}
use Rattle.process_plan.specs.declared.role.Role.TheVariants.{Value, Placed, Stacked}
use Rattle.process_plan.specs.Roles.{def_cell, stored_bit}

-- where the cell of a port or signal has its value from, where so many inputs and outputs are before it
abbrev pub numbered_kind : (inputs outputs : ℕ) → Way → CellKind
numbered_kind inputs outputs Input = kinds.Input inputs
numbered_kind inputs outputs Output = kinds.Output outputs
numbered_kind inputs outputs Internal = kinds.Inner

-- the cell of a definition
abbrev pub numbered_cell : (inputs outputs : ℕ) → What → Option Cell
numbered_cell inputs outputs Register = Some (record { word = true; kind = kinds.Stored })
numbered_cell inputs outputs Flag = Some (record { word = false; kind = kinds.Stored })
numbered_cell inputs outputs (Port way) = Some (record { word = true; kind = numbered_kind inputs outputs way })
numbered_cell inputs outputs (Signal way) = Some (record { word = false; kind = numbered_kind inputs outputs way })
numbered_cell inputs outputs _ = None

-- the cell of the definition at an index
abbrev pub cell_at : List Def → ℕ → Option Cell
cell_at defs d = option_map_or (λ (x : Def). def_cell defs d x.what) (slice_get defs d) None

-- a cell, or that of a place where there is none
abbrev pub cell_or_bit : Option Cell → Cell
cell_or_bit (Some x) = x
cell_or_bit None = stored_bit

-- the cell of what has this role
abbrev pub cell_for : List Def → Role → Cell
cell_for defs (Value d) = cell_or_bit (cell_at defs d)
cell_for defs (Placed k j) = stored_bit
cell_for defs (Stacked k l j) = stored_bit

-- the role of a definition, where it has a cell
abbrev pub own_role : ℕ → Option Cell → List Role
own_role d (Some x) = Value d ∷ []
own_role d None = []

-- the roles of the first definitions
abbrev pub value_roles : List Def → ℕ → List Role
value_roles defs zero = []
value_roles defs (suc d) = value_roles defs d ++ own_role d (cell_at defs d)

-- the places 1 to n of process k
abbrev pub place_roles : ℕ → ℕ → List Role
place_roles k zero = []
place_roles k (suc j) = place_roles k j ++ Placed k (suc j) ∷ []

-- those of the places 1 to n that stand behind a form with a call
abbrev pub returns_to : (ℕ → Bool) → List ℕ → ℕ → List ℕ
returns_to calling forms zero = []
returns_to calling forms (suc i) =
    returns_to calling forms i ++ (if calling (slice_index forms i) then suc i ∷ [] else [])

-- the entries of the first levels of a stack, each of which may be one of the places js
abbrev pub entry_roles : ℕ → List ℕ → ℕ → List Role
entry_roles k js zero = []
entry_roles k js (suc l) = entry_roles k js l ++ map (Stacked k l) js

-- the places and entries of a process
abbrev pub process_roles : (ℕ → Bool) → ℕ → Process → List Role
process_roles calling k q = place_roles k (length q.forms - 1)
    ++ entry_roles k (returns_to calling q.forms (length q.forms - 1)) q.depth

-- those of the first processes
abbrev pub processes_roles : (ℕ → Bool) → List Process → ℕ → List Role
processes_roles calling qs zero = []
processes_roles calling qs (suc k) =
    processes_roles calling qs k ++ option_map_or (process_roles calling k) (slice_get qs k) []

-- all roles of a program, where it is said which of its forms have a call
abbrev pub all_roles : (ℕ → Bool) → Program → List Role
all_roles calling p = value_roles p.defs (length p.defs) ++ processes_roles calling p.processes (length p.processes)
