-- Made programs: two words come in, 12 registers take on operators of two operands, and one word goes out.
use Rattle.std.specs.Prelude.{◌≡◌, ℕ, zero, suc, ◌+◌, List, [], ◌∷◌, ◌++◌, Bool, true, false, map, codes}
use Rattle.std.specs.List.{list_any}
use Rattle.mp_base.specs.declared.op.Op.{Op}
use Rattle.mp_base.specs.declared.op.Op.TheVariants.{Add, Sub, WordAnd, WordOr, WordXor}
use Rattle.mp_base.specs.declared.refusal.Place.{Place}
use Rattle.mp_program.specs.declared.program.ExprKind.TheVariants.{Named, Apply}
use Rattle.mp_program.specs.declared.program.FormKind.TheVariants.{Set}
use Rattle.mp_program.specs.declared.program.What.{What}
use Rattle.mp_program.specs.declared.program.What.TheVariants.{Power, Ground, Phia, Phib, Phic, Register, Port, Signal}
use Rattle.mp_program.specs.declared.program.Way.TheVariants.{Input, Output}
use Rattle.mp_program.specs.declared.program.Pin.{Pin}
use Rattle.mp_program.specs.declared.program.Def.{Def}
use Rattle.mp_program.specs.declared.program.Expr.{Expr}
use Rattle.mp_program.specs.declared.program.Form.{Form}
use Rattle.mp_program.specs.declared.program.Program.{Program}
use Rattle.mp_program.specs.Names.{is_same}
use Rattle.program_maker.specs.Texts.{registers, operands}

-- a target, and the operator and operands that it takes on
pub record Row : Type 0 where
  pub target : List ℕ
  pub op : Op
  pub x : List ℕ
  pub y : List ℕ

abbrev pub is_drawn : Op → Bool
is_drawn Add = true
is_drawn Sub = true
is_drawn WordAnd = true
is_drawn WordOr = true
is_drawn WordXor = true
is_drawn _ = false

-- the registers, and then the output
abbrev pub targets : List (List ℕ)
targets = registers ++ codes "q" ∷ []

-- one of the five operators, of inputs and registers
pub record IsRow (row : Row) : Type 0 where
  pub op : is_drawn row.op ≡ true
  pub x : list_any (is_same row.x) operands ≡ true
  pub y : list_any (is_same row.y) operands ≡ true

abbrev pub AreRows : List Row → Type 0
AreRows [] = Unit {0}
AreRows (row ∷ rows) = IsRow row × AreRows rows

-- Of each thing a number is known, that of its node in the text; a function gives the place of each.

-- so many pins, of which the first stands at a node and has a number
abbrev pub pins_from : (ℕ → Place) → (node first : ℕ) → ℕ → List Pin
pins_from at node first zero = []
pins_from at node first (suc n) = record { place = at node; number = first } ∷ pins_from at (node + 1) (first + 1) n

abbrev pub def_at : (ℕ → Place) → ℕ → List ℕ → What → List Pin → Def
def_at at node name what pins = record { place = at node; name = name; what = what; pins = pins }

abbrev pub registers_from : (ℕ → Place) → ℕ → List (List ℕ) → List Def
registers_from at node [] = []
registers_from at node (r ∷ rs) = def_at at node r Register [] ∷ registers_from at (node + 4) rs

abbrev pub defs_of : (ℕ → Place) → List Def
defs_of at = def_at at 4 [] Power (pins_from at 6 1 1) ∷ def_at at 8 [] Ground (pins_from at 10 2 1)
    ∷ def_at at 12 [] Phia (pins_from at 14 3 1) ∷ def_at at 16 [] Phib (pins_from at 18 4 1) ∷ def_at at 20 [] Phic
    (pins_from at 22 5 1)
    ∷ def_at at 24 (codes "reset") (Signal Input) (pins_from at 29 6 1)
    ∷ def_at at 30 (codes "a") (Port Input) (pins_from at 36 10 16)
    ∷ def_at at 52 (codes "b") (Port Input) (pins_from at 58 26 16)
    ∷ def_at at 74 (codes "q") (Port Output) (pins_from at 80 42 16)
    ∷ registers_from at 96 registers

-- the expressions of rows, where the first has a number and the first row a node
abbrev pub exprs_from : (ℕ → Place) → (e node : ℕ) → List Row → List Expr
exprs_from at e node [] = []
exprs_from at e node (row ∷ rows) =
    record { place = at (node + 5); kind = Apply row.op 0 ((e + 1) ∷ (e + 2) ∷ []) }
    ∷ record { place = at (node + 7); kind = Named row.x }
    ∷ record { place = at (node + 8); kind = Named row.y } ∷ exprs_from at (e + 3) (node + 9) rows

-- the forms of rows
abbrev pub forms_from : (ℕ → Place) → (e node : ℕ) → List Row → List Form
forms_from at e node [] = []
forms_from at e node (row ∷ rows) =
    record { place = at (node + 2); kind = Set row.target (at (node + 4)) e } ∷ forms_from at (e + 3) (node + 9) rows

-- a made program
pub record IsMade (p : Program) : Type 0 where
  pub at : ℕ → Place
  pub rows : List Row
  pub are_rows : AreRows rows
  pub targets_are : map (λ (row : Row). row.target) rows ≡ targets
  pub width : p.width ≡ 16
  pub defs : p.defs ≡ defs_of at
  pub exprs : p.exprs ≡ exprs_from at 0 144 rows
  pub forms : p.forms ≡ forms_from at 0 144 rows
  pub processes : p.processes ≡ []
