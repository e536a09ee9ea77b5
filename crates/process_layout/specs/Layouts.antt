-- The cells of a program.
use Rattle.std.specs.Prelude.{◌≡◌, ℕ, ◌<◌, List, length, slice_index}
use Rattle.mp_program.specs.declared.program.Program.{Program}
use Rattle.mp_base.specs.Entries.{IsAt}
use Rattle.process_plan.specs.declared.role.Role.{Role}
use Rattle.process_plan.specs.declared.role.Role.TheVariants.{Value}
use Rattle.process_plan.specs.Roles.{AreCells}
use Rattle.process_plan.specs.Plan.{IsResetCell}
pub use Rattle.process_layout.specs.Index.{IsCellFor}
use Rattle.process_layout.specs.declared.layout.Layout.{Layout}

-- each definition in a list has a cell
abbrev pub HaveCells : List Role → List ℕ → Type 0
HaveCells roles order = (k : ℕ) → k < length order → (c : ℕ) × IsAt roles c (Value (slice_index order k))

-- the cells of definitions in an order
pub record IsOrderOf (roles : List Role) (order : List ℕ) (cells : List ℕ) : Type 0 where
  pub size : length cells ≡ length order
  pub ordered : (k d : ℕ) → IsAt order k d → (c : ℕ) × IsAt cells k c × IsAt roles c (Value d)

-- the cells of a program whose definitions can be evaluated in this order
pub record IsLayoutOf (p : Program) (order : List ℕ) (l : Layout) : Type 0 where
  pub cells : AreCells p l.roles l.cells
  pub reset : IsResetCell p l.cells l.reset
  pub size : length l.order ≡ length order
  pub ordered : (k d : ℕ) → IsAt order k d → (c : ℕ) × IsAt l.order k c × IsAt l.roles c (Value d)
