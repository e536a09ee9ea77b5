-- What the transfers of processes are made of.
use Rattle.std.specs.Prelude.{◌≡◌, ◌≤◌, ◌<◌, ℕ, ◌-◌, ◌+◌, List, length}
use Rattle.mp_program.specs.declared.program.Process.{Process}
use Rattle.mp_program.specs.declared.program.Program.{Program}
use Rattle.mp_base.specs.Entries.{IsAt}
use Rattle.rtl_form.specs.declared.rtl.Cell as cells
use Rattle.rtl_form.specs.declared.rtl.RtlExpr.{RtlExpr}
use Rattle.rtl_form.specs.declared.rtl.RtlExpr.TheVariants.{Cell}
use Rattle.process_plan.specs.declared.role.Role.{Role}
use Rattle.process_plan.specs.declared.role.Role.TheVariants.{Stacked}
use Rattle.process_plan.specs.Roles.{AreCells}
use Rattle.process_plan.specs.Bill.{exprs_cost}
use Rattle.process_plan.specs.Fits.{ExprsFit}
use Rattle.process_layout.specs.Steps.{Keeps}
use Rattle.process_jumps.specs.declared.jumps.Jumps.{Jumps}
use Rattle.process_transfers.specs.declared.roles.Control.{Control}

-- expressions are only added, at no price; all fit where those did that were there, and there are cells below n
pub record IsGrownBy (n : ℕ) (old new : List RtlExpr) : Type 0 where
  pub kept : Keeps old new
  pub cost : exprs_cost new ≤ exprs_cost old
  pub fits : (w : ℕ) (xs : List cells.Cell) → n ≤ length xs → ExprsFit w xs old → ExprsFit w xs new

-- e reads the cell c, where that of an entry of a stack is it
abbrev pub IsReading : List RtlExpr → Role → ℕ → ℕ → Type 0
IsReading exprs s c e = (k l j : ℕ) → s ≡ Stacked k l j → IsAt exprs e (Cell c)

pub record IsReadingMade (s : Role) (c : ℕ) (old new : List RtlExpr) (e : ℕ) : Type 0 where
  pub grown : IsGrownBy (c + 1) old new
  pub reads : IsReading new s c e

-- the same of the first n cells
pub record AreReadingsMade (roles : List Role) (n : ℕ) (old new : List RtlExpr) (es : List ℕ) : Type 0 where
  pub size : length es ≡ n
  pub grown : IsGrownBy n old new
  pub each : (c e : ℕ) (s : Role) → IsAt roles c s → IsAt es c e → IsReading new s c e

-- these are for all cells, processes and places of a program
pub record IsControl (p : Program) (roles : List Role) (xs : List cells.Cell) (x : Control) : Type 0 where
  pub cells : AreCells p roles xs
  pub jumps : length x.jumps ≡ length p.processes
  pub falls : (k : ℕ) (q : Process) (m : Jumps) → IsAt p.processes k q → IsAt x.jumps k m
      → length m.falls ≡ length q.forms
  pub places : length x.places ≡ length p.processes
  pub sizes : (k : ℕ) (q : Process) (es : List ℕ) → IsAt p.processes k q → IsAt x.places k es
      → length es ≡ length q.forms
  pub readings : length x.readings ≡ length roles
  pub shallow : (k : ℕ) (q : Process) → IsAt p.processes k q → q.depth ≤ 8

-- there is a place before this one in process k
pub record PlaceFits (x : Control) (k j : ℕ) : Type 0 where
  pub jumps : k < length x.jumps
  pub places : k < length x.places
  pub behind : 0 < j
  pub falls : (m : Jumps) → IsAt x.jumps k m → j - 1 < length m.falls
  pub sizes : (es : List ℕ) → IsAt x.places k es → j - 1 < length es
