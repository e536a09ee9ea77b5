-- What is built of a program.
use Rattle.std.specs.Prelude.{◌≡◌, ℕ, ◌≤◌, List, [], Bool, true, false, Option}
use Rattle.mp_program.specs.declared.program.FormKind.{FormKind}
use Rattle.mp_program.specs.declared.program.FormKind.TheVariants.{Set}
use Rattle.mp_program.specs.declared.program.Form.{Form}
use Rattle.mp_program.specs.declared.program.Program.{Program}
use Rattle.mp_program.specs.Pads.{ArePadsOf}
use Rattle.mp_base.specs.Entries.{IsAt}
use Rattle.rtl_form.specs.declared.rtl.Rtl.{Rtl}
use Rattle.process_plan.specs.Roles.{Role, AreCells}
use Rattle.process_plan.specs.Enables.{Enable}
use Rattle.process_plan.specs.Plan.{FollowsPlan, FollowsOrder, IsResetCell}
use Rattle.process_plan.specs.Bill.{Tally, IsBilled, cells_cost, defs_bill}
use Rattle.process_plan.specs.Fits.{ExprsFit}

-- transfers that follow a plan of a program, with cells in the order of its definitions, at the cost of its bill
pub record IsBuilt (p : Program) (order : List ℕ) (r : Rtl) : Type 0 where
  pub roles : List Role
  pub enables : List (Option Enable)
  pub tallies : List Tally
  pub guards : ℕ
  pub plan : FollowsPlan p r roles enables
  pub ordered : FollowsOrder r roles order
  pub fits : ExprsFit p.width r.cells r.exprs
  pub billed : IsBilled p r tallies guards

abbrev pub is_set : FormKind → Bool
is_set (Set x at value) = true
is_set _ = false

-- a program without a `setq` and without a process, of which cells are built alone: nothing would pay for an expression
-- that is always true
pub record IsIdle (p : Program) (order : List ℕ) (r : Rtl) : Type 0 where
  pub unset : (f : ℕ) (y : Form) → IsAt p.forms f y → is_set y.kind ≡ false
  pub alone : p.processes ≡ []
  pub roles : List Role
  pub width : r.width ≡ p.width
  pub padded : ArePadsOf p r.pads
  pub reset : IsResetCell p r.cells r.reset
  pub cells : AreCells p roles r.cells
  pub ordered : FollowsOrder r roles order
  pub exprs : r.exprs ≡ []
  pub transfers : r.transfers ≡ []
  pub billed : cells_cost r.cells ≤ defs_bill p.defs
