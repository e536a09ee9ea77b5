-- What the nets of tasks mean: in values that they obey they have the values of their expressions and cells.
use Rattle.std.specs.Prelude.{◌≡◌, ◌<◌, ◌==◌, ◌&&◌, ℕ, List, Some, Bool, false, All, Contains, slice_get, slice_index}
use Rattle.std.specs.List.{list_any}
use Rattle.mp_base.specs.declared.value.Trit.{Trit}
use Rattle.nor_net.specs.Elements.{Spot}
use Rattle.nor_net.specs.declared.net.Part.{Part}
use Rattle.rtl_form.specs.declared.rtl.Transfer.{Transfer}
use Rattle.rtl_form.specs.declared.rtl.RtlExpr.{RtlExpr}
use Rattle.rtl_form.specs.declared.rtl.RtlExpr.TheVariants.{Number, Truth, Cell, Apply}
use Rattle.rtl_form.specs.declared.rtl.Rtl.{Rtl}
use Rattle.mp_base.specs.Entries.{IsAt}
use Rattle.rtl_form.specs.Operands.{takes_words}
use Rattle.rtl_form.specs.Values.{value_of}
use Rattle.task_schedule.specs.declared.task.Task.{Task}
use Rattle.task_schedule.specs.declared.task.Task.TheVariants as variants
use Rattle.bit_gates.specs.declared.rails.Rails.{Rails}
use Rattle.control_nor.specs.declared.names.Bits.{Bits}
use Rattle.bit_gates.specs.Cells.{transfers_to}
use Rattle.control_nor.specs.Lowering.{BitsFit, ObeysBehind}
use Rattle.control_nor.specs.Progress.{NamedTask}
use Rattle.bit_gates.specs.Rails.{Agree, HasRails, Known, Named}

-- what an expression reads has its bits; where a word enters, nothing makes the bit known
abbrev pub IsExprKnown : Rtl → (Spot → Trit) → List ℕ → Bits → RtlExpr → Type 0
IsExprKnown r v env bits (Number n) = ⊥
IsExprKnown r v env bits (Truth b) = Unit {0}
IsExprKnown r v env bits (Cell c) = Known v bits.cells c (slice_index env c)
IsExprKnown r v env bits (Apply op index args) =
    (takes_words op ≡ false) × All (λ a. Known v bits.exprs a (value_of r env a)) args

-- guards and values of the transfers to a cell have their bits
abbrev pub AreTransfersKnown : Rtl → (Spot → Trit) → List ℕ → Bits → ℕ → Type 0
AreTransfersKnown r v env bits c =
    (t : Transfer) → Contains r.transfers t → t.target ≡ c
    → Known v bits.exprs t.guard (value_of r env t.guard) × Known v bits.exprs t.value (value_of r env t.value)

-- a transfer of a bit writes a 1
abbrev pub is_active : (ℕ → ℕ) → Transfer → Bool
is_active value t = (value t.guard == 1) && (value t.value == 1)

-- the nets of the first t tasks, and of what had nets before
pub record IsMeant (r : Rtl) (tasks : List Task) (t first : ℕ) (new : List Part) (before after : Bits) : Type 0 where
  pub agree : (v : Spot → Trit) → ObeysBehind new first v
      → ((task : Task) (rails : Rails) → NamedTask before task rails → Agree v rails)
      → (task : Task) (rails : Rails) → NamedTask after task rails → Agree v rails
  pub exprs : (s e : ℕ) (x : RtlExpr) (rails : Rails) (v : Spot → Trit) (env : List ℕ) → s < t
      → slice_get tasks s ≡ Some (variants.Expr e) → IsAt r.exprs e x → Named after.exprs e rails
      → ObeysBehind new first v
      → BitsFit r env → IsExprKnown r v env after x → HasRails v rails (value_of r env e == 1)
  pub driven : (s c : ℕ) (rails : Rails) (v : Spot → Trit) (env : List ℕ) → s < t
      → slice_get tasks s ≡ Some (variants.Cell c) → Named after.cells c rails → ObeysBehind new first v
      → AreTransfersKnown r v env after c
      → HasRails v rails (list_any (is_active (value_of r env)) (transfers_to r.transfers c))
