-- Equal expressions share their nets.
use Rattle.std.specs.Prelude.{◌≡◌, ◌<◌, ℕ, List, Option, true, false, Contains, length, slice_index_or, ◌≢◌}
use Rattle.mp_base.specs.declared.op.Op.{Op}
use Rattle.mp_base.specs.declared.op.Op.TheVariants as ops
use Rattle.nor_net.specs.declared.net.NetId.{NetId}
use Rattle.rtl_form.specs.declared.rtl.RtlExpr.TheVariants.{Number, Apply}
use Rattle.rtl_form.specs.declared.rtl.Rtl.{Rtl}
use Rattle.mp_base.specs.Entries.{IsAt}
use Rattle.rtl_form.specs.Operands.{gives_word, takes_words}
use Rattle.control_nor.specs.declared.names.Names.{Names}
use Rattle.control_nor.specs.Lowering.{Stands}
use Rattle.path_form.specs.declared.path.DataPath.{DataPath}
use Rattle.path_form.specs.declared.path.Lift.{Lift}
use Rattle.path_values.specs.Allocated.{IsAllocated}

-- these expressions have the same nets, one by one
pub record OnSameNets (words : List (Option NetId)) (args others : List ℕ) : Type 0 where
  pub count : length args ≡ length others
  pub each : (k : ℕ) → k < length args
      → (id : NetId) × Stands words (slice_index_or args k 0) id × Stands words (slice_index_or others k 0) id

-- Equal numbers have one net. An operator has one net on the same nets, and a test of words one answer, which is lifted
-- for each of its expressions.
pub record SharesNets (r : Rtl) (names : Names) (words : List (Option NetId)) (lifts : List Lift) : Type 0 where
  pub numbers : (e f n : ℕ) (i j : NetId) → IsAt r.exprs e (Number n) → IsAt r.exprs f (Number n)
      → Stands words e i → Stands words f j → i ≡ j
  pub operators : (e f : ℕ) (op : Op) (index other : ℕ) (args others : List ℕ) (i j : NetId)
      → IsAt r.exprs e (Apply op index args) → IsAt r.exprs f (Apply op other others)
      → gives_word op ≡ true → OnSameNets words args others → Stands words e i → Stands words f j → i ≡ j
  pub tests : (e f : ℕ) (op : Op) (index other : ℕ) (args others : List ℕ)
      → IsAt r.exprs e (Apply op index args) → IsAt r.exprs f (Apply op other others)
      → takes_words op ≡ true → gives_word op ≡ false → op ≢ ops.Bit → OnSameNets words args others
      → (l : Lift) × (m : Lift) × Contains lifts l × Contains lifts m × Stands names.exprs e l.control
      × Stands names.exprs f m.control × (l.from ≡ m.from)

-- a path that stands for transfers, in which equal expressions share their nets
abbrev pub IsAllocatedOnce : Rtl → DataPath → Type 0
IsAllocatedOnce r p = (a : IsAllocated r p) × SharesNets r a.names a.words p.lifts
