-- Which tasks are noted.
use Rattle.std.specs.Prelude.{◌≡◌, ℕ, List, Option}
use Rattle.nor_net.specs.declared.net.NetId.{NetId}
use Rattle.rtl_form.specs.declared.rtl.RtlExpr.{RtlExpr}
use Rattle.rtl_form.specs.declared.rtl.Rtl.{Rtl}
use Rattle.mp_base.specs.Entries.{IsAt}
use Rattle.control_nor.specs.declared.names.Names.{Names}
use Rattle.task_schedule.specs.declared.task.Task.TheVariants as tasks
use Rattle.path_form.specs.declared.path.Lift.{Lift}
use Rattle.datapath_making.specs.declared.making.Making.{Making}
use Rattle.datapath_sharing.specs.declared.built.Built.{Built}
use Rattle.datapath_sharing.specs.Sharing.{AreBuilt, IsExprNoted}
use Rattle.datapath_alloc.specs.Progress.{IsDone}

-- the first t tasks are noted
abbrev pub AreNoted : Rtl → Names → ℕ → Built → List (Option NetId) → List Lift → Type 0
AreNoted r names t b words lifts =
    (e : ℕ) (x : RtlExpr) → IsAt r.exprs e x → IsDone names t (tasks.Expr e) → IsExprNoted names b words lifts e x

-- all that is noted stands in the slices, and the first t tasks are noted
pub record IsSharing (r : Rtl) (t : ℕ) (b : Built) (m : Making) : Type 0 where
  pub built : AreBuilt b m.slices
  pub noted : AreNoted r m.names t b m.words m.lifts

-- what tells the nets of expressions stays
pub record KeepsWords (old new : Making) : Type 0 where
  pub names : new.names ≡ old.names
  pub words : new.words ≡ old.words
  pub lifts : new.lifts ≡ old.lifts
