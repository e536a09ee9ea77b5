-- All tasks are done.
use Rattle.std.specs.Prelude.{ℕ, List, length}
use Rattle.nor_net.specs.declared.net.Part.{Part}
use Rattle.rtl_form.specs.declared.rtl.Rtl.{Rtl}
use Rattle.task_schedule.specs.declared.task.Task.{Task}
use Rattle.control_nor.specs.declared.names.Bits.{Bits}
use Rattle.control_nor.specs.Meaning.{IsMeant}
use Rattle.control_nor.specs.Progress.{IsLaid, IsProgress}

-- the first t tasks are done, and the nets stand so after each
pub record AreDone (r : Rtl) (tasks : List Task) (t : ℕ) (old new : List Part) (before after : Bits)
    (ends : List ℕ) : Type 0 where
  pub progress : IsProgress r tasks t old new before after
  pub laid : IsLaid r tasks t old new after ends
  pub meant : IsMeant r tasks t (length old) new before after
