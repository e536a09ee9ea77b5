-- Programs in which nothing is ever written.
use Rattle.std.specs.Prelude.{◌≡◌, ◌⊎◌, ◌&&◌, ◌==◌, ℕ, ◌<◌, [], Bool, true, false, not, length}
use Rattle.std.specs.List.{list_any}
use Rattle.mp_program.specs.declared.program.Form.{Form}
use Rattle.mp_program.specs.declared.program.Program.{Program}
use Rattle.mp_base.specs.Entries.{IsAt}
use Rattle.process_plan.specs.Built.{is_set}

abbrev pub is_still : Program → Bool
is_still p = not (list_any (λ (y : Form). is_set y.kind) p.forms) && (length p.processes == 0)

-- there is no `setq` and no process
pub record IsStill (p : Program) : Type 0 where
  pub unset : (f : ℕ) (y : Form) → IsAt p.forms f y → is_set y.kind ≡ false
  pub alone : p.processes ≡ []

-- there is a process or a `setq`
abbrev pub IsMoving : Program → Type 0
IsMoving p = (0 < length p.processes) ⊎ ((f : ℕ) × (y : Form) × IsAt p.forms f y × (is_set y.kind ≡ true))
