-- What is not printed, and not written.
use Rattle.std.proofs.Common.{◌≡◌, ℕ, List, refl, sym, subst, Option, Some, None}
use Rattle.outside.specs.Outside.{Files}
use Rattle.outside.proofs.Told.{keeps_same}
use Rattle.command_line.specs.Command.{Command}
use Rattle.outcome.specs.World.{IsSaid, whole, cut, IsSilent, SparesFiles}
use Rattle.outcome.specs.declared.status.Status.{Status}
use Rattle.outcome.specs.declared.status.Status.TheVariants as status
use Rattle.silicon.specs.Faults.{target_of, target_for}

-- the usage line was told
pub silent_said : (text : List ℕ) (x y : Option (List ℕ)) (s s' : ℕ) (result : Status)
    → IsSaid status.Usage text x y s s' result → IsSilent result x y
silent_said text x y s s' result (whole is same said) = subst (λ r. IsSilent r x y) (sym is) tt
silent_said text x y s s' result (cut is le rose part first said) = subst (λ r. IsSilent r x y) (sym is) tt

-- words in no form, or too little memory to read them
pub spares_same : (target : Option (List ℕ)) (files : Option Files) (faults : ℕ)
    → SparesFiles target files files faults faults
spares_same None files faults = (keeps_same files, refl)
spares_same (Some name) files faults = tt

pub spares_command : (command : Option Command) (seen : Command) (x y : Option Files) (faults now : ℕ)
    → Some seen ≡ command → SparesFiles (target_of seen) x y faults now
    → SparesFiles (target_for command) x y faults now
spares_command command seen x y faults now is spares =
    subst (λ (c : Option Command). SparesFiles (target_for c) x y faults now) is spares
