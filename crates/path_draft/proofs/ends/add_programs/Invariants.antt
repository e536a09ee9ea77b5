use Rattle.std.proofs.Common.{◌≡◌, ◌++◌, map, take}
use Rattle.organelles.specs.declared.slices.Programmed.{Programmed}
use Rattle.path_draft.proofs.ends.add_programs.Given as goal

abbrev pub invariant-loop-program : goal.invariant-loop-program
invariant-loop-program l = l.ends ≡ l.initial.ends ++ map (λ (p : Programmed). p.net) (take l.program-index l.programs)
