use Rattle.std.proofs.Common.{◌≡◌, map, take}
use Rattle.form_effects.specs.Linked.{landings_in}
use Rattle.form_effects.proofs.landing.landings.Given as goal

abbrev pub invariant-loop-process : goal.invariant-loop-process
invariant-loop-process l = l.list ≡ map (landings_in l.program) (take l.process-index l.program.processes)
