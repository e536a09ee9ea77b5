use Rattle.std.proofs.Common.{◌≡◌, map, take}
use Rattle.process_plan.specs.Enables.{copy_of}
use Rattle.process_enables.proofs.copies.copied_args.Given as goal

abbrev pub invariant-loop-arg : goal.invariant-loop-arg
invariant-loop-arg l = l.copies ≡ map (copy_of l.program) (take l.arg-index l.args)
