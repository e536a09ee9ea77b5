use Rattle.std.proofs.Common.{◌≡◌, map}
use Rattle.std.specs.Option.{option_map}
use Rattle.written_names.specs.Sorting.{meant}
use Rattle.written_rules.specs.Sorts.{function_sorts}
use Rattle.written_names.proofs.sorts.function_sorts.Given as goal

abbrev pub invariant-loop-body : goal.invariant-loop-body
invariant-loop-body l = map (option_map meant) l.sorts ≡ function_sorts l.program l.body-index
