use Rattle.std.proofs.Common.{◌≡◌, ◌++◌, take}
use Rattle.std.specs.List.{flat_map}
use Rattle.program_maker.specs.Texts.{registers, definition}
use Rattle.program_maker.proofs.source.push_definitions.Given as goal

abbrev pub invariant-loop-i : goal.invariant-loop-i
invariant-loop-i l = l.text.items ≡ l.initial.text.items ++ flat_map definition (take l.i registers)
