use Rattle.std.proofs.Common.{◌≡◌, ◌++◌, length}
use Rattle.cif_writer.specs.Texts.{commands_of}
use Rattle.cif_emit.specs.Commands.{chip_commands}
use Rattle.cif_emit.specs.Rest.{rest, IsInside}
use Rattle.cif_emit.proofs.chip.cif_of.Given as goal

-- what is in the list, and what is left, are all commands
abbrev pub invariant-loop-cif : goal.invariant-loop-cif
invariant-loop-cif l = record {
  same : commands_of l.cif ++ rest l.cursor l.symbols l.labels ≡ chip_commands l.symbols l.labels;
  inside : IsInside l.cursor l.symbols;
}

abbrev pub decreases-loop-cif : goal.decreases-loop-cif
decreases-loop-cif l = length (rest l.cursor l.symbols l.labels)
