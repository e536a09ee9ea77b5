-- The chip that a source gets.
use Rattle.std.proofs.Common.{List, ℕ, [], refl, Option, Some, None, IfSome}
use Rattle.outside.specs.Outside.{Files, bytes_of}
use Rattle.mp_program.specs.declared.program.Program.{Program}
use Rattle.mp_source.specs.Source.{IsSource}
use Rattle.chip_text.specs.Texts.{IsPlainChipOf}
use Rattle.compile_command.specs.Work.{work}
use Rattle.compile_command.specs.Compiled.{IsCompiled}

pub compiled : (text chip : List ℕ) (program : Program) → IsPlainChipOf program chip → IsSource text program
    → IsCompiled text chip
compiled text chip program is spelled = record {
  program = program;
  is_source = spelled;
  masks = (is.small).chip;
  few = (is.small).few;
  extent = (is.small).extent;
  sized = (is.small).sized;
  clean = (is.small).clean;
  ratioed = (is.small).ratioed;
  named = (is.small).named;
  written = (is.small).written;
  few_commands = is.few;
  plain = is.plain;
  short = is.short;
}

-- a chip of the program that the source spells
pub shows_chip : (source cif chip : List ℕ) (program : Program) (held : Option Files)
    → IsPlainChipOf program chip → IfSome held (λ files. IsSource (bytes_of files source) program)
    → IfSome held (λ files. (work source cif).Shows files chip [])
shows_chip source cif chip program None is spelled = tt
shows_chip source cif chip program (Some files) is spelled =
    (compiled (bytes_of files source) chip program is spelled, refl)
