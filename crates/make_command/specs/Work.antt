-- What is owed for a number.
use Rattle.std.specs.Prelude.{◌≡◌, ℕ, List, Some, None, Result, Ok, Err, ⊤}
use Rattle.outcome.specs.Work.{Work}
use Rattle.outcome.specs.declared.halt.Halt.{Halt}
use Rattle.outcome.specs.declared.halt.Halt.TheVariants.{Refused, ReadFault, WriteFault, NoMemory}
use Rattle.program_maker.specs.Texts.{source_text}
use Rattle.compile_command.specs.Compiled.{IsCompiled}
use Rattle.make_command.specs.Made.{IsMadeRun}

-- no fault, whatever the files are; the masks of the chip of the number's source, and what is told of their run
abbrev pub work : ℕ → List ℕ → Work
work seed cif = record {
  First = λ files fault. fault ≡ None;
  target = Some cif;
  Shows = λ files chip text. IsCompiled (source_text seed) chip × IsMadeRun seed chip text;
}

-- it ends in no refusal, and in no read fault
abbrev pub IsUnrefused : {T : Type 0} → Result T Halt → Type 0
IsUnrefused (Ok done) = ⊤
IsUnrefused (Err (Refused broken)) = ⊥
IsUnrefused (Err ReadFault) = ⊥
IsUnrefused (Err WriteFault) = ⊤
IsUnrefused (Err NoMemory) = ⊤
