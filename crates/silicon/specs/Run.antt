-- What a run did, by its words and its status.
use Rattle.std.specs.Prelude.{◌≡◌, ℕ, List, [], ◌∷◌, ◌++◌, ⊤, Option, Some, None, Result, codes, ◌≢◌}
use Rattle.outside.specs.Outside.{Files, WhereTold, Keeps, Gains}
use Rattle.command_line.specs.Command.{Command, Make}
use Rattle.outcome.specs.World.{World, DidWork, GainsPart}
use Rattle.outcome.specs.Halt.{Ends}
use Rattle.outcome.specs.declared.halt.Halt.{Halt}
use Rattle.outcome.specs.declared.status.Status.{Status}
use Rattle.outcome.specs.declared.status.Status.TheVariants.{Refused, Usage, ReadFault, WriteFault, NoMemory}
use Rattle.board.specs.Face.{Face}
use Rattle.board_command.specs.Parts.{Lent}
use Rattle.silicon.specs.Faults.{work_of}
use Rattle.board_command.specs.Work.{WhereBegun}
use Rattle.silicon.specs.Parts.{Moving, Moved}

abbrev pub usage_line : List ℕ
usage_line =
    codes "usage: macpitts trace SRC STIM or compile SRC CIF or replay SRC STIM CIF or sim CIF STIM or net CIF or stats SRC or board SRC CIF N LINK.. or make N CIF or rules CIF" ++ 10 ∷ []

-- the words are in no form exactly where this is said; then nothing is read
abbrev pub IsForWords : Option Command → Status → Type 0
IsForWords None Usage = ⊤
IsForWords None WriteFault = ⊤
IsForWords None NoMemory = ⊤
IsForWords None status = ⊥
IsForWords (Some command) Usage = ⊥
IsForWords (Some command) status = ⊤

-- what is made of a number is never refused, and nothing is read for it
abbrev pub EndsMade : Option Command → Status → Type 0
EndsMade (Some (Make number cif)) status = status ≢ Refused × status ≢ ReadFault
EndsMade words status = ⊤

-- what a command did by its end, with the parts that were lent, which it left so
abbrev pub Ending : {T : Type 0} → Lent → List Face → Command → Result T Halt → World → World → Files → Files → List ℕ
    → Type 0
Ending lent left command result before after old new printed =
    Ends (work_of lent command) result before after old new printed
    × WhereBegun result before after (Moving lent left command old printed) (left ≡ lent.faces)

-- what a run did with the parts that were lent, which it left so
abbrev pub Did : Lent → List Face → Option Command → Status → World → World → Files → Files → List ℕ → Type 0
Did lent left None status before after old new printed = new ≡ old
Did lent left (Some command) status before after old new printed =
    DidWork (work_of lent command) status before after old new printed
    × Moved lent left command status before after old printed

-- for words in no form the usage line was printed
abbrev pub TellsUsage : Option Command → Status → Option (List ℕ) → Option (List ℕ) → Type 0
TellsUsage None Usage before after = WhereTold (Gains usage_line) before after
TellsUsage None WriteFault before after = WhereTold (GainsPart usage_line) before after
TellsUsage None status before after = Keeps before after
TellsUsage (Some command) status before after = ⊤
