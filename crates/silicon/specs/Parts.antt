-- How a run leaves the parts that are lent.
use Rattle.std.specs.Prelude.{◌≡◌, ◌⊎◌, ℕ, List, map, Option, Some, Result}
use Rattle.outside.specs.Outside.{Files, bytes_of}
use Rattle.mp_base.specs.declared.refusal.Broken.{Broken}
use Rattle.command_line.specs.Command.{Command, Board}
use Rattle.outcome.specs.Order.{Breaks}
use Rattle.outcome.specs.World.{World, PrintFailed, StoreFailed}
use Rattle.outcome.specs.declared.status.Status.{Status}
use Rattle.outcome.specs.declared.status.Status.TheVariants.{Done, WriteFault}
use Rattle.board.specs.Face.{Face}
use Rattle.outcome.specs.declared.halt.Halt.{Halt}
use Rattle.board_command.specs.Parts as parts
use Rattle.board_command.specs.Parts.{Lent, AreMoved, AreTakenOut}
use Rattle.board_command.specs.Work as boards
use Rattle.silicon.specs.Faults.{IsFirstFault}

-- a board leaves them as the loop of the source's program, with its swaps, does after as many clocks as lines were
-- printed whole; no other command moves them
abbrev pub Moving : Lent → List Face → Command → Files → List ℕ → Type 0
Moving lent left (Board source cif clocks links) old printed =
    AreMoved lent (bytes_of old source) links clocks printed left
Moving lent left command old printed = left ≡ lent.faces

-- the same by the status of a run: they stay where a rule was broken, a read or a write of a file failed, or memory was
-- wanted
abbrev pub Moved : Lent → List Face → Command → Status → World → World → Files → List ℕ → Type 0
Moved lent left command Done before after old printed = Moving lent left command old printed
Moved lent left command WriteFault before after old printed =
    (PrintFailed before after × Moving lent left command old printed)
    ⊎ (StoreFailed before after × (left ≡ lent.faces))
    ⊎ ((broken : Broken) × IsFirstFault lent command old (Some (Breaks broken)) × (left ≡ lent.faces))
Moved lent left command status before after old printed = left ≡ lent.faces

-- Whatever the files are, the list of parts stays as it was, but of a board that was done, or of which a print failed.
-- Then the parts that its swaps put in are out of it, and the others keep their names and their order.
abbrev pub KeepsParts : {P : Type 0} → (P → List ℕ) → Option Command → Status → World → World → List P → List P
    → Type 0
KeepsParts name (Some (Board source cif clocks words)) Done old new before after =
    AreTakenOut (map name before) clocks words (map name after)
KeepsParts name (Some (Board source cif clocks words)) WriteFault old new before after =
    (after ≡ before) ⊎ (PrintFailed old new × AreTakenOut (map name before) clocks words (map name after))
KeepsParts name words status old new before after = after ≡ before

-- the same by the end of a command
abbrev pub Rests : {P T : Type 0} → (P → List ℕ) → Command → Result T Halt → World → World → List P → List P → Type 0
Rests name (Board source cif clocks words) result old new before after =
    boards.Rests name clocks words before after result old new
Rests name command result old new before after = after ≡ before

-- whatever is told, a board leaves the parts that its words don't name as they were, and every other command leaves all
abbrev pub KeepsOthers : Lent → List Face → Option Command → Type 0
KeepsOthers lent left (Some (Board source cif clocks words)) = parts.KeepsOthers lent clocks words left
KeepsOthers lent left words = left ≡ lent.faces
