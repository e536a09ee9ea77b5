-- What a board did, and how it left the parts.
use Rattle.std.specs.Prelude.{ℕ, List, Result}
use Rattle.outside.specs.Outside.{Files, bytes_of}
use Rattle.outcome.specs.World.{World}
use Rattle.outcome.specs.Halt.{Ends}
use Rattle.outcome.specs.declared.halt.Halt.{Halt}
use Rattle.board.specs.Face.{Face}
use Rattle.board_command.specs.Parts.{Lent}
use Rattle.board_command.specs.Work.{work, Moves}

-- what it did by its end, and how it left the parts
abbrev pub Boards : Lent → List ℕ → List ℕ → ℕ → List (List ℕ) → List Face → Result (Unit {0}) Halt → World → World
    → Files → Files → List ℕ → Type 0
Boards lent source cif clocks words left result before after old new printed =
    Ends (work lent source cif clocks words) result before after old new printed
    × Moves lent (bytes_of old source) words clocks left result before after printed
