-- Parts that no words name stay as they are.
use Rattle.std.proofs.Common.{◌≡◌, ℕ, List, inl, refl, sym, subst, Option, Some, None}
use Rattle.command_line.specs.Command.{Command, Trace, Compile, Replay, Sim, Net, Stats, Board, Make, Rules}
use Rattle.board.specs.Face.{Face}
use Rattle.board_command.specs.Parts.{Lent}
use Rattle.silicon.specs.Parts.{KeepsOthers}

-- all parts stay
pub others_same : (lent : Lent) (words : Option Command) → KeepsOthers lent lent.faces words
others_same lent None = refl
others_same lent (Some (Trace source stimulus)) = refl
others_same lent (Some (Compile source cif)) = refl
others_same lent (Some (Replay source stimulus cif)) = refl
others_same lent (Some (Sim cif stimulus)) = refl
others_same lent (Some (Net cif)) = refl
others_same lent (Some (Rules cif)) = refl
others_same lent (Some (Stats source)) = refl
others_same lent (Some (Make number cif)) = refl
others_same lent (Some (Board source cif clocks words)) = inl refl

-- words that stand for a command
pub others_words : (lent : Lent) (left : List Face) (words seen : Option Command) → seen ≡ words
    → KeepsOthers lent left seen → KeepsOthers lent left words
others_words lent left words seen is kept = subst (KeepsOthers lent left) is kept
