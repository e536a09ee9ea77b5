-- What a board owes.
use Rattle.std.specs.Prelude.{◌≡◌, ◌⊎◌, ℕ, List, map, Some, Result, Ok, Err}
use Rattle.outside.specs.Outside.{bytes_of}
use Rattle.outcome.specs.Order.{Then, OfRule}
use Rattle.outcome.specs.Work.{Work}
use Rattle.outcome.specs.World.{World, PrintFailed, StoreFailed}
use Rattle.outcome.specs.declared.halt.Halt.{Halt}
use Rattle.outcome.specs.declared.halt.Halt.TheVariants.{Refused, ReadFault, WriteFault, NoMemory}
use Rattle.source_files.specs.Faults.{SourceFault}
use Rattle.compile_command.specs.Compiled.{IsCompiled}
use Rattle.switch_net.specs.declared.network.Network.{Network}
use Rattle.board.specs.Face.{Face}
use Rattle.board.specs.Loop.{Wired, Exchange}
use Rattle.board_run.specs.Boarded.{IsBoardedWith}
use Rattle.board_command.specs.Parts.{Lent, AreMoved, AreTakenOut}
use Rattle.board_command.specs.Linked.{OfBoard}
use Rattle.board_command.specs.Played.{IsPlayed}

-- the rules of the source, and of links and swaps; then the masks of the source's chip, and the loop of their circuit
abbrev pub work : Lent → List ℕ → List ℕ → ℕ → List (List ℕ) → Work
work lent source cif clocks words = record {
  First = λ files. Then (SourceFault source files) (OfRule (OfBoard lent.names clocks (bytes_of files source) words));
  target = Some cif;
  Shows = λ files chip text. IsCompiled (bytes_of files source) chip
      × IsPlayed lent (bytes_of files source) words clocks chip text;
}

-- these bytes, and the loop of this circuit on a board with these swaps
abbrev pub Plays : List ℕ → List Exchange → Network → Wired → ℕ → List Face → List ℕ → List ℕ → Type 0
Plays bytes swaps network wired clocks faces chip text =
    (chip ≡ bytes) × IsBoardedWith swaps network wired clocks faces text

-- the first where printing had begun by an end, so where all was printed or a print failed, and else the second
abbrev pub WhereBegun : {T : Type 0} → Result T Halt → World → World → Type 0 → Type 0 → Type 0
WhereBegun (Ok done) before after P Q = P
WhereBegun (Err (Refused broken)) before after P Q = Q
WhereBegun (Err ReadFault) before after P Q = Q
WhereBegun (Err WriteFault) before after P Q = (PrintFailed before after × P) ⊎ (StoreFailed before after × Q)
WhereBegun (Err NoMemory) before after P Q = Q

-- how the parts are left by an end, where the source has these bytes and this was printed
abbrev pub Moves : {T : Type 0} → Lent → List ℕ → List (List ℕ) → ℕ → List Face → Result T Halt → World → World
    → List ℕ → Type 0
Moves lent source words clocks left result before after printed =
    WhereBegun result before after (AreMoved lent source words clocks printed left) (left ≡ lent.faces)

-- whatever the files are, the list is as it was, but where printing had begun; then the others keep their names and
-- their order
abbrev pub Rests : {P T : Type 0} → (P → List ℕ) → ℕ → List (List ℕ) → List P → List P → Result T Halt → World → World
    → Type 0
Rests name clocks words parts left result before after =
    WhereBegun result before after (AreTakenOut (map name parts) clocks words (map name left)) (left ≡ parts)
