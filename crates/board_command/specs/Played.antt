-- What is told of the circuit that a compiled file draws, on a board.
use Rattle.std.specs.Prelude.{ℕ, List}
use Rattle.mp_program.specs.declared.program.Program.{Program}
use Rattle.switch_net.specs.declared.network.Network.{Network}
use Rattle.mask_net.specs.Masks.{IsNetOf}
use Rattle.board.specs.declared.plan.Plan.{Plan}
use Rattle.board.specs.Loop.{Wired}
use Rattle.board_run.specs.Boarded.{IsBoardedWith}
use Rattle.board_run.specs.Laws.{FollowsOnBoardWith}
use Rattle.board_run.specs.Left.{exchanges_of, left_of}
use Rattle.compile_command.specs.Compiled.{IsCompiled}
use Rattle.board_command.specs.Parts.{Lent, IsPlanned}

-- The words are links and swaps of the parts that are lent, at the pads of the source. The text is the loop, with the
-- swaps, of the circuit that the chip's bytes draw, with the parts that are left, for so many clocks from all values X,
-- every clock in full, and the size line at its end.
pub record IsPlayed (lent : Lent) (source : List ℕ) (words : List (List ℕ)) (clocks : ℕ) (chip text : List ℕ) :
    Type 0 where
  pub program : Program
  pub wired : Wired
  pub plan : Plan
  pub network : Network
  pub planned : IsPlanned lent source words clocks program wired plan
  pub drawn : IsNetOf chip network
  pub board :
      IsBoardedWith (exchanges_of lent.faces plan) network wired clocks (left_of plan.swaps lent.faces) text

-- of a compiled chip, what is shown in each settled clock is what the source's program shows on the same board with the
-- same swaps, and the parts move alike
abbrev pub PlaysFollow : Type 0
PlaysFollow =
    (lent : Lent) (source : List ℕ) (words : List (List ℕ)) (clocks : ℕ) (chip text : List ℕ) → IsCompiled source chip
    → (told : IsPlayed lent source words clocks chip text)
    → FollowsOnBoardWith (exchanges_of lent.faces told.plan) told.program told.wired clocks
    (left_of (told.plan).swaps lent.faces) (told.board).shown
