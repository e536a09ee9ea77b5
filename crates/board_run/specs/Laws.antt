-- What holds of chips on boards.
use Rattle.std.specs.Prelude.{◌≡◌, ◌<◌, ℕ, List, [], All, false, length, take}
use Rattle.mp_base.specs.declared.value.Trit.{Trit}
use Rattle.mp_program.specs.declared.program.Program.{Program}
use Rattle.mp_program.specs.State.{State, zero_state}
use Rattle.mp_rules.specs.Breaking.{IsUnbroken}
use Rattle.switch_net.specs.declared.network.Network.{Network}
use Rattle.switch_net.specs.Breaks.{HasPads}
use Rattle.mask_net.specs.Masks.{IsNetOf}
use Rattle.headline.specs.Headline.{IsChipOf}
use Rattle.trace_run.specs.Transcript.{ProgramSteps}
use Rattle.board.specs.declared.link.Link.{Link}
use Rattle.board.specs.declared.plan.Plan.{Plan}
use Rattle.board.specs.Boarding.{AreWires}
use Rattle.board.specs.Face.{Face}
use Rattle.board.specs.Links.{AreLinks}
use Rattle.board.specs.Plans.{IsPlan, IsWhole, Setting, is_swap_word}
use Rattle.board.specs.Loop.{Wired, Exchange, IsSwappedLoop, faces_with}
use Rattle.board.specs.Laws.{AgreeWhereSettled}
use Rattle.board_laws.specs.Laws.{IsBoardOf}
use Rattle.board_run.specs.Boarded.{IsBoarded, IsBoardedWith}
use Rattle.board_run.specs.Left.{exchanges_of, left_of, links_left}
use Rattle.board_run.specs.Swaps.{AreTimely}

-- so many clocks of the loop of a program with these swaps, from the zero state and these parts, show this
pub record IsProgramLoopWith (swaps : List Exchange) (p : Program) (w : Wired) (clocks : ℕ) (faces : List Face)
    (shown : List (List (List Trit))) : Type 0 where
  pub end : State
  pub left : List Face
  pub loop : IsSwappedLoop swaps (ProgramSteps p (w.pads).outputs) w 0 (zero_state p) faces shown end left
  pub many : length shown ≡ clocks

-- The program has such a loop, which shows the same in each settled clock, and leaves the parts alike after any number
-- of its clocks.
pub record FollowsOnBoardWith (swaps : List Exchange) (p : Program) (w : Wired) (clocks : ℕ) (faces : List Face)
    (shown : List (List (List Trit))) : Type 0 where
  pub told : List (List (List Trit))
  pub loop : IsProgramLoopWith swaps p w clocks faces told
  pub agrees : AgreeWhereSettled w 0 shown told
  pub alike : (k : ℕ) → faces_with swaps w 0 faces (take k shown) ≡ faces_with swaps w 0 faces (take k told)

abbrev pub IsProgramLoop : Program → Wired → ℕ → List Face → List (List (List Trit)) → Type 0
IsProgramLoop = IsProgramLoopWith []

abbrev pub FollowsOnBoard : Program → Wired → ℕ → List Face → List (List (List Trit)) → Type 0
FollowsOnBoard = FollowsOnBoardWith []

-- what a chip of a program shows on a board follows the program there
abbrev pub BoardsFollow : Type 0
BoardsFollow =
    (p : Program) (bytes : List ℕ) (net : Network) (w : Wired) (clocks : ℕ) (faces : List Face) (text : List ℕ)
    → IsUnbroken p → IsChipOf p bytes → IsNetOf bytes net → IsBoardOf p w → (board : IsBoarded net w clocks faces text)
    → FollowsOnBoard p w clocks faces board.shown

-- the same with swaps, which both make
abbrev pub SwappedBoardsFollow : Type 0
SwappedBoardsFollow =
    (swaps : List Exchange) (p : Program) (bytes : List ℕ) (net : Network) (w : Wired) (clocks : ℕ)
    (faces : List Face) (text : List ℕ) → IsUnbroken p → IsChipOf p bytes → IsNetOf bytes net → IsBoardOf p w
    → (board : IsBoardedWith swaps net w clocks faces text)
    → FollowsOnBoardWith swaps p w clocks faces board.shown

-- a circuit that has the board's pads shows something in so many clocks
abbrev pub BoardsRun : Type 0
BoardsRun =
    (net : Network) (w : Wired) (clocks : ℕ) (faces : List Face) → HasPads net w.pads
    → (text : List ℕ) × IsBoarded net w clocks faces text

-- the same with swaps
abbrev pub SwappedBoardsRun : Type 0
SwappedBoardsRun =
    (swaps : List Exchange) (net : Network) (w : Wired) (clocks : ℕ) (faces : List Face) → HasPads net w.pads
    → (text : List ℕ) × IsBoardedWith swaps net w clocks faces text

-- A plan can be run with the parts that are left by its swaps: its links are wires of parts that are there, and its
-- swaps are in order, each of one of its clocks and links.
pub record CanRun (setting : Setting) (plan : Plan) (faces : List Face) : Type 0 where
  pub wires : AreWires setting.pads (links_left plan)
  pub within : All (λ (l : Link). l.part < length (left_of plan.swaps setting.parts)) (links_left plan)
  pub timely : AreTimely (links_left plan) setting.clocks (exchanges_of faces plan)

-- a plan that was read can be run so
abbrev pub PlansRun : Type 0
PlansRun = (setting : Setting) (plan : Plan) (faces : List Face) → IsWhole setting plan → CanRun setting plan faces

-- Words of which none is a swap stand for links alone: their plan has no swaps, and leaves every part in the list.
pub record IsPlain (setting : Setting) (words : List (List ℕ)) (plan : Plan) : Type 0 where
  pub links : AreLinks setting.parts setting.pads words plan.links
  pub none : plan.swaps ≡ []
  pub wired : links_left plan ≡ plan.links
  pub names : left_of plan.swaps setting.parts ≡ setting.parts
  pub faces : (faces : List Face) → left_of plan.swaps faces ≡ faces

abbrev pub PlainWords : Type 0
PlainWords =
    (setting : Setting) (words : List (List ℕ)) (plan : Plan) → All (λ word. is_swap_word word ≡ false) words
    → IsPlan setting words plan → IsPlain setting words plan
