-- The parts that are lent, and how they are left.
use Rattle.std.specs.Prelude.{◌≡◌, ◌≢◌, ◌⊎◌, ℕ, List, All, slice_get, take}
use Rattle.mp_base.specs.declared.pad.Pads.{Pads}
use Rattle.mp_base.specs.declared.value.Trit.{Trit}
use Rattle.mp_program.specs.declared.program.Program.{Program}
use Rattle.mp_source.specs.Source.{IsSource}
use Rattle.board.specs.declared.link.Link.{Link}
use Rattle.board.specs.declared.plan.Plan.{Plan}
use Rattle.board.specs.Face.{Face}
use Rattle.board.specs.Loop.{Wired, Exchange, faces_with}
use Rattle.board.specs.Plans.{IsPlan}
use Rattle.board_laws.specs.Laws.{IsBoardOf}
use Rattle.switch_net.specs.declared.network.Network.{Network}
use Rattle.board_run.specs.Boarded.{IsBoardedWith, whole_lines}
use Rattle.board_run.specs.Laws.{IsProgramLoopWith}
use Rattle.board_run.specs.Left.{exchanges_of, left_of, links_left}
use Rattle.board_command.specs.Linked.{setting_of}

-- the names of the parts that are lent, and what a board sees of them
pub record Lent : Type 0 where
  pub names : List (List ℕ)
  pub faces : List Face

-- The words are a plan of links and swaps for the program of a source. The board has its links, to the parts that are
-- left when those that its swaps put in are taken out of the list.
pub record IsPlanned (lent : Lent) (source : List ℕ) (words : List (List ℕ)) (clocks : ℕ) (program : Program)
    (wired : Wired) (plan : Plan) : Type 0 where
  pub is_source : IsSource source program
  pub is_board : IsBoardOf program wired
  pub is_plan : IsPlan (setting_of lent.names clocks wired.pads) words plan
  pub links : wired.links ≡ links_left plan

-- The parts are as the loop of the source's program, with the swaps, leaves them after as many of these clocks as lines
-- were printed whole, with the swaps made by then. Those that swaps put in are out of the list.
pub record AreMoved (lent : Lent) (source : List ℕ) (words : List (List ℕ)) (clocks : ℕ) (printed : List ℕ)
    (left : List Face) : Type 0 where
  pub program : Program
  pub wired : Wired
  pub plan : Plan
  pub told : List (List (List Trit))
  pub planned : IsPlanned lent source words clocks program wired plan
  pub loop : IsProgramLoopWith (exchanges_of lent.faces plan) program wired clocks (left_of plan.swaps lent.faces) told
  pub parts : left
      ≡ faces_with (exchanges_of lent.faces plan) wired 0 (left_of plan.swaps lent.faces)
      (take (whole_lines printed) told)

-- the parts are as the loop of this circuit, with these swaps, leaves them after as many of these clocks as lines were
-- printed whole
pub record AreLeft (swaps : List Exchange) (network : Network) (wired : Wired) (clocks : ℕ) (faces : List Face)
    (printed : List ℕ) (left : List Face) : Type 0 where
  pub text : List ℕ
  pub board : IsBoardedWith swaps network wired clocks faces text
  pub parts : left ≡ faces_with swaps wired 0 faces (take (whole_lines printed) board.shown)

-- the names are those that were, without those of the parts that the swaps of the words put in
pub record AreTakenOut (names : List (List ℕ)) (clocks : ℕ) (words : List (List ℕ)) (left : List (List ℕ)) :
    Type 0 where
  pub pads : Pads
  pub plan : Plan
  pub is_plan : IsPlan (setting_of names clocks pads) words plan
  pub others : left ≡ left_of plan.swaps names

-- at each place of a list of parts to which none of these links goes, another list has the same part, as it is there
abbrev pub AreKeptBut : List Link → List Face → List Face → Type 0
AreKeptBut links faces left =
    (place : ℕ) → All (λ (l : Link). l.part ≢ place) links → slice_get left place ≡ slice_get faces place

-- The parts that no link of the words names, and that no swap puts in, are as they were.
pub record AreOthersKept (lent : Lent) (clocks : ℕ) (words : List (List ℕ)) (left : List Face) : Type 0 where
  pub pads : Pads
  pub plan : Plan
  pub is_plan : IsPlan (setting_of lent.names clocks pads) words plan
  pub kept : AreKeptBut (links_left plan) (left_of plan.swaps lent.faces) left

-- whatever is told: all parts are as they were, or the words are links and swaps, and those that these don't name are
abbrev pub KeepsOthers : Lent → ℕ → List (List ℕ) → List Face → Type 0
KeepsOthers lent clocks words left = (left ≡ lent.faces) ⊎ AreOthersKept lent clocks words left
