-- What a circuit on a board prints and leaves.
use Rattle.std.specs.Prelude.{◌≡◌, ◌==◌, if◌then◌else◌, ℕ, ◌+◌, ◌<◌, List, [], ◌∷◌, ◌++◌, Option, Result, OnOk, OnErr}
use Rattle.std.specs.Prelude.{length, take}
use Rattle.mp_base.specs.declared.value.Trit.{Trit}
use Rattle.mp_base.specs.declared.value.Trit.TheVariants.{X}
use Rattle.outside.specs.Outside.{WhereTold, Gains}
use Rattle.stimulus.specs.Transcript.{lines_text}
use Rattle.switch_net.specs.declared.network.Network.{Network}
use Rattle.mask_net.specs.SizeLine.{last_line}
use Rattle.sim_run.specs.Transcript.{NetworkSteps}
use Rattle.board.specs.Face.{Face}
use Rattle.board.specs.Loop.{Wired, Exchange, IsSwappedLoop, faces_with}

-- the lines of so many clocks of the circuit's loop with these swaps, from all values X and these parts, every clock in
-- full, and the size line of the values at its end
pub record IsBoardedWith (swaps : List Exchange) (net : Network) (w : Wired) (clocks : ℕ) (faces : List Face)
    (text : List ℕ) : Type 0 where
  pub shown : List (List (List Trit))
  pub end : ℕ → Trit
  pub left : List Face
  pub loop : IsSwappedLoop swaps (NetworkSteps net w.pads) w 0 (λ node. X) faces shown end left
  pub many : length shown ≡ clocks
  pub lines : text ≡ lines_text 0 (w.pads).outputs shown ++ last_line net end

-- how many lines stand whole in a text, each with its line feed
abbrev pub whole_lines : List ℕ → ℕ
whole_lines [] = 0
whole_lines (c ∷ cs) = (if c == 10 then 1 else 0) + whole_lines cs

-- The circuit ran on the board, and its text was printed, all of it at `Ok` and else a first part, but not all. The
-- parts are as the loop leaves them after as many clocks as lines were printed whole, with the swaps made by then.
pub record PrintsBoardWith (swaps : List Exchange) {T E : Type 0} (net : Network) (w : Wired) (clocks : ℕ)
    (faces later : List Face) (old new : Option (List ℕ)) (result : Result T E) : Type 0 where
  pub text : List ℕ
  pub board : IsBoardedWith swaps net w clocks faces text
  pub count : ℕ
  pub all : OnOk result (take count text ≡ text)
  pub cut : OnErr result (count < length text)
  pub gained : WhereTold (Gains (take count text)) old new
  pub parts : later ≡ faces_with swaps w 0 faces (take (whole_lines (take count text)) board.shown)

-- ---- the same without swaps

abbrev pub IsBoarded : Network → Wired → ℕ → List Face → List ℕ → Type 0
IsBoarded = IsBoardedWith []

abbrev pub PrintsBoard : {T E : Type 0} → Network → Wired → ℕ → List Face → List Face → Option (List ℕ)
    → Option (List ℕ) → Result T E → Type 0
PrintsBoard {T = T} {E = E} = PrintsBoardWith [] {T = T} {E = E}
