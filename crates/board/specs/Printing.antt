-- What a board prints and leaves.
use Rattle.std.specs.Prelude.{◌≡◌, ℕ, ◌+◌, ◌<◌, List, [], Option, Result, OnOk, OnErr, length}
use Rattle.mp_base.specs.declared.value.Trit.{Trit}
use Rattle.outside.specs.Outside.{WhereTold, Gains}
use Rattle.outside.specs.Piece.{TakesAll}
use Rattle.stimulus.specs.Transcript.{line_text, lines_text}
use Rattle.board.specs.Face.{Face}
use Rattle.board.specs.Loop.{Wired, Exchange, inputs_at, faces_after, IsSwappedLoop}

-- one clock was run and its line printed; at `Ok` the parts moved, and else they are as they were
pub record PrintsClock {S T E : Type 0} (Steps : S → List ℕ → List (List Trit) → S → Type 0) (w : Wired) (clock : ℕ)
    (before after : S) (faces later : List Face) (old new : Option (List ℕ)) (result : Result T E) : Type 0 where
  pub shown : List (List Trit)
  pub steps : Steps before (inputs_at w clock faces) shown after
  pub parts : OnOk result (later ≡ faces_after w clock shown faces)
  pub kept : OnErr result (later ≡ faces)
  pub taken : TakesAll Gains old new (line_text clock (w.pads).outputs shown) result

-- These clocks, from one of them on, were a loop with these swaps that left the device and the parts so, and their lines
-- were gained.
pub record LoopedWith (swaps : List Exchange) {S : Type 0} (Steps : S → List ℕ → List (List Trit) → S → Type 0)
    (w : Wired) (clock : ℕ) (before : S) (faces : List Face) (shown : List (List (List Trit))) (after : S)
    (later : List Face) (old new : Option (List ℕ)) : Type 0 where
  pub loop : IsSwappedLoop swaps Steps w clock before faces shown after later
  pub gained : WhereTold (Gains (lines_text clock (w.pads).outputs shown)) old new

-- Some clocks were a loop whose lines were printed whole, after which the parts are. At `Ok` these are all, and the
-- device is where the loop left it. Else they are fewer, and the device has made one clock more, of whose line a first
-- part was printed, but not all.
pub record PrintsLoopWith (swaps : List Exchange) {S T E : Type 0}
    (Steps : S → List ℕ → List (List Trit) → S → Type 0) (w : Wired)
    (clock done clocks : ℕ) (before after : S) (faces later : List Face) (old new : Option (List ℕ))
    (result : Result T E) : Type 0 where
  pub shown : List (List (List Trit))
  pub end : S
  pub told : Option (List ℕ)
  pub looped : LoopedWith swaps Steps w clock before faces shown end later old told
  pub counted : done ≡ clock + length shown
  pub whole : OnOk result ((length shown ≡ clocks) × (after ≡ end) × (new ≡ told))
  pub cut : OnErr result ((length shown < clocks) × PrintsClock Steps w done end after later later told new result)

-- ---- the same without swaps

abbrev pub Looped : {S : Type 0} → (S → List ℕ → List (List Trit) → S → Type 0) → Wired → ℕ → S → List Face
    → List (List (List Trit)) → S → List Face → Option (List ℕ) → Option (List ℕ) → Type 0
Looped = LoopedWith []

abbrev pub PrintsLoop : {S T E : Type 0} → (S → List ℕ → List (List Trit) → S → Type 0) → Wired → ℕ → ℕ → ℕ → S → S
    → List Face → List Face → Option (List ℕ) → Option (List ℕ) → Result T E → Type 0
PrintsLoop {S = S} {T = T} {E = E} = PrintsLoopWith [] {S = S} {T = T} {E = E}
