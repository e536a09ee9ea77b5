-- What a board sees of a part.
use Rattle.std.specs.Prelude.{ℕ, List}

-- a part: its state, what it drives in a state, and the state after it has seen a number
pub record Face : Type 0 where
  pub state : List ℕ
  pub drives : List ℕ → ℕ
  pub sees : List ℕ → ℕ → List ℕ

-- the part after it has seen a number
abbrev pub moved : ℕ → Face → Face
moved seen face = record { state = face.sees face.state seen; drives = face.drives; sees = face.sees }
