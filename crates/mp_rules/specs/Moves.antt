-- The moves among what forms do.
use Rattle.std.specs.Prelude.{ℕ, List, Bool, true, false}
use Rattle.std.specs.List.{count_by}
use Rattle.mp_program.specs.Effects.{Effect, Writes}

-- the process goes, calls or returns
abbrev pub is_move : Effect → Bool
is_move (Writes x v) = false
is_move _ = true

-- how many moves there are
abbrev pub moves : List Effect → ℕ
moves es = count_by is_move es
