-- What is written to a definition, by its index.
use Rattle.std.specs.Prelude.{◌==◌, ℕ, List, [], ◌∷◌, if◌then◌else◌}
use Rattle.mp_program.specs.declared.program.Def.{Def}
use Rattle.mp_program.specs.Names.{index_of}
use Rattle.mp_program.specs.Effects.{Effect, Writes, Goes, Calls, Returns}

-- the values that are written to names whose first definition is this one
abbrev pub written_at : List Def → ℕ → List Effect → List ℕ
written_at defs d [] = []
written_at defs d (Writes x v ∷ es) = if index_of defs x == d then v ∷ written_at defs d es else written_at defs d es
written_at defs d (Goes label ∷ es) = written_at defs d es
written_at defs d (Calls label ∷ es) = written_at defs d es
written_at defs d (Returns ∷ es) = written_at defs d es
