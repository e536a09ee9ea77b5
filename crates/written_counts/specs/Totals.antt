-- What expressions count together, where each kind counts something.
use Rattle.std.specs.Prelude.{◌≡◌, ℕ, ◌+◌, List, map, slice_index_or}
use Rattle.std.specs.List.{sum_by}
use Rattle.mp_base.specs.declared.refusal.Place.{Place}
use Rattle.mp_written.specs.declared.program.ExprKind.{ExprKind}
use Rattle.mp_written.specs.declared.program.Expr.{Expr}
use Rattle.mp_written.specs.Pieces.{Body, nothing}
use Rattle.written_counts.specs.Counts.{Count, weighed, no_count}

-- what expressions count together
abbrev pub total : (ExprKind → ℕ) → List Expr → ℕ
total m xs = sum_by (λ (x : Expr). m x.kind) xs

-- a count, where the arguments count so much
abbrev pub worth : Count → List ℕ → ℕ
worth c ns = c.own + weighed c.times 0 ns

-- the counts of functions are those of what their uses become
abbrev pub AreCounts : (ExprKind → ℕ) → List Body → List Count → Type 0
AreCounts m bs cs = (k : ℕ) (at : Place) (os : List (List Expr))
    → total m (slice_index_or bs k nothing at os) ≡ worth (slice_index_or cs k no_count) (map (total m) os)
