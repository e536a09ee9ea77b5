-- Guards and values, and what they become one after another.
use Rattle.std.specs.Prelude.{◌≡◌, ◌<◌, ℕ, List, [], ◌++◌, Bool, false, map, filter, length, slice_get, slice_index_or}
use Rattle.std.specs.Prelude.{◌||◌, ◌==◌}
use Rattle.std.specs.List.{flat_map, list_any, range_with_len, AllByRecursion}
use Rattle.mp_written.specs.declared.program.Expr.{Expr}
use Rattle.mp_written.specs.declared.program.Program.{Program}
use Rattle.mp_written.specs.Pieces.{pieces}
use Rattle.mp_written.specs.Expansion.{all_pieces, form_exprs}
use Rattle.expansion.specs.declared.item.Item.{Item}
use Rattle.expansion.specs.declared.item.Piece.{Piece}
use Rattle.expansion.specs.declared.walk.Walked.{Walked}
use Rattle.expansion.specs.Templates.{kind_at, pieces_of, place_at}

-- one of these is e
abbrev pub is_in : List ℕ → ℕ → Bool
is_in vs e = list_any (λ v. v == e) vs

-- flags after those at these indices were set
pub record Marks (vs : List ℕ) (old new : List Bool) : Type 0 where
  pub size : length new ≡ length old
  pub each : (e : ℕ) → e < length old → slice_index_or new e false ≡ (slice_index_or old e false || is_in vs e)

-- for each of so many expressions, whether it is one of these
pub record AreFlags (count : ℕ) (vs : List ℕ) (flags : List Bool) : Type 0 where
  pub size : length flags ≡ count
  pub each : (e : ℕ) → e < count → slice_index_or flags e false ≡ is_in vs e

-- for each expression, whether it is a guard or value
abbrev pub AreTops : Program → List Bool → Type 0
AreTops w flags = AreFlags (length w.exprs) (form_exprs w.forms) flags

-- the expression that a piece is
abbrev pub piece_of : List Expr → Piece → Expr
piece_of exprs p = record { place = p.place; kind = kind_at (slice_get exprs p.expr) }

-- pieces, whose expressions are there
pub record HavePieces (exprs : List Expr) (xs : List Expr) (ps : List Piece) : Type 0 where
  pub are : map (piece_of exprs) ps ≡ xs
  pub inside : AllByRecursion (λ (p : Piece). p.expr < length exprs) ps

-- pieces with those of the items of a guard or value behind them
pub record AddsPieces (exprs : List Expr) (top : ℕ) (items : List Item) (old new : List Piece) : Type 0 where
  pub are : map (piece_of exprs) new
      ≡ map (piece_of exprs) old ++ pieces_of exprs (place_at (slice_get exprs top)) [] items
  pub inside : AllByRecursion (λ (p : Piece). p.expr < length exprs) old
      → AllByRecursion (λ (p : Piece). p.expr < length exprs) new

-- the guards and values before an index
abbrev pub tops_before : Program → ℕ → List ℕ
tops_before w e = filter (is_in (form_exprs w.forms)) (range_with_len 0 e)

-- where what a guard or value becomes begins
abbrev pub begin : Program → ℕ → ℕ
begin w e = length (flat_map (pieces w) (tops_before w e))

-- where all guards and values begin, and what they become
pub record IsWalk (w : Program) (walked : Walked) : Type 0 where
  pub starts : walked.starts ≡ map (begin w) (range_with_len 0 (length w.exprs))
  pub pieces : HavePieces w.exprs (all_pieces w) walked.pieces
