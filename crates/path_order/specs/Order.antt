-- The order of the nets of a path, from mark to mark.
use Rattle.std.specs.Prelude.{ℕ, zero, suc, ◌-◌, List, [], ◌∷◌, ◌++◌, if◌then◌else◌, nat_lt}
use Rattle.path_form.specs.declared.path.Piece.{Piece}
use Rattle.path_order.specs.declared.order.Mark.{Mark}

-- the nets from first to before the end of a band, if there are any
abbrev pub piece : ℕ → ℕ → ℕ → List Piece
piece band first end =
    if nat_lt first end then (record { band = band; first = first; last = end - 1 } ∷ []) else []

-- the same in each of the first k slices
abbrev pub slice_pieces : ℕ → ℕ → ℕ → List Piece
slice_pieces zero first end = []
slice_pieces (suc k) first end = slice_pieces k first end ++ piece (suc k) first end

-- what stands between two marks of a path of w slices
abbrev pub pieces_of_block : ℕ → Mark → Mark → List Piece
pieces_of_block w from to = slice_pieces w from.slices to.slices ++ piece 0 from.control to.control

-- what stands from a mark to the last of these
abbrev pub order_from : ℕ → Mark → List Mark → List Piece
order_from w from [] = []
order_from w from (to ∷ marks) = pieces_of_block w from to ++ order_from w to marks

-- nothing stands before it
abbrev pub start : Mark
start = record { slices = 0; control = 0 }
