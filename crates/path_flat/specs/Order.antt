-- The nets of a path one after another.
use Rattle.std.specs.Prelude.{ℕ, zero, suc, ◌-◌, List, [], ◌∷◌, ◌++◌}
use Rattle.path_form.specs.declared.path.Piece.{Piece}
use Rattle.path_flat.specs.declared.places.Place.{Place}

-- so many nets of a band, from this one on
abbrev pub places_from : ℕ → ℕ → ℕ → List Place
places_from band first zero = []
places_from band first (suc count) = record { band = band; net = first } ∷ places_from band (suc first) count

-- the nets of these pieces
abbrev pub places_of : List Piece → List Place
places_of [] = []
places_of (p ∷ ps) = places_from p.band p.first (suc p.last - p.first) ++ places_of ps
