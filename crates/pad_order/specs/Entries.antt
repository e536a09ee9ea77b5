-- Ports by their heights and numbers.
use Rattle.std.specs.Prelude.{ℕ, suc, ◌≡◌, ◌≢◌, ◌<◌, pos, List, [], ◌∷◌, length, get_or}
use Rattle.std.specs.Prelude.{slice_index, slice_index_or}
use Rattle.pad_frame.specs.declared.frames.PadWish.{PadWish}
use Rattle.pad_frame.specs.declared.frames.PadSpot.{PadSpot}
use Rattle.pad_order.specs.declared.order.Entry.{Entry}
use Rattle.pad_order.specs.declared.ports.Port.{Port}
use Rattle.pad_order.specs.Ordered.{wish_of}

-- where there is none
abbrev pub no_port : Port
no_port = record { name = []; height = 0 }

abbrev pub no_spot : PadSpot
no_spot = record { name = []; x = pos 0; y = pos 0 }

abbrev pub entry : Port → ℕ → Entry
entry p k = record { height = p.height; number = k }

-- the entries of ports, of which the first has this number
abbrev pub entries_from : ℕ → List Port → List Entry
entries_from k [] = []
entries_from k (p ∷ ps) = entry p k ∷ entries_from (suc k) ps

-- no two have one number
abbrev pub AreDistinct : List Entry → Type 0
AreDistinct entries = (i j : ℕ) (d : Entry) → i < j → j < length entries
    → (slice_index_or entries i d).number ≢ (slice_index_or entries j d).number

-- the place of each is told at its number
abbrev pub AreTold : List ℕ → List Entry → Type 0
AreTold told entries = (i : ℕ) (d : Entry) → i < length entries
    → slice_index told (slice_index_or entries i d).number ≡ i

-- the wish of an entry's port
abbrev pub wish_at : List Port → Entry → PadWish
wish_at ports e = wish_of (get_or ports e.number no_port)
