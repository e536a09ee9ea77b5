-- The list of parts that is left when the new parts of swaps are taken out of it.
use Rattle.std.specs.Prelude.{ℕ, suc, ◌-◌, List, [], ◌∷◌, Bool, ◌==◌, nat_lt, if◌then◌else◌, count_by, map}
use Rattle.std.specs.Prelude.{slice_index_or}
use Rattle.std.specs.List.{list_any}
use Rattle.board.specs.declared.link.Link.{Link}
use Rattle.board.specs.declared.plan.Plan.{Plan}
use Rattle.board.specs.declared.plan.Swap.{Swap}
use Rattle.board.specs.Face.{Face}
use Rattle.board.specs.Loop.{Exchange}

-- a swap puts in the entry with this index
abbrev pub is_put_in : List Swap → ℕ → Bool
is_put_in swaps place = list_any (λ s. s.fresh == place) swaps

-- the entries that no swap puts in, of those of which the first has this index
abbrev pub left_from : {X : Type 0} → List Swap → ℕ → List X → List X
left_from swaps place [] = []
left_from swaps place (x ∷ xs) =
    if is_put_in swaps place then left_from swaps (suc place) xs else x ∷ left_from swaps (suc place) xs

abbrev pub left_of : {X : Type 0} → List Swap → List X → List X
left_of swaps xs = left_from swaps 0 xs

-- where an entry that no swap puts in stands then
abbrev pub place_left : List Swap → ℕ → ℕ
place_left swaps place = place - count_by (λ s. nat_lt s.fresh place) swaps

-- a link to the list that is left
abbrev pub link_left : List Swap → Link → Link
link_left swaps link = record { part = place_left swaps link.part; seen = link.seen; driven = link.driven }

-- in place of a part that isn't there
abbrev pub no_face : Face
no_face = record { state = []; drives = λ state. 0; sees = λ state seen. state }

-- the swap of a plan, with the part that it puts in as it is in the list
abbrev pub exchange_of : List Face → Swap → Exchange
exchange_of faces swap =
    record { clock = swap.clock; link = swap.link; fresh = slice_index_or faces swap.fresh no_face }

-- the links of a plan, to the list that is left
abbrev pub links_left : Plan → List Link
links_left plan = map (link_left plan.swaps) plan.links

-- the swaps of a plan, with the parts of the list as handed in
abbrev pub exchanges_of : List Face → Plan → List Exchange
exchanges_of faces plan = map (exchange_of faces) plan.swaps
