-- Parts that take the place of others.
use Rattle.std.proofs.Common.{◌≡◌, ◌∙◌, ℕ, zero, suc, ◌<◌, List, [], ◌∷◌, length, map, set, get_or, ap, arith}
use Rattle.board.specs.declared.link.Link.{Link}
use Rattle.board.specs.Face.{Face}
use Rattle.board.specs.Loop.{part_of, put_at}

-- an entry that was written over
put_at_set : {P : Type 0} (face : P → Face) (xs : List P) (k : ℕ) (y : P) (own : Face) → k < length xs
    → face y ≡ own → map face (set xs k y) ≡ put_at own k (map face xs)
put_at_set face [] k y own lt is = absurd (omega (arith, lt))
put_at_set face (x ∷ xs) zero y own lt is = ap (λ f. f ∷ map face xs) is
put_at_set face (x ∷ xs) (suc k) y own lt is =
    ap (λ fs. face x ∷ fs) (put_at_set face xs k y own (omega (arith, lt)) is)

-- at an index that is told otherwise
pub put_there : {P : Type 0} (face : P → Face) (xs : List P) (k n : ℕ) (y : P) (own : Face) → k < length xs → k ≡ n
    → face y ≡ own → map face (set xs k y) ≡ put_at own n (map face xs)
put_there face xs k n y own lt same is =
    put_at_set face xs k y own lt is ∙ ap (λ m. put_at own m (map face xs)) same

-- the part of a link
pub part_at : (links : List Link) (k : ℕ) (l : Link) → k < length links → l ≡ get_or links k l
    → l.part ≡ part_of links k
part_at [] k l lt at = absurd (omega (arith, lt))
part_at (m ∷ links) zero l lt at = ap (λ (x : Link). x.part) at
part_at (m ∷ links) (suc k) l lt at = part_at links k l (omega (arith, lt)) at
