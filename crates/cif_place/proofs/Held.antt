-- Turns that are held with short numbers.
use Rattle.std.proofs.Common.{◌≡◌, ℕ, zero, suc, ◌+◌, ◌<◌, List, [], ◌∷◌, ◌++◌, ◌∙◌, ap, arith, length, take, get_or}
use Rattle.std.proofs.Common.{map, All}
use Rattle.std.proofs.lemmas.List.{map-append, take_more}
use Rattle.std.proofs.lemmas.List.Elements.{All-head, All-tail}
use Rattle.cif_list.specs.declared.turn.ShortTurn.{ShortTurn}
use Rattle.cif_list.specs.Turning.{wide_turn}
use Rattle.cif_place.specs.Turning.{IsShortTurn}

-- one more of them
pub one_more : (ts : List ShortTurn) (k : ℕ) (d : ShortTurn) → k < length ts
    → map wide_turn (take (k + 1) ts) ≡ map wide_turn (take k ts) ++ wide_turn (get_or ts k d) ∷ []
one_more ts k d h = ap (map wide_turn) (take_more ts k d h) ∙ map-append wide_turn (take k ts) (get_or ts k d ∷ [])

pub short_at : (ts : List ShortTurn) (k : ℕ) (d : ShortTurn) → k < length ts → All IsShortTurn (map wide_turn ts)
    → IsShortTurn (wide_turn (get_or ts k d))
short_at [] k d h a = absurd (omega arith)
short_at (t ∷ ts) zero d h a = All-head IsShortTurn (wide_turn t) (map wide_turn ts) a
short_at (t ∷ ts) (suc k) d h a =
    short_at ts k d (omega arith) (All-tail IsShortTurn (wide_turn t) (map wide_turn ts) a)
