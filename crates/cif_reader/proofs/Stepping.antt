-- The byte at a place.
use Rattle.std.proofs.Common.{◌≡◌, ℕ, suc, ◌+◌, ◌<◌, List, ◌∷◌, ◌∙◌, ap, arith, length, drop, get_or, drop-cons}

-- the byte at a place and those behind it
pub next : (bs : List ℕ) (i : ℕ) → i < length bs → drop i bs ≡ get_or bs i 0 ∷ drop (i + 1) bs
next bs i h = let e : suc i ≡ i + 1 = omega arith in drop-cons bs i 0 h ∙ ap (λ k. get_or bs i 0 ∷ drop k bs) e
