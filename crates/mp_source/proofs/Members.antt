-- Entries of lists that are made from others.
use Rattle.std.proofs.Common.{◌≡◌, ℕ, zero, suc, ◌+◌, ◌<◌, List, [], ◌∷◌, refl, ◌∙◌, arith, drop, Option, Some}
use Rattle.std.proofs.Common.{None}
use Rattle.std.specs.List.{filter_map, cons_option, range_with_len}
use Rattle.std.proofs.lemmas.List.FromFn.{length-range_with_len, get_or-range_with_len}
use Rattle.std.proofs.lemmas.List.{get_or-drop, length-drop}
use Rattle.std.proofs.lemmas.Option.{none-some}
use Rattle.mp_base.specs.Entries.{IsAt}
use Rattle.mp_base.proofs.Entries.{within, value, entry}

pub at_filter_map : {X Y : Type 0} (g : X → Option Y) (xs : List X) (k : ℕ) (y : Y) → IsAt (filter_map g xs) k y
    → (j : ℕ) × (x : X) × IsAt xs j x × (g x ≡ Some y)
at_filter_map g [] k y at = absurd (none-some y at)
at_filter_map {X} {Y} g (x ∷ xs) k y at = kept (λ i. at_filter_map g xs i y) (g x) refl k at
  where
    later : (j : ℕ) × (z : X) × IsAt xs j z × (g z ≡ Some y) → (j : ℕ) × (z : X) × IsAt (x ∷ xs) j z × (g z ≡ Some y)
    later (j, z, at, e) = (suc j, z, at, e)

    kept : ((i : ℕ) → IsAt (filter_map g xs) i y → (j : ℕ) × (z : X) × IsAt xs j z × (g z ≡ Some y)) → (o : Option Y)
        → g x ≡ o
        → (i : ℕ) → IsAt (cons_option o (filter_map g xs)) i y → (j : ℕ) × (z : X) × IsAt (x ∷ xs) j z × (g z ≡ Some y)
    kept rest None e i found = later (rest i found)
    kept rest (Some z) e zero found = (0, x, refl, e ∙ found)
    kept rest (Some z) e (suc i) found = later (rest i found)

pub at_drop : {X : Type 0} (n : ℕ) (xs : List X) (k : ℕ) (x : X) → IsAt (drop n xs) k x → IsAt xs (n + k) x
at_drop n xs k x at =
    let lt = within (drop n xs) k at in
    let size = length-drop n xs in
    entry xs (n + k) (omega (arith, lt, size)) (value (drop n xs) k at ∙ get_or-drop n xs k x)

pub at_range : (n k m : ℕ) → IsAt (range_with_len 0 n) k m → m < n
at_range n k m at =
    let lt = within (range_with_len 0 n) k at in
    let size = length-range_with_len 0 n in
    let below : k < n = omega (arith, lt, size) in
    let is = value (range_with_len 0 n) k at ∙ get_or-range_with_len 0 n k m below in
    omega (arith, below, is)
