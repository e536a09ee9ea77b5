-- The heights of bands.
use Rattle.std.proofs.Common.{ℕ, ◌≡◌, ◌+◌, ◌<◌, ◌∙◌, ap, arith, sym, List, length, get_or, Some}
use Rattle.std.specs.Prelude.{ℤ, slice_get}
use Rattle.std.specs.List.{range_with_len}
use Rattle.std.proofs.lemmas.List.{get_or-map, same_lists}
use Rattle.std.proofs.lemmas.List.FromFn.{get_or-range_with_len, length-map-range_with_len, length-range_with_len}
use Rattle.std.proofs.lemmas.Option.{get_or_from_slice_get, slice_get-get_or}
use Rattle.slice_symbols.specs.declared.bands.Bands.{Bands}
use Rattle.slice_symbols.specs.Heights.{height_of, heights}

-- the heights of so many bands, from the first on
pub record AreHeights (b : Bands) (many : ℕ) (those : List ℤ) : Type 0 where
  pub count : length those ≡ many
  pub each : (k : ℕ) → k < many → slice_get those k ≡ Some (height_of b k)

pub are_heights : (b : Bands) (many : ℕ) → AreHeights b many (heights b many)
are_heights b many = record { count = long; each = at }
  where
    long : length (heights b many) ≡ many
    long = length-map-range_with_len (height_of b) 0 many

    at : (k : ℕ) → k < many → slice_get (heights b many) k ≡ Some (height_of b k)
    at k h =
        let n : ℕ = length (range_with_len 0 many) in
        let in_range : k < length (range_with_len 0 many) =
        let e = length-range_with_len 0 many in omega (arith, h, e) in
        let within : k < length (heights b many) = let e = long in omega (arith, h, e) in
        let is : get_or (range_with_len 0 many) k 0 ≡ k =
        get_or-range_with_len 0 many k 0 h ∙ (let e : 0 + k ≡ k = omega arith in e) in
        slice_get-get_or (heights b many) k (height_of b 0) within
        ∙ ap (λ (z : ℤ). Some z) (get_or-map (height_of b) (range_with_len 0 many) k 0 (height_of b 0) in_range
        ∙ ap (height_of b) is)

-- there is one list of them
pub same_heights : (b : Bands) (many : ℕ) (those : List ℤ) → AreHeights b many those → those ≡ heights b many
same_heights b many those are =
    let own = are_heights b many in
    same_lists those (heights b many) (are.count ∙ sym own.count) (λ k d h.
    let l : k < many = let e = are.count in omega (arith, h, e) in
    get_or_from_slice_get those k (height_of b k) d (are.each k l)
    ∙ sym (get_or_from_slice_get (heights b many) k (height_of b k) d (own.each k l)))
