-- Lists side by side.
use Rattle.std.proofs.Common.{◌≡◌, ℕ, zero, suc, ◌<◌, List, [], ◌∷◌, ◌++◌, length, get_or, take, drop, arith}
use Rattle.std.specs.List.{AllZip}

-- lists that are the same place by place
pub zip_from : {A B : Type 0} (R : A → B → Type 0) (xs : List A) (ys : List B) → length xs ≡ length ys
    → ((i : ℕ) (d : A) (e : B) → i < length xs → R (get_or xs i d) (get_or ys i e)) → AllZip R xs ys
zip_from R [] [] l h = tt
zip_from R [] (y ∷ ys) l h = absurd (omega (arith, l))
zip_from R (x ∷ xs) [] l h = absurd (omega (arith, l))
zip_from R (x ∷ xs) (y ∷ ys) l h =
    (h 0 x y (omega arith), zip_from R xs ys (omega (arith, l)) (λ i d e lt. h (suc i) d e (omega (arith, lt))))

-- the first part of a list and the rest
pub zip_parts : {A B : Type 0} (R : A → B → Type 0) (xs zs : List A) (ys : List B) (n : ℕ) → length xs ≡ n
    → AllZip R (xs ++ zs) ys
    → AllZip R xs (take n ys) × AllZip R zs (drop n ys)
zip_parts R [] zs ys zero l h = (tt, h)
zip_parts R [] zs ys (suc n) l h = absurd (omega (arith, l))
zip_parts R (x ∷ xs) zs [] n l h = absurd h
zip_parts R (x ∷ xs) zs (y ∷ ys) zero l h = absurd (omega (arith, l))
zip_parts R (x ∷ xs) zs (y ∷ ys) (suc n) l h = let p = zip_parts R xs zs ys n (omega (arith, l)) h.1 in
    ((h.0, p.0), p.1)
