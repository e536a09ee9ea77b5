-- Lists whose elements are related one by one, for all crates above.
use Rattle.std.proofs.Common.{[], List, ◌∷◌, length, ◌≡◌, ℕ, arith, refl, suc, ◌<◌, get_or, zero, ◌++◌}
use Rattle.std.specs.List.{AllZip}
use Rattle.std.specs.Prelude.{All, slice_get, Some}
use Rattle.std.proofs.lemmas.List.Elements.{All-nil, All-cons}

pub zip_all_right : {A B : Type 0} (R : A → B → Type 0) (Q : B → Type 0) → ((x : A) (y : B) → R x y → Q y)
    → (xs : List A) (ys : List B) → AllZip R xs ys → All Q ys
zip_all_right R Q f [] [] h = All-nil Q
zip_all_right R Q f [] (b ∷ vs) h = absurd h
zip_all_right R Q f (a ∷ us) [] h = absurd h
zip_all_right R Q f (a ∷ us) (b ∷ vs) h = All-cons Q b vs (f a b h.0) (zip_all_right R Q f us vs h.1)

pub zip_map : {A B : Type 0} (R Q : A → B → Type 0) → ((a : A) (b : B) → R a b → Q a b) → (xs : List A) (ys : List B)
    → AllZip R xs ys → AllZip Q xs ys
zip_map R Q f [] [] h = tt
zip_map R Q f [] (y ∷ ys) h = h
zip_map R Q f (x ∷ xs) [] h = h
zip_map R Q f (x ∷ xs) (y ∷ ys) h = (f x y h.0, zip_map R Q f xs ys h.1)

-- lists that are alike place by place
pub zip_from_places : {A B : Type 0} (R : A → B → Type 0) (xs : List A) (ys : List B) → length ys ≡ length xs
    → ((n : ℕ) (x : A) (y : B) → slice_get xs n ≡ Some x → slice_get ys n ≡ Some y → R x y) → AllZip R xs ys
zip_from_places R [] [] e f = tt
zip_from_places R [] (y ∷ ys) e f = absurd (omega arith)
zip_from_places R (x ∷ xs) [] e f = absurd (omega arith)
zip_from_places R (x ∷ xs) (y ∷ ys) e f =
    (f 0 x y refl refl, zip_from_places R xs ys (omega arith) (λ n a b ea eb. f (suc n) a b ea eb))

pub zip_at : {A B : Type 0} (R : A → B → Type 0) (xs : List A) (ys : List B) → AllZip R xs ys → (k : ℕ) (d : A) (e : B)
    → k < length xs → R (get_or xs k d) (get_or ys k e)
zip_at R [] ys z k d e h = absurd (omega arith)
zip_at R (x ∷ xs) [] z k d e h = absurd z
zip_at R (x ∷ xs) (y ∷ ys) z zero d e h = z.0
zip_at R (x ∷ xs) (y ∷ ys) z (suc k) d e h = zip_at R xs ys z.1 k d e (omega arith)

pub zip_length : {A B : Type 0} (R : A → B → Type 0) (xs : List A) (ys : List B) → AllZip R xs ys
    → length xs ≡ length ys
zip_length R [] [] h = refl
zip_length R [] (y ∷ ys) h = absurd h
zip_length R (x ∷ xs) [] h = absurd h
zip_length R (x ∷ xs) (y ∷ ys) h = let e = zip_length R xs ys h.1 in omega (arith, e)

-- ---- lists made mark by mark
pub zip_push : {A B : Type 0} (Q : A → B → Type 0) (xs : List A) (ys : List B) (x : A) (y : B) → AllZip Q xs ys → Q x y
    → AllZip Q (xs ++ x ∷ []) (ys ++ y ∷ [])
zip_push Q [] [] x y z r = (r, z)
zip_push Q [] (b ∷ ys) x y z r = absurd z
zip_push Q (a ∷ xs) [] x y z r = absurd z
zip_push Q (a ∷ xs) (b ∷ ys) x y z r = (z.0, zip_push Q xs ys x y z.1 r)
