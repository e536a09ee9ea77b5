-- Elements of lists that are made from other lists.
use Rattle.std.proofs.Common.{◌≡◌, ℕ, zero, suc, ◌+◌, ◌<◌, List, [], ◌∷◌, ◌++◌, sym, ◌∙◌, ap, subst, length, map, take}
use Rattle.std.proofs.Common.{arith, get_or}
use Rattle.std.proofs.lemmas.List.{map_more}

-- an entry of a list that f makes of xs
pub made_at : {X Y : Type 0} (f : X → Y) (xs : List X) (ys : List Y) (i : ℕ) (x : X) (y : Y) → ys ≡ map f xs
    → i < length xs → x ≡ get_or xs i x → y ≡ get_or ys i y → y ≡ f x
made_at {X} {Y} f xs ys i x y made lt here there = walk xs i lt here (subst (λ zs. y ≡ get_or zs i y) made there)
  where
    walk : (zs : List X) (k : ℕ) → k < length zs → x ≡ get_or zs k x → y ≡ get_or (map f zs) k y → y ≡ f x
    walk [] k l a b = absurd (omega (arith, l))
    walk (z ∷ zs) zero l a b = b ∙ ap f (sym a)
    walk (z ∷ zs) (suc k) l a b = walk zs k (omega (arith, l)) a b

-- a list that f makes of xs, with one entry more
pub made_more : {X Y : Type 0} (f : X → Y) (items xs : List X) (ys : List Y) (i : ℕ) (x : X) (y : Y) → items ≡ xs
    → i < length items → x ≡ get_or items i x → y ≡ f x → ys ≡ map f (take i xs)
    → ys ++ y ∷ [] ≡ map f (take (i + 1) xs)
made_more f items xs ys i x y same lt is made so_far =
    ap (λ zs. zs ++ y ∷ []) (so_far ∙ ap (λ zs. map f (take i zs)) (sym same))
    ∙ ap (λ z. map f (take i items) ++ z ∷ []) (made ∙ ap f is) ∙ sym (map_more f items i x lt)
    ∙ ap (λ zs. map f (take (i + 1) zs)) same
