-- Lists that grow by what comes next, from a number on.
use Rattle.std.proofs.Common.{◌≡◌, ℕ, suc, ◌+◌, Bool, true, false, cond, List, [], ◌∷◌, ◌++◌, map, filter, refl, sym}
use Rattle.std.proofs.Common.{◌∙◌, ap, arith, append_assoc}
use Rattle.std.specs.Prelude.{flat_map}
use Rattle.std.specs.List.{range_with_len}
use Rattle.std.proofs.lemmas.List.{map-append}
use Rattle.mp_base.proofs.Ranges.{range_more}
use Rattle.band_lists.proofs.Growing.{flat_from}

pub map_from : {B : Type 0} (base : List B) (g : ℕ → B) (a n : ℕ) (items more : List B)
    → items ≡ base ++ map g (range_with_len a n) → more ≡ items ++ g (a + n) ∷ []
    → more ≡ base ++ map g (range_with_len a (n + 1))
map_from base g a n items more e h =
    h ∙ (ap (λ l. l ++ g (a + n) ∷ []) e ∙ (append_assoc base (map g (range_with_len a n)) (g (a + n) ∷ [])
    ∙ ap (λ l. base ++ l)
    (sym (ap (map g) (range_more a n) ∙ map-append g (range_with_len a n) ((a + n) ∷ [])))))

-- the next after k
after : (k : ℕ) → k + 1 ≡ 1 + k
after k = omega arith

succ : (k : ℕ) → suc k ≡ 1 + k
succ k = omega arith

-- bands from 1 on: what is added for the band after k goes behind what was added for k bands
pub bands_grown : {B : Type 0} (base : List B) (g : ℕ → List B) (k : ℕ) (items more : List B)
    → items ≡ base ++ flat_map g (range_with_len 1 k) → more ≡ items ++ g (k + 1)
    → more ≡ base ++ flat_map g (range_with_len 1 (k + 1))
bands_grown base g k items more e h =
    flat_from base g 1 k items more e (h ∙ ap (λ z. items ++ g z) (after k))

pub slices_grown : {B : Type 0} (base : List B) (g : ℕ → List B) (k : ℕ) (items more : List B)
    → items ≡ base ++ flat_map g (range_with_len 1 k) → more ≡ items ++ g (suc k)
    → more ≡ base ++ flat_map g (range_with_len 1 (k + 1))
slices_grown base g k items more e h =
    flat_from base g 1 k items more e (h ∙ ap (λ z. items ++ g z) (succ k))

pub each_grown : {B : Type 0} (base : List B) (g : ℕ → B) (k : ℕ) (items more : List B) (b : B)
    → items ≡ base ++ map g (range_with_len 1 k) → more ≡ items ++ b ∷ [] → b ≡ g (suc k)
    → more ≡ base ++ map g (range_with_len 1 (k + 1))
each_grown base g k items more b e h s =
    map_from base g 1 k items more e (h ∙ ap (λ z. items ++ z ∷ []) (s ∙ ap g (succ k)))

-- what is made of those that pass a test, one by one
pub passing : {B : Type 0} (test : ℕ → Bool) (f : ℕ → B) (xs : List ℕ)
    → flat_map (λ x. cond (test x) (f x ∷ []) []) xs ≡ map f (filter test xs)
passing test f [] = refl
passing test f (x ∷ xs) = go (test x) (passing test f xs)
  where
    go : (t : Bool) → flat_map (λ x. cond (test x) (f x ∷ []) []) xs ≡ map f (filter test xs)
        → cond t (f x ∷ []) [] ++ flat_map (λ x. cond (test x) (f x ∷ []) []) xs
        ≡ map f (cond t (x ∷ filter test xs) (filter test xs))
    go true i = ap (λ l. f x ∷ l) i
    go false i = i

-- two and three one after another
pub two_more : {B : Type 0} (old one all : List B) (x y : B) → one ≡ old ++ x ∷ [] → all ≡ one ++ y ∷ []
    → all ≡ old ++ x ∷ y ∷ []
two_more old one all x y e f = f ∙ (ap (λ l. l ++ y ∷ []) e ∙ append_assoc old (x ∷ []) (y ∷ []))

pub three_more : {B : Type 0} (old one two all : List B) (x y z : B) → one ≡ old ++ x ∷ [] → two ≡ one ++ y ∷ []
    → all ≡ two ++ z ∷ [] → all ≡ old ++ x ∷ y ∷ z ∷ []
three_more old one two all x y z e f g =
    g ∙ (ap (λ l. l ++ z ∷ []) (two_more old one two x y e f) ∙ append_assoc old (x ∷ y ∷ []) (z ∷ []))

-- five lists one after another
pub five_more : {B : Type 0} (old a b c d e one two three four all : List B) → one ≡ old ++ a → two ≡ one ++ b
    → three ≡ two ++ c → four ≡ three ++ d → all ≡ four ++ e → all ≡ old ++ (a ++ (b ++ (c ++ (d ++ e))))
five_more old a b c d e one two three four all f g h i j =
    j ∙ (ap (λ l. l ++ e) i ∙ (append_assoc three d e
    ∙ (ap (λ l. l ++ (d ++ e)) h ∙ (append_assoc two c (d ++ e)
    ∙ (ap (λ l. l ++ (c ++ (d ++ e))) g ∙ (append_assoc one b (c ++ (d ++ e))
    ∙ (ap (λ l. l ++ (b ++ (c ++ (d ++ e)))) f ∙ append_assoc old a (b ++ (c ++ (d ++ e))))))))))
