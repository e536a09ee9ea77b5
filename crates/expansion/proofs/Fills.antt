-- What items become, one after another and filled.
use Rattle.std.proofs.Common.{◌≡◌, ◌∙◌, ℕ, zero, suc, ◌<◌, ◌≤◌, List, [], ◌∷◌, ◌++◌, Bool, true, false, refl, sym, ap}
use Rattle.std.proofs.Common.{arith, length, length-append, map}
use Rattle.std.specs.Prelude.{Option, Some, None, slice_get, slice_index_or, ◌==◌, ◌||◌, MatchOption, ⊤}
use Rattle.std.specs.List.{list_any, AllByRecursion}
use Rattle.std.specs.Option.{option_or}
use Rattle.std.proofs.lemmas.Bool.{eq-eqb, eqb-true}
use Rattle.std.proofs.lemmas.Grind.{flat_map-append}
use Rattle.mp_base.specs.declared.refusal.Place.{Place}
use Rattle.mp_base.specs.Entries.{IsAt}
use Rattle.mp_base.proofs.Induction.{by_test}
use Rattle.mp_written.specs.declared.program.Expr.{Expr}
use Rattle.expansion.specs.declared.item.Item.{Item}
use Rattle.expansion.specs.declared.item.Item.TheVariants.{Copied, Argument}
use Rattle.expansion.specs.Filling.{filled, is_argument, mentions}
use Rattle.expansion.specs.Templates.{IsInside, item_pieces, kind_at, pieces_of, place_of}

pub pieces_append : (exprs : List Expr) (at : Place) (os : List (List Expr)) (xs ys : List Item)
    → pieces_of exprs at os (xs ++ ys) ≡ pieces_of exprs at os xs ++ pieces_of exprs at os ys
pieces_append exprs at os xs ys = flat_map-append (item_pieces exprs at os) xs ys

pub append_end : {X : Type 0} (xs : List X) → xs ++ [] ≡ xs
append_end [] = refl
append_end (x ∷ xs) = ap (λ ys. x ∷ ys) (append_end xs)

-- ---- filled

place_own : (exprs : List Expr) (at : Place) (standing own : Option ℕ)
    → place_of exprs at (option_or own standing) ≡ place_of exprs (place_of exprs at standing) own
place_own exprs at standing None = refl
place_own exprs at standing (Some e) = refl

word_pieces : (exprs : List Expr) (at : Place) (os : List (List Expr)) (words : List (List Item)) (i : ℕ)
    → pieces_of exprs at os (slice_index_or words i []) ≡ slice_index_or (map (pieces_of exprs at os) words) i []
word_pieces exprs at os [] i = refl
word_pieces exprs at os (v ∷ vs) zero = refl
word_pieces exprs at os (v ∷ vs) (suc i) = word_pieces exprs at os vs i

-- what a filled template becomes is what the template becomes where its arguments become what the words do
pub filled_pieces : (exprs : List Expr) (at : Place) (os : List (List Expr)) (standing : Option ℕ) (words : List
    (List Item))
    (items : List Item) → pieces_of exprs at os (filled standing words items)
    ≡ pieces_of exprs (place_of exprs at standing) (map (pieces_of exprs at os) words) items
filled_pieces exprs at os standing words [] = refl
filled_pieces exprs at os standing words (Copied e own ∷ items) =
    let rest = filled_pieces exprs at os standing words items in
    ap (λ p. record { place = p; kind = kind_at (slice_get exprs e) } ∷ pieces_of exprs at os
    (filled standing words items)) (place_own exprs at standing own)
    ∙ ap (λ ys. item_pieces exprs (place_of exprs at standing) (map (pieces_of exprs at os) words)
    (Copied e own) ++ ys) rest
filled_pieces exprs at os standing words (Argument i ∷ items) =
    let rest = filled_pieces exprs at os standing words items in
    pieces_append exprs at os (slice_index_or words i []) (filled standing words items)
    ∙ ap (λ ys. ys ++ pieces_of exprs at os (filled standing words items)) (word_pieces exprs at os words i)
    ∙ ap (λ ys. slice_index_or (map (pieces_of exprs at os) words) i [] ++ ys) rest

-- ---- only what is mentioned counts

or_true : (a b : Bool) → b ≡ true → (a || b) ≡ true
or_true true b h = refl
or_true false b h = h

pub same_mentioned : (exprs : List Expr) (at : Place) (os rs : List (List Expr)) (items : List Item)
    → ((i : ℕ) → mentions items i ≡ true → slice_index_or os i [] ≡ slice_index_or rs i [])
    → pieces_of exprs at os items ≡ pieces_of exprs at rs items
same_mentioned exprs at os rs [] same = refl
same_mentioned exprs at os rs (Copied e own ∷ items) same =
    ap (λ ys. item_pieces exprs at os (Copied e own) ++ ys) (same_mentioned exprs at os rs items same)
same_mentioned exprs at os rs (Argument j ∷ items) same =
    let first : mentions (Argument j ∷ items) j ≡ true =
    ap (λ b. b || list_any (is_argument j) items) (eq-eqb j j refl) in
    ap (λ ys. ys ++ pieces_of exprs at os items) (same j first)
    ∙ ap (λ ys. slice_index_or rs j [] ++ ys)
    (same_mentioned exprs at os rs items (λ i m. same i (or_true (j == i) (list_any (is_argument i) items) m)))

-- what is mentioned is no longer than the whole
pub mentioned_short : (exprs : List Expr) (at : Place) (os : List (List Expr)) (items : List Item) (i : ℕ)
    → mentions items i ≡ true → length (slice_index_or os i []) ≤ length (pieces_of exprs at os items)
mentioned_short exprs at os [] i m = let bad : false ≡ true = m in absurd (cc)
mentioned_short exprs at os (Copied e own ∷ items) i m =
    let rest = mentioned_short exprs at os items i m in omega (arith, rest)
mentioned_short exprs at os (Argument j ∷ items) i m =
    let both = length-append (slice_index_or os j []) (pieces_of exprs at os items) in
    by_test (j == i)
    (λ yes. (let e = eqb-true j i yes in
    let same = ap (λ k. length (slice_index_or os k [])) e in omega (arith, both, same)))
    (λ other. (let rest = mentioned_short exprs at os items i
    (sym (ap (λ b. b || list_any (is_argument i) items) other) ∙ m) in omega (arith, both, rest)))

-- ---- lengths

dense_at : (exprs : List Expr) (at : Place) (os : List (List Expr)) (words : List (List Item))
    → ((i : ℕ) (word : List Item) → IsAt words i word → length word ≤ length (pieces_of exprs at os word)) → (i : ℕ)
    → length (slice_index_or words i []) ≤ length (pieces_of exprs at os (slice_index_or words i []))
dense_at exprs at os [] dense i = omega arith
dense_at exprs at os (v ∷ vs) dense zero = dense 0 v refl
dense_at exprs at os (v ∷ vs) dense (suc i) = dense_at exprs at os vs (λ j word is. dense (suc j) word is) i

pub dense_append : (exprs : List Expr) (at : Place) (os : List (List Expr)) (xs ys : List Item)
    → length xs ≤ length (pieces_of exprs at os xs) → length ys ≤ length (pieces_of exprs at os ys)
    → length (xs ++ ys) ≤ length (pieces_of exprs at os (xs ++ ys))
dense_append exprs at os xs ys hx hy =
    let items = length-append xs ys in
    let pieces = length-append (pieces_of exprs at os xs) (pieces_of exprs at os ys) in
    let same = ap length (pieces_append exprs at os xs ys) in
    omega (arith, hx, hy, items, pieces, same)

pub dense_filled : (exprs : List Expr) (at : Place) (os : List (List Expr)) (standing : Option ℕ) (words : List
    (List Item))
    → ((i : ℕ) (word : List Item) → IsAt words i word → length word ≤ length (pieces_of exprs at os word))
    → (items : List Item) → length (filled standing words items) ≤ length (pieces_of exprs at os
    (filled standing words items))
dense_filled exprs at os standing words dense [] = omega arith
dense_filled exprs at os standing words dense (Copied e own ∷ items) =
    let rest = dense_filled exprs at os standing words dense items in omega (arith, rest)
dense_filled exprs at os standing words dense (Argument i ∷ items) =
    dense_append exprs at os (slice_index_or words i []) (filled standing words items)
    (dense_at exprs at os words dense i)
    (dense_filled exprs at os standing words dense items)

-- ---- what is copied is there

pub inside_append : (n : ℕ) (xs ys : List Item) → AllByRecursion (IsInside n) xs → AllByRecursion (IsInside n) ys
    → AllByRecursion (IsInside n) (xs ++ ys)
inside_append n [] ys hx hy = hy
inside_append n (x ∷ xs) ys hx hy = (hx.0, inside_append n xs ys hx.1 hy)

inside_at : (n : ℕ) (words : List (List Item))
    → ((i : ℕ) (word : List Item) → IsAt words i word → AllByRecursion (IsInside n) word) → (i : ℕ)
    → AllByRecursion (IsInside n) (slice_index_or words i [])
inside_at n [] inside i = tt
inside_at n (v ∷ vs) inside zero = inside 0 v refl
inside_at n (v ∷ vs) inside (suc i) = inside_at n vs (λ j word is. inside (suc j) word is) i

inside_own : (n e : ℕ) (own standing : Option ℕ) → IsInside n (Copied e own) → MatchOption standing ⊤ (λ i. i < n)
    → IsInside n (Copied e (option_or own standing))
inside_own n e None standing here there = (here.0, there)
inside_own n e (Some i) standing here there = here

pub inside_filled : (n : ℕ) (standing : Option ℕ) (words : List (List Item)) (items : List Item)
    → MatchOption standing ⊤ (λ i. i < n)
    → ((i : ℕ) (word : List Item) → IsAt words i word → AllByRecursion (IsInside n) word)
    → AllByRecursion (IsInside n) items → AllByRecursion (IsInside n) (filled standing words items)
inside_filled n standing words [] there inside all = tt
inside_filled n standing words (Copied e own ∷ items) there inside all =
    (inside_own n e own standing all.0 there, inside_filled n standing words items there inside all.1)
inside_filled n standing words (Argument i ∷ items) there inside all =
    inside_append n (slice_index_or words i []) (filled standing words items) (inside_at n words inside i)
    (inside_filled n standing words items there inside all.1)
