-- The labels of what is driven differ.
use Rattle.std.proofs.Common.{◌≡◌, ℕ, zero, suc, ◌<◌, ◌≤◌, ◌⊎◌, inl, inr, List, [], ◌∷◌, ◌++◌, true, false, cond, not}
use Rattle.std.proofs.Common.{eqb, length, map, get_or, refl, sym, ◌∙◌, ap, subst, append_assoc, arith}
use Rattle.std.specs.Prelude.{◌≢◌, AllPairs, Contains, flat_map, codes, decimal, sum, IsTrue}
use Rattle.std.specs.List.{list_all, list_any}
use Rattle.std.specs.Str.{bytes_eq}
use Rattle.std.proofs.lemmas.Bool.Decides.{eqb_tells}
use Rattle.std.proofs.lemmas.Slice.Eq.{bytes_eq-Decides}
use Rattle.std.proofs.lemmas.Fmt.{decimal_injective}
use Rattle.std.proofs.lemmas.List.{get_or_default, get_or-map, length-map, append-nil, append_cancel_left}
use Rattle.std.proofs.lemmas.List.Concat.{flat_map-append}
use Rattle.std.proofs.lemmas.List.Elements.{Contains-append_left, Contains-append_cases}
use Rattle.std.proofs.lemmas.List.Folds.{list_any-from_Any}
use Rattle.std.proofs.lemmas.Bool.{and_parts}
use Rattle.mp_base.proofs.Contents.{contains_head, contains_behind}
use Rattle.mp_base.specs.declared.pad.Pad.{Pad}
use Rattle.mp_base.specs.declared.pad.Pads.{Pads}
use Rattle.mp_base.specs.Token.{is_token}
use Rattle.mp_base.specs.PadNames.{is_run, is_pad_name, supplies}
use Rattle.switch_net.specs.Pads.{word_labels, labels_of, bit_labels, driver_labels, chip_labels}
use Rattle.switch_net.specs.Laws.{ChipLabelsDiffer}

-- ---- lists of names that differ

abbrev Apart : List (List ℕ) → Type 0
Apart [] = Unit {0}
Apart (x ∷ xs) = ((y : List ℕ) → Contains xs y → x ≢ y) × Apart xs

apart_pairs : (xs : List (List ℕ)) → Apart xs → AllPairs ◌≢◌ xs
apart_pairs [] a i j d l k = absurd (omega arith)
apart_pairs (x ∷ xs) a zero zero d l k = absurd (omega arith)
apart_pairs (x ∷ xs) a zero (suc j) d l k =
    a.0 (get_or xs j d) (j, omega arith, get_or_default xs j (get_or xs j d) d (omega arith))
apart_pairs (x ∷ xs) a (suc i) zero d l k = absurd (omega arith)
apart_pairs (x ∷ xs) a (suc i) (suc j) d l k = apart_pairs xs a.1 i j d (omega arith) (omega arith)

pairs_apart : (xs : List (List ℕ)) → ((i j : ℕ) → i < j → j < length xs → get_or xs i [] ≢ get_or xs j []) → Apart xs
pairs_apart [] h = tt
pairs_apart (x ∷ xs) h = (
  λ y c. subst (λ z. x ≢ z) (get_or_default xs c.0 [] y c.1 ∙ c.2) (h 0 (suc c.0) (omega arith) (omega (arith, c.1))),
  pairs_apart xs (λ i j l k. h (suc i) (suc j) (omega arith) (omega arith)),
)

apart_prefix : (xs ys : List (List ℕ)) → Apart (xs ++ ys) → Apart xs
apart_prefix [] ys a = tt
apart_prefix (x ∷ xs) ys a = (λ y c. a.0 y (Contains-append_left xs ys y c), apart_prefix xs ys a.1)

apart_append : (xs ys : List (List ℕ)) → Apart xs → Apart ys → ((x y : List ℕ) → Contains xs x → Contains ys y → x ≢ y)
    → Apart (xs ++ ys)
apart_append [] ys a b f = b
apart_append (x ∷ xs) ys a b f = (
  λ y c. at y (Contains-append_cases xs ys y c),
  apart_append xs ys a.1 b
      (λ u v c k. f u v (suc c.0, omega (arith, c.1), c.2) k),
)
  where
    at : (y : List ℕ) → Contains xs y ⊎ Contains ys y → x ≢ y
    at y (inl c) = a.0 y c
    at y (inr c) = f x y (0, omega arith, refl) c

none_in : (y : List ℕ) → Contains [] y → ⊥
none_in y c = absurd (omega (arith, c.1))

only_one : (x y : List ℕ) → Contains (x ∷ []) y → y ≡ x
only_one x y (zero, l, e) = sym e
only_one x y (suc k, l, e) = absurd (omega arith)

-- ---- what stands before the first dot

abbrev stem : List ℕ → List ℕ
stem [] = []
stem (c ∷ cs) = cond (eqb c 46) [] (c ∷ stem cs)

no_dot : (c : ℕ) → is_token c ≡ true → eqb c 46 ≡ false
no_dot c t = at (eqb_tells c 46)
  where
    at : (eqb c 46 ≡ true) × (c ≡ 46) ⊎ (eqb c 46 ≡ false) × (c ≢ 46) → eqb c 46 ≡ false
    at (inl h) = let u : is_token 46 ≡ true = subst (λ x. is_token x ≡ true) h.1 t in absurd (cc)
    at (inr h) = h.0

stem_then : (name rest : List ℕ) → list_all is_token name ≡ true → stem rest ≡ [] → stem (name ++ rest) ≡ name
stem_then [] rest t e = e
stem_then (c ∷ cs) rest t e =
    let b = and_parts (is_token c) (list_all is_token cs) t in
    rw (no_dot c b.0) (ap (λ x. c ∷ x) (stem_then cs rest b.1 e))

stem_all : (name : List ℕ) → list_all is_token name ≡ true → stem name ≡ name
stem_all name t = subst (λ x. stem x ≡ name) (append-nil name) (stem_then name [] t refl)

-- ---- the labels of one pad

word_at : (p : List ℕ) (n : ℕ) (x : List ℕ) → Contains (word_labels p n) x
    → (j : ℕ) × (j < n) × (x ≡ p ++ (codes "." ++ decimal j))
word_at p zero x c = absurd (none_in x c)
word_at p (suc n) x c =
    at (word_at p n x) (Contains-append_cases (word_labels p n) ((p ++ (codes "." ++ decimal n)) ∷ []) x c)
  where
    at : (Contains (word_labels p n) x → (j : ℕ) × (j < n) × (x ≡ p ++ (codes "." ++ decimal j)))
        → Contains (word_labels p n) x ⊎ Contains ((p ++ (codes "." ++ decimal n)) ∷ []) x
        → (j : ℕ) × (j < suc n) × (x ≡ p ++ (codes "." ++ decimal j))
    at again (inl c) = let w = again c in (w.0, omega (arith, w.1), w.2)
    at again (inr c) = (n, omega arith, only_one (p ++ (codes "." ++ decimal n)) x c)

-- the stem of each label is the pad's name
stem_of : (p : List ℕ) (width : ℕ) (x : List ℕ) → list_all is_token p ≡ true → Contains (labels_of p width) x
    → stem x ≡ p
stem_of p zero x t c = ap stem (only_one p x c) ∙ stem_all p t
stem_of p (suc w) x t c = let a = word_at p (suc w) x c in ap stem a.2 ∙ stem_then p (46 ∷ decimal a.0) t refl

words_apart : (p : List ℕ) (n : ℕ) → n ≤ 64 → Apart (word_labels p n)
words_apart p zero h = tt
words_apart p (suc n) h =
    apart_append (word_labels p n) ((p ++ (codes "." ++ decimal n)) ∷ []) (words_apart p n (omega arith))
    (λ y c. absurd (none_in y c), tt)
    (λ x y c k e.
    let a = word_at p n x c in
    let q : p ++ (46 ∷ decimal a.0) ≡ p ++ (46 ∷ decimal n) =
    sym a.2 ∙ e ∙ only_one (p ++ (codes "." ++ decimal n)) y k in
    let r : 46 ∷ decimal a.0 ≡ 46 ∷ decimal n = append_cancel_left p (46 ∷ decimal a.0) (46 ∷ decimal n) q in
    let l = a.1 in
    let j : a.0 ≡ n = decimal_injective a.0 n (omega arith) (omega arith) (cc) in
    absurd (omega arith))

labels_apart : (p : List ℕ) (width : ℕ) → width ≤ 64 → Apart (labels_of p width)
labels_apart p zero h = (λ y c. absurd (none_in y c), tt)
labels_apart p (suc w) h = words_apart p (suc w) h

-- ---- the labels of pads

flat_at : (pads : List Pad) (y : List ℕ) → Contains (flat_map bit_labels pads) y
    → (q : Pad) × Contains pads q × Contains (bit_labels q) y
flat_at [] y c = absurd (none_in y c)
flat_at (p ∷ ps) y c = at (flat_at ps y) (Contains-append_cases (bit_labels p) (flat_map bit_labels ps) y c)
  where
    at : (Contains (flat_map bit_labels ps) y → (q : Pad) × Contains ps q × Contains (bit_labels q) y)
        → Contains (bit_labels p) y ⊎ Contains (flat_map bit_labels ps) y
        → (q : Pad) × Contains (p ∷ ps) q × Contains (bit_labels q) y
    at again (inl k) = (p, contains_head p ps, k)
    at again (inr k) = let (q, c, b) = again k in (q, contains_behind q p ps c, b)

-- the names of these pads are runs
abbrev AreRuns : List Pad → Type 0
AreRuns pads = (p : Pad) → Contains pads p → list_all is_token p.name ≡ true

named : (pads : List Pad) (p : Pad) → Contains pads p → Contains (map (λ (x : Pad). x.name) pads) p.name
named pads p c = (
  c.0,
  subst (λ n. c.0 < n) (sym (length-map pads (λ (x : Pad). x.name))) c.1,
  get_or-map
      (λ (x : Pad). x.name) pads c.0 p p.name c.1 ∙ ap (λ (x : Pad). x.name) c.2,
)

pads_apart : (pads : List Pad) → AreRuns pads → Apart (map (λ (x : Pad). x.name) pads)
    → Apart (flat_map bit_labels pads)
pads_apart [] runs a = tt
pads_apart (p ∷ ps) runs a =
    let later : AreRuns ps = λ q c. runs q (suc c.0, omega (arith, c.1), c.2) in
    apart_append (bit_labels p) (flat_map bit_labels ps) (labels_apart p.name p.width p.narrow)
    (pads_apart ps later a.1)
    (λ x y c k e.
    let w = flat_at ps y k in
    let q : p.name ≡ w.0.name =
    sym (stem_of p.name p.width x (runs p (0, omega arith, refl)) c) ∙ ap stem e
    ∙ stem_of w.0.name w.0.width y (later w.0 w.1) w.2 in
    a.0 w.0.name (named ps w.0 w.1) q)

-- ---- the labels of the supplies

-- a number for each, in order
abbrev Numbered : (List ℕ → ℕ) → ℕ → List (List ℕ) → Type 0
Numbered f n [] = Unit {0}
Numbered f n (x ∷ xs) = (f x ≡ n) × Numbered f (suc n) xs

number_in : (f : List ℕ → ℕ) (n : ℕ) (xs : List (List ℕ)) (y : List ℕ) → Numbered f n xs → Contains xs y → n ≤ f y
number_in f n [] y h c = absurd (none_in y c)
number_in f n (x ∷ xs) y h (zero, l, e) = let k : f y ≡ n = ap f (sym e) ∙ h.0 in omega arith
number_in f n (x ∷ xs) y h (suc i, l, e) = let k = number_in f (suc n) xs y h.1 (i, omega arith, e) in omega arith

numbered_apart : (f : List ℕ → ℕ) (n : ℕ) (xs : List (List ℕ)) → Numbered f n xs → Apart xs
numbered_apart f n [] h = tt
numbered_apart f n (x ∷ xs) h = (
  λ y c e. let k = number_in f (suc n) xs y h.1 c in let a = h.0 in let b : f x ≡ f y = ap f e in
      absurd (omega arith),
  numbered_apart f (suc n) xs h.1,
)

abbrev supply_number : List ℕ → ℕ
supply_number x =
    cond (eqb (sum x) 318) 0 (cond (eqb (sum x) 313) 1 (cond (eqb (sum x) 418) 2 (cond (eqb (sum x) 419) 3 4)))

supplies_apart : Apart supplies
supplies_apart = numbered_apart supply_number 0 supplies (refl, (refl, (refl, (refl, (refl, tt)))))

supply_stem : (x : List ℕ) → Contains supplies x → stem x ≡ x
supply_stem x (zero, l, e) = subst (λ z. stem z ≡ z) e refl
supply_stem x (suc zero, l, e) = subst (λ z. stem z ≡ z) e refl
supply_stem x (suc (suc zero), l, e) = subst (λ z. stem z ≡ z) e refl
supply_stem x (suc (suc (suc zero)), l, e) = subst (λ z. stem z ≡ z) e refl
supply_stem x (suc (suc (suc (suc zero))), l, e) = subst (λ z. stem z ≡ z) e refl
supply_stem x (suc (suc (suc (suc (suc k)))), l, e) = absurd (omega arith)

-- a pad has the name of no supply
no_supply : (name x : List ℕ) → IsTrue (is_pad_name name) → Contains supplies x → name ≡ x → ⊥
no_supply name x h c e =
    let b = and_parts (is_run name) (not (list_any (λ label. bytes_eq name label) supplies)) h in
    let t : list_any (λ label. bytes_eq name label) supplies ≡ true =
    list_any-from_Any (λ label. bytes_eq name label) supplies (c.0, x, c.1, c.2, (bytes_eq-Decides name x).1 e) in
    let f : not true ≡ true = subst (λ v. not v ≡ true) t b.1 in
    cc

run_all : (name : List ℕ) → is_run name ≡ true → list_all is_token name ≡ true
run_all [] h = absurd (cc)
run_all (c ∷ cs) h = h

-- ---- the labels of a chip

-- supplies, and the labels of all pads
pads_differ : (pads : Pads) → Apart (supplies ++ flat_map bit_labels (pads.inputs ++ pads.outputs))
pads_differ pads =
    apart_append supplies (flat_map bit_labels all) supplies_apart (pads_apart all runs names) cross
  where
    all : List Pad
    all = pads.inputs ++ pads.outputs

    name : (p : Pad) → Contains all p → IsTrue (is_pad_name p.name)
    name p c =
        let k = named all p c in
        subst (λ x. IsTrue (is_pad_name x))
        (get_or_default (map (λ (x : Pad). x.name) all) k.0 [] p.name k.1 ∙ k.2) (pads.named.each k.0 k.1)

    runs : AreRuns all
    runs p c =
        run_all p.name
        (and_parts (is_run p.name) (not (list_any (λ label. bytes_eq p.name label) supplies)) (name p c)).0

    names : Apart (map (λ (x : Pad). x.name) all)
    names = pairs_apart (map (λ (x : Pad). x.name) all) pads.named.differ

    cross : (x y : List ℕ) → Contains supplies x → Contains (flat_map bit_labels all) y → x ≢ y
    cross x y c k e =
        let w = flat_at all y k in
        let q : w.0.name ≡ x =
        sym (stem_of w.0.name w.0.width y (runs w.0 w.1) w.2) ∙ ap stem (sym e) ∙ supply_stem x c in
        no_supply w.0.name x (name w.0 w.1) c q

chip_apart : (pads : Pads) → Apart (chip_labels pads)
chip_apart pads =
    subst Apart
    (ap (λ z. supplies ++ z) (flat_map-append bit_labels pads.inputs pads.outputs)
    ∙ sym (append_assoc supplies (flat_map bit_labels pads.inputs) (flat_map bit_labels pads.outputs)))
    (pads_differ pads)

pub chip_labels_differ : ChipLabelsDiffer
chip_labels_differ pads = apart_pairs (chip_labels pads) (chip_apart pads)

-- the labels of what is driven
pub labels_differ : (pads : Pads) → AllPairs ◌≢◌ (driver_labels pads.inputs)
labels_differ pads =
    apart_pairs (driver_labels pads.inputs)
    (apart_prefix (driver_labels pads.inputs) (flat_map bit_labels pads.outputs) (chip_apart pads))
