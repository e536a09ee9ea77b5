-- Names that come once.
use Rattle.std.proofs.Common.{◌≡◌, ◌≢◌, ℕ, zero, suc, ◌+◌, ◌<◌, List, [], ◌∷◌, Bool, true, false, cond, refl, sym, ◌∙◌}
use Rattle.std.proofs.Common.{ap, inl, inr, length, take, arith, get_or}
use Rattle.std.specs.Prelude.{AllPairs, ◌||◌}
use Rattle.std.specs.List.{list_any}
use Rattle.std.specs.Str.{bytes_eq}
use Rattle.std.proofs.lemmas.Bool.{both_ways, or_parts, cases_lt, cases_Bool}
use Rattle.std.proofs.lemmas.List.{get_or-take, length-take-le}
use Rattle.std.specs.Cmp.Lexicographic.{slice_cmp}
use Rattle.std.specs.Ordering.{nat_cmp, is_eq}
use Rattle.std.proofs.lemmas.Map.Text.{is_eq-slice_cmp}
use Rattle.std.proofs.lemmas.Bool.Decides.{same_from_decides, Decides-like}
use Rattle.std.proofs.lemmas.List.Folds.{list_any_more}
use Rattle.std.proofs.lemmas.Slice.Eq.{bytes_eq-Decides}
use Rattle.stimulus_lines.specs.declared.form.Assignment.{Assignment}

abbrev pub AreApart : List Assignment → Type 0
AreApart xs = AllPairs (λ (a b : Assignment). a.name ≢ b.name) xs

abbrev pub has_name : List ℕ → List Assignment → Bool
has_name name xs = list_any (λ (a : Assignment). bytes_eq name a.name) xs

-- where a test passes, and that it fails everywhere
pub place_of : {X : Type 0} (p : X → Bool) (xs : List X) (d : X) → list_any p xs ≡ true
    → (k : ℕ) × (k < length xs) × (p (get_or xs k d) ≡ true)
place_of p [] d h = absurd (both_ways false refl h)
place_of p (x ∷ xs) d h = elim (cases_Bool (p x)) [
  | inl e ↦ (0, omega arith, e)
  | inr e ↦ let rest = place_of p xs d (sym (ap (λ b. b || list_any p xs) e) ∙ h) in
      (suc rest.0, omega (arith, rest.1), rest.2)
]

pub fails_at : {X : Type 0} (p : X → Bool) (xs : List X) (k : ℕ) (d : X) → list_any p xs ≡ false → k < length xs
    → p (get_or xs k d) ≡ false
fails_at p [] k d h lt = absurd (omega arith)
fails_at p (x ∷ xs) zero d h lt = (or_parts (p x) (list_any p xs) h).0
fails_at p (x ∷ xs) (suc k) d h lt = fails_at p xs k d (or_parts (p x) (list_any p xs) h).1 (omega arith)

-- one more name, which is new
pub apart_more : (xs : List Assignment) (n : ℕ) (x : Assignment) → n < length xs → x ≡ get_or xs n x
    → AreApart (take n xs) → has_name x.name (take n xs) ≡ false → AreApart (take (n + 1) xs)
apart_more xs n x lt is before new i j d less within same =
    let size : length (take n xs) ≡ n = length-take-le n xs (omega arith) in
    let more : length (take (n + 1) xs) ≡ n + 1 = length-take-le (n + 1) xs (omega arith) in
    let first : (get_or (take (n + 1) xs) i d) ≡ get_or (take n xs) i d =
    get_or-take (n + 1) xs i d (omega arith) ∙ sym (get_or-take n xs i d (omega arith)) in
    elim (cases_lt j n) [
      | inl early ↦ before i j d less (omega (arith, size))
          (sym (ap (λ a. a.name) first) ∙ same
          ∙ ap (λ a. a.name) (get_or-take (n + 1) xs j d (omega arith) ∙ sym (get_or-take n xs j d early)))
      | inr late ↦
          let at : j ≡ n = omega arith in
          let last : get_or (take (n + 1) xs) j d ≡ x =
          get_or-take (n + 1) xs j d (omega arith) ∙ ap (λ k. get_or xs k d) at ∙ default xs n d x lt ∙ sym is in
          both_ways _ (fails_at (λ (a : Assignment). bytes_eq x.name a.name) (take n xs) i d new (omega (arith, size)))
          ((bytes_eq-Decides x.name (get_or (take n xs) i d).name).1
          (sym (ap (λ a. a.name) last) ∙ sym same ∙ ap (λ a. a.name) first))
    ]
  where
    default : (ys : List Assignment) (k : ℕ) (e f : Assignment) → k < length ys → get_or ys k e ≡ get_or ys k f
    default [] k e f h = absurd (omega arith)
    default (y ∷ ys) zero e f h = refl
    default (y ∷ ys) (suc k) e f h = default ys k e f (omega arith)

-- a name that came before
pub apart_not : (xs : List Assignment) (n : ℕ) (x : Assignment) → n < length xs → x ≡ get_or xs n x
    → has_name x.name (take n xs) ≡ true → AreApart xs → ⊥
apart_not xs n x lt is old apart =
    let size : length (take n xs) ≡ n = length-take-le n xs (omega arith) in
    let found = place_of (λ (a : Assignment). bytes_eq x.name a.name) (take n xs) x old in
    let same : x.name ≡ (get_or (take n xs) found.0 x).name =
    (bytes_eq-Decides x.name (get_or (take n xs) found.0 x).name).0 found.2 in
    let less : found.0 < n = omega (arith, found.1, size) in
    apart found.0 n x less lt
    (sym (ap (λ a. a.name) (get_or-take n xs found.0 x less)) ∙ sym same ∙ ap (λ a. a.name) is)

-- the names seen, with one more
pub seen_more : (xs : List Assignment) (n : ℕ) (x : Assignment) (q key : List ℕ) → n < length xs → x ≡ get_or xs n x
    → key ≡ x.name
    → cond (is_eq (slice_cmp nat_cmp key q)) true (has_name q (take n xs)) ≡ has_name q (take (n + 1) xs)
seen_more xs n x q key lt is e =
    ap (λ b. cond b true (has_name q (take n xs))) (is_eq-slice_cmp key q ∙ turned key q)
    ∙ either (bytes_eq q key) (has_name q (take n xs))
    ∙ ap (λ m. has_name q (take n xs) || bytes_eq q m) (e ∙ ap (λ a. a.name) is)
    ∙ sym (list_any_more (λ (a : Assignment). bytes_eq q a.name) xs n x lt)
  where
    turned : (a b : List ℕ) → bytes_eq a b ≡ bytes_eq b a
    turned a b =
        same_from_decides (bytes_eq a b) (bytes_eq b a) (Decides-like (bytes_eq a b) sym sym (bytes_eq-Decides a b))
        (bytes_eq-Decides b a)

    either : (b c : Bool) → cond b true c ≡ (c || b)
    either true true = refl
    either true false = refl
    either false true = refl
    either false false = refl
