-- Names that were seen, one after another.
use Rattle.std.proofs.Common.{◌≡◌, ◌≢◌, ◌∙◌, ℕ, ◌+◌, ◌<◌, List, [], ◌∷◌, zero, suc, map, length, get_or, refl, sym, ap}
use Rattle.std.proofs.Common.{subst, arith, Bool, true, false, not, cond, IsTrue, Bor, below_more}
use Rattle.std.specs.Ordering.{nat_cmp}
use Rattle.std.specs.Cmp.Lexicographic.{slice_cmp}
use Rattle.std.specs.Str.{bytes_eq}
use Rattle.std.specs.BTreeSet.{BTreeSet, contains_by, UpdatesBy}
use Rattle.std.proofs.lemmas.Map.Text.{is_eq-slice_cmp}
use Rattle.std.proofs.lemmas.Slice.Eq.{bytes_eq-Decides}
use Rattle.std.proofs.Math.ListN.{length-map}
use Rattle.mp_base.specs.PadNames.{is_pad_name, ArePadNames}

abbrev pub Names : Type 0
Names = BTreeSet (Bor (List ℕ))

-- a name is among those seen
abbrev pub has : Names → List ℕ → Bool
has seen q = contains_by (λ k. slice_cmp nat_cmp q k.now) seen

-- the first i names are fine, and they are those seen
pub record Seen (seen : Names) (names : List (List ℕ)) (i : ℕ) : Type 0 where
  pub each : (j : ℕ) → j < i → IsTrue (is_pad_name (get_or names j []))
  pub differ : (j k : ℕ) → j < k → k < i → get_or names j [] ≢ get_or names k []
  pub has_each : (j : ℕ) → j < i → has seen (get_or names j []) ≡ true
  pub only : (q : List ℕ) → has seen q ≡ true → (j : ℕ) × (j < i) × (q ≡ get_or names j [])

-- the set gained this name
abbrev pub Gained : Names → Names → List ℕ → Type 0
Gained old new key = (q : List ℕ) → has new q ≡ cond (bytes_eq key q) true (has old q)

pub gained_of : (old new : Names) (key : List ℕ)
    → UpdatesBy (λ x y. slice_cmp nat_cmp x.now y.now) (λ k. slice_cmp nat_cmp key k.now) old new true
    → Gained old new key
gained_of old new key updates q =
    updates.0 (record { ref_ptr = (0, 0); now = q }) ∙ ap (λ b. cond b true (has old q)) (is_eq-slice_cmp key q)

pub still : (b : Bool) → cond b true true ≡ true
still true = refl
still false = refl

either : (old new : Names) (names : List (List ℕ)) (i : ℕ) (key q : List ℕ) (b : Bool) → key ≡ get_or names i []
    → Seen old names i → bytes_eq key q ≡ b → cond b true (has old q) ≡ true
    → (j : ℕ) × (j < i + 1) × (q ≡ get_or names j [])
either old new names i key q true is seen same h = (i, omega arith, sym ((bytes_eq-Decides key q).0 same) ∙ is)
either old new names i key q false is seen same h = let found = seen.only q h in
    (found.0, (let lt : found.0 < i = found.1 in omega arith), found.2)

differ_more : (old : Names) (names : List (List ℕ)) (i : ℕ) (key : List ℕ) → key ≡ get_or names i []
    → has old key ≡ false → Seen old names i → (j k : ℕ) → k < i + 1 → j < k → get_or names j [] ≢ get_or names k []
differ_more old names i key is fresh seen j =
    below_more (λ k. j < k → get_or names j [] ≢ get_or names k []) i (λ k lt before. seen.differ j k before lt)
    (λ before same. let twice : has old key ≡ true = ap (has old) (is ∙ sym same) ∙ seen.has_each j before in cc)

-- what a name is in the list of names
pub at_map : (names : List (Bor (List ℕ))) (i : ℕ) (d : Bor (List ℕ)) → i < length names
    → (get_or names i d).now ≡ get_or (map (λ name. name.now) names) i []
at_map [] i d h = absurd (omega (arith, h))
at_map (x ∷ xs) zero d h = refl
at_map (x ∷ xs) (suc i) d h = at_map xs i d (omega (arith, h))

-- one more name
pub seen_more : (old new : Names) (names : List (List ℕ)) (i : ℕ) (key : List ℕ) → key ≡ get_or names i []
    → IsTrue (is_pad_name key) → has old key ≡ false → Gained old new key → Seen old names i → Seen new names (i + 1)
seen_more old new names i key is fine fresh gained seen = record {
  each = below_more _ _ seen.each (subst (λ name. IsTrue (is_pad_name name)) is fine);
  differ = λ j k before lt. differ_more old names i key is fresh seen j k lt before;
  has_each =
      below_more _ _
      (λ j lt. gained (get_or names j []) ∙ ap (cond (bytes_eq key (get_or names j [])) true) (seen.has_each j lt)
      ∙ still (bytes_eq key (get_or names j [])))
      (gained (get_or names i []) ∙ ap (λ q. cond (bytes_eq key q) true (has old q)) (sym is)
      ∙ ap (λ b. cond b true (has old key)) ((bytes_eq-Decides key key).1 refl));
  only = λ q h. either old new names i key q (bytes_eq key q) is seen refl (sym (gained q) ∙ h);
}

pub not_true : (b : Bool) → true ≡ not b → b ≡ false
not_true true e = e
not_true false e = refl

pub not_false : (b : Bool) → false ≡ not b → b ≡ true
not_false true e = refl
not_false false e = e

pub within_map : (names : List (Bor (List ℕ))) (i : ℕ) → i < length names → i < length (map (λ name. name.now) names)
within_map names i h = rw length-map h

-- a name that no pad may have
pub unfit : (names : List (List ℕ)) (i : ℕ) (key : List ℕ) → i < length names → key ≡ get_or names i []
    → false ≡ is_pad_name key → ArePadNames names → ⊥
unfit names i key within is bad fine =
    let good : is_pad_name key ≡ true = subst (λ name. is_pad_name name ≡ true) (sym is) (fine.each i within) in cc

-- a name that was seen before
pub seen_twice : (seen : Names) (names : List (List ℕ)) (i : ℕ) (key : List ℕ) → i < length names
    → key ≡ get_or names i [] → has seen key ≡ true → Seen seen names i → ArePadNames names → ⊥
seen_twice seen names i key within is twice s fine =
    let found = s.only key twice in fine.differ found.0 i found.1 within (sym found.2 ∙ is)

pub seen_all : (seen : Names) (names : List (List ℕ)) → Seen seen names (length names) → ArePadNames names
seen_all seen names s = record { each = s.each; differ = s.differ }
