-- The packing of sorted intervals is one of those that were given.
use Rattle.std.proofs.Common.{ℕ, suc, ◌≡◌, ◌≢◌, ◌<◌, ◌≤◌, ◌+◌, ◌⊎◌, inl, inr, refl, sym, ap, subst, ◌∙◌, arith, List}
use Rattle.std.proofs.Common.{[], ◌∷◌, length, get_or, take, drop, All, Contains, slice_index, IsPermutation, eqb, cond}
use Rattle.std.specs.Prelude.{sum_by}
use Rattle.std.specs.List.Sorted.{IsNonDecreasingBy}
use Rattle.std.proofs.lemmas.Bool.{cases_lt, cases_eq, eq-eqb}
use Rattle.std.proofs.lemmas.List.{length-drop, length-take, get_or-take, get_or-drop, get_or_default}
use Rattle.std.proofs.lemmas.Option.{get_or_from_slice_get, slice_get_within}
use Rattle.std.proofs.lemmas.List.Sums.{sum_by-cons, sum_by-take-drop, get_or-le-sum_by}
use Rattle.std.proofs.lemmas.List.Sorted.{All-permutation, Contains-permutation, sum_by-IsPermutation}
use Rattle.track_assign.specs.declared.packing.Interval.{Interval}
use Rattle.track_assign.specs.declared.rows.Entry.{Entry}
use Rattle.track_assign.specs.Density as given
use Rattle.track_assign.specs.Density.{IsInterval, IsDensity, EndsBefore, AreApart}
use Rattle.track_assign.specs.Rows.{entry, entries_from, over, IsPacking, AreAscending, AreAt}
use Rattle.track_assign.proofs.Entries.{many, over_entries, entry_at}

-- ---- indices differ

abbrev has : ℕ → Entry → ℕ
has k e = cond (eqb e.index k) 1 0

has_one : (k : ℕ) (e : Entry) → e.index ≡ k → has k e ≡ 1
has_one k e h = ap (λ b. cond b 1 0) (eq-eqb e.index k h)

has_none : (k : ℕ) (e : Entry) → (e.index ≡ k → ⊥) → has k e ≡ 0
has_none k e h = grind (arith, h)

later_none : (k n : ℕ) (xs : List Interval) → k < n → sum_by (has k) (entries_from n xs) ≡ 0
later_none k n [] lt = refl
later_none k n (x ∷ xs) lt =
    let a = sum_by-cons (has k) (entry x n) (entries_from (suc n) xs) in
    let b = has_none k (entry x n) (λ e. omega (arith, e, lt)) in
    let c = later_none k (suc n) xs (omega (arith, lt)) in
    omega (arith, a, b, c)

at_most_one : (k n : ℕ) (xs : List Interval) → sum_by (has k) (entries_from n xs) ≤ 1
at_most_one k n [] = omega arith
at_most_one k n (x ∷ xs) =
    let a = sum_by-cons (has k) (entry x n) (entries_from (suc n) xs) in
    elim (cases_eq n k) [
      | inl e ↦ (let b = has_one k (entry x n) e in let c = later_none k (suc n) xs (omega (arith, e)) in
          omega (arith, a, b, c))
      | inr ne ↦ (let b = has_none k (entry x n) ne in let c = at_most_one k (suc n) xs in omega (arith, a, b, c))
    ]

two_of : (f : Entry → ℕ) (xs : List Entry) (i j : ℕ) (d : Entry) → i < j → j < length xs
    → f (get_or xs i d) + f (get_or xs j d) ≤ sum_by f xs
two_of f xs i j d lt inside =
    let s = sum_by-take-drop f xs j in
    let lk = length-take j xs in
    let a = get_or-le-sum_by f (take j xs) i d (omega (arith, lk, lt, inside)) in
    let p = ap f (get_or-take j xs i d lt) in
    let ld = length-drop j xs in
    let b = get_or-le-sum_by f (drop j xs) 0 d (omega (arith, ld, inside)) in
    let q = ap f (get_or-drop j xs 0 d) in
    let z : j + 0 ≡ j = omega arith in
    let r = ap (λ n. f (get_or xs n d)) z in
    omega (arith, s, a, p, b, q, r)

module _ (xs : List Interval) (es : List Entry) (moved : IsPermutation (entries_from 0 xs) es) where
  abbrev all : List Entry
  all = entries_from 0 xs

  pub distinct : (i j : ℕ) (d : Entry) → i < j → j < length es → (get_or es i d).index ≢ (get_or es j d).index
  distinct i j d lt inside same =
      let k : ℕ = (get_or es j d).index in
      let s = sum_by-IsPermutation (has k) all es moved in
      let m = at_most_one k 0 xs in
      let t = two_of (has k) es i j d lt inside in
      let a = has_one k (get_or es i d) same in
      let b = has_one k (get_or es j d) refl in
      omega (arith, s, m, t, a, b)

  each_inside : All (λ (e : Entry). e.index < length xs) all
  each_inside k d lt =
      let l = many 0 xs in
      let x : Interval = record { first = 0; last = 0 } in
      let q = ap (λ (e : Entry). e.index) (entry_at 0 xs k x d (omega (arith, lt, l))) in
      omega (arith, q, lt, l)

  length_by_sum : (ys : List Entry) → sum_by (λ (e : Entry). 1) ys ≡ length ys
  length_by_sum [] = refl
  length_by_sum (y ∷ ys) = let a = sum_by-cons (λ (e : Entry). 1) y ys in let b = length_by_sum ys in
      omega (arith, a, b)

  pub longs : length es ≡ length xs
  longs = sym (length_by_sum es) ∙ sum_by-IsPermutation (λ (e : Entry). 1) all es moved ∙ length_by_sum all ∙ many 0 xs

  pub inside : All (λ (e : Entry). e.index < length es) es
  inside = let l = longs in subst (λ n. All (λ (e : Entry). e.index < n) es) (sym l)
      (All-permutation (λ e. e.index < length xs) all es moved each_inside)

  each_some : All IsInterval xs
      → All (λ (e : Entry). e.first ≤ e.end) all
  each_some h k d lt =
      let l = many 0 xs in
      let x : Interval = record { first = 0; last = 0 } in
      let i = h k x (omega (arith, lt, l)) in
      let e = entry_at 0 xs k x d (omega (arith, lt, l)) in
      let p = ap (λ (e : Entry). e.first) e in let q = ap (λ (e : Entry). e.end) e in
      omega (arith, i.ordered, p, q)

  pub some : All IsInterval xs
      → All (λ (e : Entry). e.first ≤ e.end) es
  some h = All-permutation (λ e. e.first ≤ e.end) all es moved (each_some h)

  module _ (row rows ends : List ℕ) (column : ℕ) (p : IsPacking es rows ends column) (told : AreAt row es rows) where
    -- where an interval stands among the sorted ones
    place : (i : ℕ) (d : Interval) → i < length xs → Contains es (entry (get_or xs i d) i)
    place i d lt =
        let l = many 0 xs in
        let e : Entry = entry (get_or xs i d) i in
        Contains-permutation all es e moved (
          i,
          omega (arith, lt, l),
          entry_at 0 xs i d e lt
              ∙ (let z : 0 + i ≡ i = omega arith in ap (entry (get_or xs i d)) z),
        )

    row_at : (i : ℕ) (d : Interval) (lt : i < length xs) → slice_index row i ≡ slice_index rows (place i d lt).0
    row_at i d lt = let c = place i d lt in ap (λ (e : Entry). slice_index row e.index) (sym c.2) ∙ told c.0 _ c.1

    pub within : length row ≡ length xs → All (λ r. r < length ends) row
    within long k d lt =
        let x : Interval = record { first = 0; last = 0 } in
        let c = place k x (omega (arith, lt, long)) in
        let a = row_at k x (omega (arith, lt, long)) in
        let b = p.inside c.0 (omega (arith, c.1, p.long)) in
        let q = get_or_default row k 0 d lt in
        omega (arith, a, b, q)

    -- one of two intervals of one row stands before the other
    parted : (i j : ℕ) (d : Interval) → i < length xs → j < length xs → i ≢ j → slice_index row i ≡ slice_index row j
        → EndsBefore (get_or xs i d) (get_or xs j d) ⊎ EndsBefore (get_or xs j d) (get_or xs i d)
    parted i j d li lj ne same =
        let a = place i d li in
        let b = place j d lj in
        let e : slice_index rows a.0 ≡ slice_index rows b.0 = sym (row_at i d li) ∙ same ∙ row_at j d lj in
        let x : Entry = entry (get_or xs i d) i in
        let y : Entry = entry (get_or xs j d) j in
        elim (cases_lt a.0 b.0) [
          | inl lt ↦ (let h = p.apart a.0 b.0 x lt b.1 e in
              let q = ap (λ (e : Entry). e.end) a.2 in
              let r = ap (λ (e : Entry). e.first) (get_or_default es b.0 x y b.1 ∙ b.2) in
              inl (omega (arith, h, q, r)))
          | inr le ↦ elim (cases_eq a.0 b.0) [
            | inl eq ↦ absurd (ne (ap (λ (e : Entry). e.index) (sym a.2) ∙ ap (λ n. (get_or es n x).index) eq
                ∙ ap (λ (e : Entry). e.index) (get_or_default es b.0 x y b.1 ∙ b.2)))
            | inr nq ↦ (let h = p.apart b.0 a.0 y (omega (arith, le, nq)) a.1 (sym e) in
                let q = ap (λ (e : Entry). e.end) b.2 in
                let r = ap (λ (e : Entry). e.first) (get_or_default es a.0 y x a.1 ∙ a.2) in
                inr (omega (arith, h, q, r)))
          ]
        ]

    pub apart : AreApart xs row
    apart i j r x y ne at_i row_i at_j row_j =
        let same = get_or_from_slice_get row i r 0 row_i ∙ sym (get_or_from_slice_get row j r 0 row_j) in
        let p = parted i j x (slice_get_within xs i x at_i) (slice_get_within xs j y at_j) ne same in
        let is_x = get_or_from_slice_get xs i x x at_i in
        let is_y = get_or_from_slice_get xs j y x at_j in
        subst (λ a. EndsBefore a y ⊎ EndsBefore y a) is_x
        (subst (λ b. EndsBefore (get_or xs i x) b ⊎ EndsBefore b (get_or xs i x)) is_y p)

    same_over : (c : ℕ) → given.over c xs ≡ over c es
    same_over c = sym (sum_by-IsPermutation _ all es moved ∙ over_entries c 0 xs)

    pub density : IsDensity xs (length ends) column
    density = record {
      most = λ c. (let a = same_over c in let b = p.most c in omega (arith, a, b));
      reached = same_over column ∙ p.reached;
      least = λ c lt. (let a = same_over c in let b = p.least c lt in omega (arith, a, b));
    }

pub ascending : (xs : List Interval) (es : List Entry) → IsPermutation (entries_from 0 xs) es
    → IsNonDecreasingBy (λ (e : Entry). e.first) es
    → All IsInterval xs → AreAscending es
ascending xs es moved up h = record { ascend = λ i j d le lt. up i j d le lt; some = some xs es moved h }
