-- The law of a place and its cell.
use Rattle.std.proofs.Common.{ℕ, zero, suc, ◌≡◌, ◌+◌, ◌-◌, ◌<◌, ◌≤◌, ◌⊎◌, ◌↔◌, List, [], ◌∷◌, true, false, inl, inr}
use Rattle.std.proofs.Common.{sym, ap, ◌∙◌, subst, arith, drop, length, get_or, eq-or-lt_of_le}
use Rattle.std.proofs.lemmas.List.{get_or_default, get_or-drop, get_or-take, length-drop, length-take}
use Rattle.std.proofs.lemmas.List.Elements.{All-from_recursion}
use Rattle.std.proofs.lemmas.List.Kept.{AllPairs-cons, Contains-dedup, Contains-from_dedup, IsStrictlySortedBy-dedup}
use Rattle.std.proofs.lemmas.List.Sorted.{Contains-permutation, IsPermutation-sym}
use Rattle.std.proofs.lemmas.Bool.Decides.{nat_tests}
use Rattle.std.proofs.lemmas.Cmp.{int_cmp_total, int_eq_equiv}
use Rattle.std.specs.List.{dedup, slice_range, AllByRecursion}
use Rattle.std.specs.List.Sorted.{IsPartitionPoint, IsPartitionedBy, IsSorted, IsPermutation, IsStrictlySortedBy}
use Rattle.std.specs.Ordering.{int_cmp, int_eq}
use Rattle.std.proofs.Common.{Less}
use Rattle.std.proofs.lemmas.Bool.{cases_order, cases_lt}
use Rattle.std.specs.Prelude.{ℤ, pos, negsuc, ◌+ℤ◌, ◌≤ℤ◌, ◌<ℤ◌, int_le, Contains}
use Rattle.std.proofs.lemmas.Int.{ints, by_lt_z}
use Rattle.region_sweep.specs.Grid.{Ascending, Surrounds, cell_of, start_of}

-- the marks before the cell's end are at or before the place, and the others after it
pub record InCell (marks : List ℤ) (z : ℤ) (c : ℕ) : Type 0 where
  pub within : c ≤ length marks
  pub below : (k : ℕ) → k < c → get_or marks k (pos 0) ≤ℤ z
  pub above : (k : ℕ) → c ≤ k → k < length marks → z <ℤ get_or marks k (pos 0)

test : (m z : ℤ) → (int_le m z ≡ true) × (m ≤ℤ z) ⊎ (int_le m z ≡ false) × (z <ℤ m)
test m z = by_lt_z z m (λ l. inr (grind (arith, ints), l)) (λ l. inl (grind (arith, ints), l))

within : (ms : List ℤ) (z : ℤ) → cell_of ms z ≤ length ms
within [] z = omega arith
within (m ∷ ms) z =
    elim (test m z) [
      | inl t ↦ rw t.0 (let h = within ms z in omega arith)
      | inr t ↦ rw t.0 (omega arith)
    ]

below : (ms : List ℤ) (z : ℤ) (k : ℕ) → k < cell_of ms z → get_or ms k (pos 0) ≤ℤ z
below [] z k h = absurd (omega arith)
below (m ∷ ms) z zero h = elim (test m z) [ inl t ↦ t.1 | inr t ↦ absurd (omega (arith, rw t.0 at h)) ]
below (m ∷ ms) z (suc k) h =
    elim (test m z) [
      | inl t ↦ below ms z k (let e = rw t.0 at h in omega arith)
      | inr t ↦ absurd (omega (arith, rw t.0 at h))
    ]

-- the mark at which the count stopped
first_after : (ms : List ℤ) (z : ℤ) → cell_of ms z < length ms → z <ℤ get_or ms (cell_of ms z) (pos 0)
first_after [] z h = absurd (omega arith)
first_after (m ∷ ms) z h =
    elim (test m z) [
      | inl t ↦ rw t.0 (first_after ms z (let e = rw t.0 at h in omega arith))
      | inr t ↦ rw t.0 t.1
    ]

pub in_cell : (ms : List ℤ) (z : ℤ) → Ascending ms → InCell ms z (cell_of ms z)
in_cell ms z up = record {
  within = within ms z;
  below = below ms z;
  above = λ k h l.
      let f = first_after ms z (omega arith) in
      elim (eq-or-lt_of_le h) [
        | inl e ↦ subst (λ j. z <ℤ get_or ms j (pos 0)) e f
        | inr m ↦ let u = up (cell_of ms z) k (pos 0) m l in omega (arith, ints)
      ];
}

-- a place is in one cell
pub one_cell : (ms : List ℤ) (z : ℤ) (c d : ℕ) → InCell ms z c → InCell ms z d → c ≡ d
one_cell ms z c d h g =
    elim (cases_order c d) [
      | inl e ↦ e
      | inr (inl l) ↦ let a = h.above c (omega arith) (let w = g.within in omega arith) in let b = g.below c l in
          absurd (omega (arith, ints))
      | inr (inr l) ↦ let a = g.above d (omega arith) (let w = h.within in omega arith) in let b = h.below d l in
          absurd (omega (arith, ints))
    ]

pub cell_is : (ms : List ℤ) (z : ℤ) (c : ℕ) → Ascending ms → InCell ms z c → cell_of ms z ≡ c
cell_is ms z c up h = one_cell ms z (cell_of ms z) c (in_cell ms z up) h

-- places in order have cells in order
pub cells_rise : (ms : List ℤ) (x z : ℤ) → Ascending ms → x ≤ℤ z → cell_of ms x ≤ cell_of ms z
cells_rise ms x z up l =
    let h = in_cell ms x up in
    let g = in_cell ms z up in
    elim (cases_lt (cell_of ms z) (cell_of ms x)) [
      | inl m ↦ let a = g.above (cell_of ms z) (omega arith) (let w = h.within in omega arith) in
          let b = h.below (cell_of ms z) m in absurd (omega (arith, ints))
      | inr m ↦ m
    ]

-- a mark is the start of its cell
pub mark_starts : (ms : List ℤ) (k : ℕ) → Ascending ms → k < length ms → cell_of ms (get_or ms k (pos 0)) ≡ k + 1
mark_starts ms k up l = cell_is ms (get_or ms k (pos 0)) (k + 1) up (record {
  within = omega arith;
  below = λ j h. elim (eq-or-lt_of_le {n = j} {m = k} (omega arith)) [
    | inl e ↦ rw e (omega (arith, ints))
    | inr m ↦ let u = up j k (pos 0) m l in omega (arith, ints)
  ];
  above = λ j h g. up k j (pos 0) (omega arith) g;
})

pub start_is_in : (ms : List ℤ) (c : ℕ) → Ascending ms → 0 < c → c ≤ length ms → cell_of ms (start_of ms c) ≡ c
start_is_in ms c up h l = let e = mark_starts ms (c - 1) up (omega arith) in omega arith

-- a mark is at or before a place exactly where its cell is
pub mark_before : (ms : List ℤ) (m z : ℤ) → Ascending ms → Contains ms m → (m ≤ℤ z) ↔ (cell_of ms m ≤ cell_of ms z)
mark_before ms m z up has = (
  cells_rise ms m z up,
  λ l.
      let k = has.0 in
      let same : get_or ms k (pos 0) ≡ m = get_or_default ms k (pos 0) m has.1 ∙ has.2 in
      let e : cell_of ms m ≡ k + 1 = subst (λ x. cell_of ms x ≡ k + 1) same (mark_starts ms k up has.1) in
      let b = (in_cell ms z up).below k (omega arith) in
      subst (λ x. x ≤ℤ z) same b,
)

at_cell : (ms : List ℤ) (z : ℤ) → Ascending ms → (c : ℕ) → InCell ms z c
    → (cell_of ms (z +ℤ negsuc 0) ≡ c) ⊎ (0 < c) × (cell_of ms (z +ℤ negsuc 0) + 1 ≡ c) × (start_of ms c ≡ z)
at_cell ms z up zero h = inl (cell_is ms (z +ℤ negsuc 0) 0 up (record {
  within = omega arith;
  below = λ k l. absurd (omega arith);
  above = λ k l m. let a = h.above k l m in omega (arith, ints);
}))
at_cell ms z up (suc k) h =
    by_lt_z {P = (cell_of ms (z +ℤ negsuc 0) ≡ suc k) ⊎ (0 < suc k) × (cell_of ms (z +ℤ negsuc 0) + 1 ≡ suc k)
    × (start_of ms (suc k) ≡ z)} (get_or ms k (pos 0)) z
    (λ l. inl (cell_is ms (z +ℤ negsuc 0) (suc k) up (record {
      within = h.within;
      below = λ j g. elim (eq-or-lt_of_le {n = j} {m = k} (omega arith)) [
        | inl e ↦ rw e (omega (arith, ints))
        | inr m ↦ let u = up j k (pos 0) m (let w = h.within in omega arith) in omega (arith, ints)
      ];
      above = λ j g m. let a = h.above j g m in omega (arith, ints);
    })))
    (λ l. let b = h.below k (omega arith) in
    let e : get_or ms k (pos 0) ≡ z = omega (arith, ints) in
    let w = h.within in
    let c : cell_of ms (z +ℤ negsuc 0) ≡ k = cell_is ms (z +ℤ negsuc 0) k up (record {
      within = omega arith;
      below = λ j g. let u = up j k (pos 0) g (omega arith) in omega (arith, ints);
      above = λ j g m. elim (eq-or-lt_of_le {n = k} {m = j} g) [
        | inl q ↦ subst (λ i. (z +ℤ negsuc 0) <ℤ get_or ms i (pos 0)) q (omega (arith, ints))
        | inr q ↦ let u = up k j (pos 0) q m in omega (arith, ints)
      ];
    }) in
    let back : k ≡ suc k - 1 = omega arith in
    inr (omega arith, omega arith, subst (λ j. get_or ms j (pos 0) ≡ z) back e))

-- the place before has the same cell, or the place is a mark and begins the next
pub step_back : (ms : List ℤ) (z : ℤ) → Ascending ms
    → (cell_of ms (z +ℤ negsuc 0) ≡ cell_of ms z) ⊎ (0 < cell_of ms z)
    × (cell_of ms (z +ℤ negsuc 0) + 1 ≡ cell_of ms z) × (start_of ms (cell_of ms z) ≡ z)
step_back ms z up = at_cell ms z up (cell_of ms z) (in_cell ms z up)

part_at : (ms : List ℤ) (a b k : ℕ) (d : ℤ) → a ≤ k → k < b → get_or (slice_range ms a b) (k - a) d ≡ get_or ms k d
part_at ms a b k d l m =
    let back : a + (k - a) ≡ k = omega arith in
    get_or-take (b - a) (drop a ms) (k - a) d (omega arith) ∙ get_or-drop a ms (k - a) d ∙ ap (λ n. get_or ms n d) back

part_length : (ms : List ℤ) (a b : ℕ) → a ≤ b → b ≤ length ms → length (slice_range ms a b) ≡ b - a
part_length ms a b l m = simp (length-take, length-drop) (omega arith)

pub part_rises : (ms : List ℤ) (a b : ℕ) → Ascending ms → a ≤ b → b ≤ length ms → Ascending (slice_range ms a b)
part_rises ms a b up l m i j d h n =
    let size = part_length ms a b l m in
    let at : (k : ℕ) → k < b - a → get_or (slice_range ms a b) k d ≡ get_or ms (a + k) d =
    λ k o. get_or-take (b - a) (drop a ms) k d o ∙ get_or-drop a ms k d in
    let u : get_or ms (a + i) d <ℤ get_or ms (a + j) d = up (a + i) (a + j) d (omega arith) (omega arith) in
    rw (at i (omega arith), at j (omega arith)) u

-- where the marks cease to be at or before a place, among those that surround it, counts all such marks
pub cell_from_part : (ms : List ℤ) (z : ℤ) (a b i : ℕ) → Ascending ms → Surrounds ms z a b
    → i ≤ length (slice_range ms a b)
    → IsPartitionPoint (λ m. int_le m z ≡ true) (λ m. int_le m z ≡ false) (slice_range ms a b) i → a + i ≡ cell_of ms z
cell_from_part ms z a b i up s l h =
    let size = part_length ms a b s.ordered s.within in
    let inside : i ≤ b - a = omega arith in
    sym (cell_is ms z (a + i) up (record {
      within = let w = s.within in let o = s.ordered in omega arith;
      below = λ k m. elim (cases_lt k a) [
        | inl n ↦ s.below k n
        | inr n ↦ let e = h.0 (k - a) (pos 0) (omega arith) (omega arith) in
            let same = part_at ms a b k (pos 0) n (omega arith) in
            let t : int_le (get_or ms k (pos 0)) z ≡ true = subst (λ x. int_le x z ≡ true) same e in
            grind (arith, ints)
      ];
      above = λ k m n. elim (cases_lt k b) [
        | inl o ↦ let e = h.1 (k - a) (pos 0) (omega arith) (omega arith) in
            let same = part_at ms a b k (pos 0) (omega arith) o in
            let t : int_le (get_or ms k (pos 0)) z ≡ false = subst (λ x. int_le x z ≡ false) same e in
            grind (arith, ints)
        | inr o ↦ s.above k o n
      ];
    }))

-- the marks on both sides of a stretch surround the place
pub surrounds : (ms : List ℤ) (z : ℤ) (a b : ℕ) → Ascending ms → a ≤ b → b ≤ length ms
    → (a ≡ 0) ⊎ (get_or ms (a - 1) (pos 0) ≤ℤ z) → (b ≡ length ms) ⊎ (z <ℤ get_or ms b (pos 0)) → Surrounds ms z a b
surrounds ms z a b up l m before after = record {
  ordered = l;
  within = m;
  below = λ k h. elim before [
    | inl e ↦ absurd (omega arith)
    | inr t ↦ elim (eq-or-lt_of_le {n = k} {m = a - 1} (omega arith)) [
      | inl e ↦ rw e t
      | inr n ↦ let u = up k (a - 1) (pos 0) n (omega arith) in omega (arith, ints)
    ]
  ];
  above = λ k h n. elim after [
    | inl e ↦ absurd (omega arith)
    | inr t ↦ elim (eq-or-lt_of_le h) [
      | inl e ↦ subst (λ j. z <ℤ get_or ms j (pos 0)) e t
      | inr o ↦ let u = up b k (pos 0) o n in omega (arith, ints)
    ]
  ];
}

pub parted : (ms : List ℤ) (z : ℤ) → Ascending ms → IsPartitionedBy (λ m. int_le m z) ms
parted ms z up i j d l m e = elim (eq-or-lt_of_le l) [
  | inl q ↦ subst (λ k. int_le (get_or ms k d) z ≡ true) (sym q) e
  | inr q ↦ let u = up i j d q m in grind (arith, ints)
]

weaker : (x : ℤ) (xs : List ℤ) → AllByRecursion (λ y. int_cmp x y ≡ Less) xs → AllByRecursion (λ b. x <ℤ b) xs
weaker x [] h = h
weaker x (y ∷ ys) h = (grind (arith, ints, h.0), weaker x ys h.1)

rises : (ms : List ℤ) → IsStrictlySortedBy int_cmp ms → Ascending ms
unfolding IsStrictlySortedBy
rises [] h i j d l m = absurd (omega arith)
rises (x ∷ xs) h i j d l m = AllPairs-cons (λ a b. a <ℤ b) x xs
    (All-from_recursion (λ b. x <ℤ b) xs (weaker x xs h.0)) (rises xs h.1) i j d l m

pub sorted_rises : (xs ys : List ℤ) → IsSorted int_cmp xs → ys ≡ dedup int_eq xs → Ascending ys
sorted_rises xs ys h e =
    subst Ascending (sym e)
    (rises (dedup int_eq xs) (IsStrictlySortedBy-dedup int_cmp_total (λ x y. grind (arith, ints, nat_tests)) xs h))

pub same_marks : (old xs ys : List ℤ) (z : ℤ) → IsPermutation old xs → ys ≡ dedup int_eq xs
    → Contains old z ↔ Contains ys z
same_marks old xs ys z p e = (
  λ h. rw e
      (Contains-dedup int_eq_equiv (λ x y t. grind (arith, ints, nat_tests)) xs z (Contains-permutation old xs z p h)),
  λ h. Contains-permutation xs old z (IsPermutation-sym old xs p) (Contains-from_dedup int_eq xs z (rw e at h)),
)
