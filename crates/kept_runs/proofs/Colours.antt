-- Cells of one colour, and the runs that they make.
use Rattle.std.proofs.Common.{◌≡◌, ◌≢◌, ◌⊎◌, ℕ, zero, suc, ◌-◌, ◌^◌, ◌<◌, ◌≤◌, true, false, inl, inr, List, length}
use Rattle.std.proofs.Common.{replicate, refl, sym, ◌∙◌, subst, arith}
use Rattle.std.proofs.lemmas.Bool.{cases_eq, cases_lt, cases_Bool, both_ways, lt-ltb, le-ltb}
use Rattle.std.proofs.lemmas.List.{get_or-replicate, get_or_past, length-replicate}
use Rattle.cell_set.specs.declared.set.CellSet.{CellSet}
use Rattle.cell_set.specs.Sets.{has, room_of}
use Rattle.mask_runs.specs.Runs.{IsRun}
use Rattle.kept_runs.specs.declared.runs.KeptRuns.{KeptRuns}
use Rattle.kept_runs.specs.Borders.{noted, colour_to, AreBorders, IsBorderTo, IsBorderAfter}
use Rattle.kept_runs.specs.Kept.{colours_of}

-- cells since a border have its colour
since : (borders : CellSet) (colours : List ℕ) (border : ℕ) → has borders border ≡ true → (c : ℕ) → border ≤ c
    → ((d : ℕ) → border < d → d ≤ c → has borders d ≡ false) → colour_to borders colours c ≡ noted colours border
unfolding colour_to
since borders colours border h zero l n = let e : border ≡ 0 = omega arith in rw e refl
since borders colours border h (suc c) l n = elim (cases_eq border (suc c)) [
  | inl e ↦ let g : has borders (suc c) ≡ true = subst (λ k. has borders k ≡ true) e h in rw (g, e) refl
  | inr m ↦
      rw (n (suc c) (omega arith) (omega arith))
      (since borders colours border h c (omega arith) (λ d i j. n d i (omega arith)))
]

-- cells without a border between them have one colour
steady : (borders : CellSet) (colours : List ℕ) (c d : ℕ) → c ≤ d → ((e : ℕ) → c < e → e ≤ d → has borders e ≡ false)
    → colour_to borders colours d ≡ colour_to borders colours c
unfolding colour_to
steady borders colours c zero l n = let e : c ≡ 0 = omega arith in rw e refl
steady borders colours c (suc d) l n = elim (cases_eq c (suc d)) [
  | inl e ↦ subst (λ k. colour_to borders colours (suc d) ≡ colour_to borders colours k) (sym e) refl
  | inr m ↦
      rw (n (suc d) (omega arith) (omega arith))
      (steady borders colours c d (omega arith) (λ e i j. n e i (omega arith)))
]

blank_to : (borders : CellSet) (colours : List ℕ) → ((c : ℕ) → noted colours c ≡ 0) → (c : ℕ)
    → colour_to borders colours c ≡ 0
unfolding colour_to
blank_to borders colours h zero = h 0
blank_to borders colours h (suc c) = elim (cases_Bool (has borders (suc c))) [
  | inl e ↦ rw e (h (suc c))
  | inr e ↦ rw e (blank_to borders colours h c)
]

-- without noted colours there are none
pub blank_all : (k : KeptRuns) → ((c : ℕ) → noted k.colours.items c ≡ 0) → (c : ℕ) → colours_of k c ≡ 0
unfolding colours_of
blank_all k h c = elim (cases_lt c (length k.colours.items)) [
  | inl l ↦ rw (lt-ltb c (length k.colours.items) l) (blank_to k.borders k.colours.items h c)
  | inr l ↦ rw (le-ltb c (length k.colours.items) l) refl
]

pub noted_blank : (n c : ℕ) → noted (replicate n 0) c ≡ 0
noted_blank n c = elim (cases_lt c n) [
  | inl h ↦ get_or-replicate n c 0 0 h
  | inr h ↦ get_or_past (replicate n 0) c 0 (rw (length-replicate {A = ℕ} n 0) h)
]

-- a row whose first cell is its only border
pub one_border : (borders : CellSet) (colours : List ℕ) → 0 < length colours → length colours < 2 ^ 31
    → length colours < room_of borders → has borders 0 ≡ true
    → ((c : ℕ) → c ≢ 0 → has borders c ≡ false) → AreBorders borders colours
one_border borders colours some small room first others = record {
  some = some;
  small = small;
  room = room;
  first = first;
  within = λ c h. elim (cases_eq c 0) [
    | inl e ↦ omega arith
    | inr n ↦ absurd (both_ways _ (others c n) h)
  ];
  change = λ c h f. both_ways _ (others (suc c) (λ e. absurd (omega arith))) h;
}

module _ (k : KeptRuns) (b : AreBorders k.borders k.colours.items) where
  pub in_row : (c : ℕ) → c < length k.colours.items → colours_of k c ≡ colour_to k.borders k.colours.items c
  unfolding colours_of
  in_row c h = rw (lt-ltb c (length k.colours.items) h) refl

  pub past : (c : ℕ) → length k.colours.items ≤ c → colours_of k c ≡ 0
  unfolding colours_of
  past c h = rw (le-ltb c (length k.colours.items) h) refl

  pub at_border : (c : ℕ) → has k.borders c ≡ true → colours_of k c ≡ noted k.colours.items c
  at_border c h =
      in_row c (b.within c h) ∙ since k.borders k.colours.items c h c (omega arith) (λ d i j. absurd (omega arith))

  -- the cell before a border has another colour
  pub differs : (c d : ℕ) → suc c ≡ d → has k.borders d ≡ true → colours_of k c ≢ colours_of k d
  differs c d e h f =
      let g : has k.borders (suc c) ≡ true = subst (λ n. has k.borders n ≡ true) (sym e) h in
      let w = b.within (suc c) g in
      let x : colours_of k (suc c) ≡ noted k.colours.items (suc c) = at_border (suc c) g in
      b.change c g (sym (in_row c (omega arith)) ∙ f ∙ subst (λ n. colours_of k n ≡ noted k.colours.items (suc c)) e x)

  -- the colour of a cell is noted at the last border
  pub to_border : (cell border : ℕ) → cell < length k.colours.items → IsBorderTo k.borders cell border
      → noted k.colours.items border ≡ colours_of k cell
  to_border cell border h t = sym (in_row cell h ∙ since k.borders k.colours.items border t.own cell t.order t.none)

  -- the colour of a cell goes on up to the next border
  pub goes_on : (cell right : ℕ) → cell < length k.colours.items
      → IsBorderAfter k.borders (length k.colours.items) cell right
      → (c : ℕ) → cell ≤ c → c < right → colours_of k c ≡ colours_of k cell
  goes_on cell right l a c h m =
      let w = a.within in
      in_row c (omega arith) ∙ steady k.borders k.colours.items cell c h (λ d i j. a.none d i (omega arith))
      ∙ sym (in_row cell l)

  -- before a cell that is the first, or a border, another colour is
  pub other_before : (from cell colour : ℕ) → from ≤ cell → (cell ≡ from) ⊎ (has k.borders cell ≡ true)
      → colour ≡ colours_of k cell → (cell ≡ from) ⊎ (colours_of k (cell - 1) ≢ colour)
  other_before from cell colour o border own = elim border [
    | inl e ↦ inl e
    | inr h ↦ elim (cases_eq cell 0) [
      | inl z ↦ inl (omega arith)
      | inr n ↦ inr (λ f. differs (cell - 1) cell (omega arith) h (f ∙ own))
    ]
  ]

  module _ (cell left right : ℕ) (t : IsBorderTo k.borders cell left)
      (a : IsBorderAfter k.borders (length k.colours.items) cell right) where
    -- the cells between two borders have one colour
    pub each_between : (c : ℕ) → left ≤ c → c < right → colours_of k c ≡ noted k.colours.items left
    each_between c h l =
        let w = a.within in
        in_row c (omega arith) ∙ since k.borders k.colours.items left t.own c h (λ d i j. elim (cases_lt cell d) [
          | inl m ↦ a.none d m (omega arith)
          | inr m ↦ t.none d i m
        ])

    pub is_run : 0 < noted k.colours.items left
        → IsRun (colours_of k) (record { left = left; right = right; colour = noted k.colours.items left })
    is_run p = let o = t.order in let q = a.order in record {
      some = p;
      wide = omega arith;
      each = each_between;
      before = λ c e f. differs c left (omega arith) t.own (f ∙ sym (at_border left t.own));
      after = λ f. elim a.own [
        | inl e ↦ let z = past right (omega arith) in absurd (omega arith)
        | inr h ↦
            differs (right - 1) right (omega arith) h (each_between (right - 1) (omega arith) (omega arith) ∙ sym f)
      ];
    }
