-- Runs and strips as stretches of cells, and that each coloured cell is in one.
use Rattle.std.proofs.Common.{ℕ, zero, suc, ◌≡◌, ◌≢◌, ◌+◌, ◌-◌, ◌<◌, ◌≤◌, ◌⊎◌, inl, inr, refl, sym, ◌∙◌, subst, arith}
use Rattle.std.proofs.Common.{eq-or-lt_of_le}
use Rattle.std.proofs.lemmas.Bool.{cases_lt, cases_eq}
use Rattle.mask_runs.specs.declared.run.Run.{Run}
use Rattle.mask_runs.specs.Runs.{IsRun}
use Rattle.mask_runs.proofs.Runs.{same_run}
use Rattle.strip_rows.specs.declared.strip.Strip.{Strip}
use Rattle.strip_rows.specs.Strips.{run_of, IsStrip}
use Rattle.region_sweep.proofs.Blocks.{Stretch}

-- the cells of a row with one colour
abbrev pub OfColour : (ℕ → ℕ) → ℕ → ℕ → Type 0
OfColour colour k c = colour c ≡ k

pub run_stretch : (colour : ℕ → ℕ) (r : Run) → IsRun colour r → Stretch (OfColour colour r.colour) r.left r.right
run_stretch colour r h = record { wide = h.wide; each = h.each; before = h.before; after = h.after }

pub stretch_run : (colour : ℕ → ℕ) (r : Run) → 0 < r.colour → Stretch (OfColour colour r.colour) r.left r.right
    → IsRun colour r
stretch_run colour r some h = record { some = some; wide = h.wide; each = h.each; before = h.before; after = h.after }

pub strip_stretch : (colour : ℕ → ℕ → ℕ) (s : Strip) → IsStrip colour s
    → Stretch (λ y. IsRun (colour y) (run_of s)) s.low s.high
strip_stretch colour s h = record { wide = h.tall; each = h.each; before = h.below; after = h.above }

pub stretch_strip : (colour : ℕ → ℕ → ℕ) (s : Strip) → Stretch (λ y. IsRun (colour y) (run_of s)) s.low s.high
    → IsStrip colour s
stretch_strip colour s h = record { tall = h.wide; each = h.each; below = h.before; above = h.after }

-- two longest stretches of one kind with a common cell are one
same_left : (D : ℕ → Type 0) (l r l' r' c : ℕ) → Stretch D l r → Stretch D l' r' → l ≤ c → c < r → l' ≤ c → c < r'
    → l' ≤ l
same_left D l r l' r' c h g a b p q = elim (cases_lt l l') [
  | inl m ↦ absurd (g.before (l' - 1) (omega arith) (h.each (l' - 1) (omega arith) (omega arith)))
  | inr m ↦ m
]

same_right : (D : ℕ → Type 0) (l r l' r' c : ℕ) → Stretch D l r → Stretch D l' r' → l ≤ c → c < r → l' ≤ c → c < r'
    → r ≤ r'
same_right D l r l' r' c h g a b p q = elim (cases_lt r' r) [
  | inl m ↦ absurd (g.after (h.each r' (omega arith) m))
  | inr m ↦ m
]

pub one_stretch : (D : ℕ → Type 0) (l r l' r' c : ℕ) → Stretch D l r → Stretch D l' r' → l ≤ c → c < r → l' ≤ c
    → c < r' → (l ≡ l') × (r ≡ r')
one_stretch D l r l' r' c h g a b p q =
    let x = same_left D l r l' r' c h g a b p q in
    let y = same_left D l' r' l r c g h p q a b in
    let z = same_right D l r l' r' c h g a b p q in
    let w = same_right D l' r' l r c g h p q a b in
    (omega arith, omega arith)

-- the run that has a cell
pub one_run : (colour : ℕ → ℕ) (p q : Run) (c : ℕ) → IsRun colour p → IsRun colour q → p.left ≤ c → c < p.right
    → q.left ≤ c → c < q.right → p ≡ q
one_run colour p q c h g a b x y =
    let k : p.colour ≡ q.colour = sym (h.each c a b) ∙ g.each c x y in
    let s = one_stretch (OfColour colour p.colour) p.left p.right q.left q.right c (run_stretch colour p h)
    (subst (λ j. Stretch (OfColour colour j) q.left q.right) (sym k) (run_stretch colour q g)) a b x y in
    same_run p q s.0 s.1 k

same_strip : (s t : Strip) → run_of s ≡ run_of t → s.low ≡ t.low → s.high ≡ t.high → s ≡ t
same_strip s t e f g =
    λ i. record { left = (e i).left; right = (e i).right; low = f i; high = g i; colour = (e i).colour }

pub record HasCell (s : Strip) (y c : ℕ) : Type 0 where
  pub left : s.left ≤ c
  pub right : c < s.right
  pub low : s.low ≤ y
  pub high : y < s.high

-- the strip that has a cell
pub one_strip : (colour : ℕ → ℕ → ℕ) (s t : Strip) (y c : ℕ) → IsStrip colour s → IsStrip colour t → HasCell s y c
    → HasCell t y c → s ≡ t
one_strip colour s t y c h g a b =
    let r = one_run (colour y) (run_of s) (run_of t) c (h.each y a.low a.high)
    (g.each y b.low b.high) a.left a.right b.left b.right in
    let e = one_stretch (λ z. IsRun (colour z) (run_of s)) s.low s.high t.low t.high y (strip_stretch colour s h)
    (subst (λ q. Stretch (λ z. IsRun (colour z) q) t.low t.high) (sym r) (strip_stretch colour t g)) a.low a.high b.low
    b.high in
    same_strip s t r e.0 e.1

-- where a kind is decided, each cell of it is in a longest stretch, if those from n on are not of it
down_from : (D : ℕ → Type 0) → ((c : ℕ) → D c ⊎ (¬ D c)) → (c : ℕ) → D c
    → (l : ℕ) × (l ≤ c) × ((z : ℕ) → l ≤ z → z ≤ c → D z) × ((z : ℕ) → z + 1 ≡ l → ¬ D z)
down_from D dec zero h =
    (0, omega arith, (λ z a b. let e : 0 ≡ z = omega arith in subst D e h), λ z e. absurd (omega arith))
down_from D dec (suc c) h = elim (dec c) [
  | inl d ↦
      let g = down_from D dec c d in (
        g.0,
        omega
            arith,
        (λ z a b. elim (eq-or-lt_of_le b) [ inl e ↦ subst D (sym e) h | inr m ↦ g.2 z a (omega arith) ]),
        g.3,
      )
  | inr n ↦ (
    suc c,
    omega arith,
    (λ z a b. let e : suc c ≡ z = omega arith in subst D e h),
    λ z e d. n
        (let q : z ≡ c = omega arith in subst D q d),
  )
]

up_from : (D : ℕ → Type 0) → ((c : ℕ) → D c ⊎ (¬ D c)) → (n c : ℕ) → ¬ D (c + n) → D c
    → (r : ℕ) × (c < r) × (r ≤ c + n) × ((z : ℕ) → c ≤ z → z < r → D z) × (¬ D r)
up_from D dec zero c none h = absurd (none (let e : c ≡ c + 0 = omega arith in subst D e h))
up_from D dec (suc n) c none h = elim (dec (c + 1)) [
  | inl d ↦
      let e : c + suc n ≡ c + 1 + n = omega arith in
      let g = up_from D dec n (c + 1) (subst (λ z. ¬ D z) e none) d in (
        g.0,
        omega arith,
        omega
            arith,
        (λ z a b. elim (eq-or-lt_of_le a) [ inl q ↦ subst D q h | inr m ↦ g.3 z (omega arith) b ]),
        g.4,
      )
  | inr k ↦ (c + 1, omega arith, omega arith, (λ z a b. let e : c ≡ z = omega arith in subst D e h), k)
]

-- the stretch around a cell
pub stretch_around : (D : ℕ → Type 0) → ((c : ℕ) → D c ⊎ (¬ D c)) → (n c : ℕ) → ((z : ℕ) → n ≤ z → ¬ D z) → D c
    → (l : ℕ) × (r : ℕ) × (l ≤ c) × (c < r) × Stretch D l r
stretch_around D dec n c last h =
    let d = down_from D dec c h in
    let u = up_from D dec n c (last (c + n) (omega arith)) h in (
      d.0,
      u.0,
      d.1,
      u.1,
      record {
        wide = omega arith;
        each = λ z a b. elim (cases_lt z c) [ inl m ↦ d.2 z a (omega arith) | inr m ↦ u.3 z m b ];
        before = d.3;
        after = u.4;
      },
    )

all_below : (D : ℕ → Type 0) → ((c : ℕ) → D c ⊎ (¬ D c)) → (l n : ℕ)
    → ((c : ℕ) → l ≤ c → c < n → D c) ⊎ ((c : ℕ) × (l ≤ c) × (c < n) × (¬ D c))
all_below D dec l zero = inl (λ c a b. absurd (omega arith))
all_below D dec l (suc n) = elim (all_below D dec l n) [
  | inr g ↦ inr (g.0, g.1, omega arith, g.3)
  | inl f ↦ elim (cases_lt n l) [
    | inl m ↦ inl (λ c a b. absurd (omega arith))
    | inr m ↦ elim (dec n) [
      | inl d ↦
          inl (λ c a b. elim (cases_lt c n) [ inl q ↦ f c a q | inr q ↦ let e : n ≡ c = omega arith in subst D e d ])
      | inr k ↦ inr (n, m, omega arith, k)
    ]
  ]
]

before_or_not : (colour : ℕ → ℕ) (k l : ℕ)
    → ((c : ℕ) → c + 1 ≡ l → colour c ≢ k) ⊎ ((c : ℕ) × (c + 1 ≡ l) × (colour c ≡ k))
before_or_not colour k zero = inl (λ c e. absurd (omega arith))
before_or_not colour k (suc l) = elim (cases_eq (colour l) k) [
  | inl e ↦ inr (l, omega arith, e)
  | inr n ↦ inl (λ c e g. n (let q : c ≡ l = omega arith in subst (λ z. colour z ≡ k) q g))
]

-- whether a row has a run
pub run_or_not : (colour : ℕ → ℕ) (r : Run) → IsRun colour r ⊎ (¬ IsRun colour r)
run_or_not colour r =
    elim (cases_lt 0 r.colour) [
      | inr m ↦ inr (λ h. let s = h.some in absurd (omega arith))
      | inl some ↦ elim (cases_lt r.left r.right) [
        | inr m ↦ inr (λ h. let s = h.wide in absurd (omega arith))
        | inl wide ↦ elim (all_below (OfColour colour r.colour) (λ c. cases_eq (colour c) r.colour) r.left r.right) [
          | inr g ↦ inr (λ h. g.3 (h.each g.0 g.1 g.2))
          | inl each ↦ elim (cases_eq (colour r.right) r.colour) [
            | inl e ↦ inr (λ h. h.after e)
            | inr after ↦ elim (before_or_not colour r.colour r.left) [
              | inl before ↦ inl (record { some = some; wide = wide; each = each; before = before; after = after })
              | inr g ↦ inr (λ h. h.before g.0 g.1 g.2)
            ]
          ]
        ]
      ]
    ]

-- each coloured cell is in a run of its colour
pub run_around : (colour : ℕ → ℕ) (n c : ℕ) → ((z : ℕ) → n ≤ z → colour z ≡ 0) → 0 < colour c
    → (r : Run) × IsRun colour r × (r.left ≤ c) × (c < r.right)
run_around colour n c last some =
    let k = colour c in
    let g = stretch_around (OfColour colour k) (λ z. cases_eq (colour z) k) n c
    (λ z m e. let b = last z m in absurd (omega arith)) refl in
    let r : Run = record { left = g.0; right = g.1; colour = k } in
    (r, stretch_run colour r some g.4, g.2, g.3)

-- each coloured cell is in a strip of its colour
pub strip_around : (colour : ℕ → ℕ → ℕ) (n m y c : ℕ) → ((z w : ℕ) → n ≤ w → colour z w ≡ 0)
    → ((z w : ℕ) → m ≤ z → colour z w ≡ 0) → 0 < colour y c
    → (s : Strip) × IsStrip colour s × HasCell s y c
strip_around colour n m y c right high some =
    let r = run_around (colour y) n c (right y) some in
    let g = stretch_around (λ z. IsRun (colour z) r.0) (λ z. run_or_not (colour z) r.0) m y
    (λ z l h. let e = h.each c r.2 r.3 in let s = h.some in let b = high z c l in absurd (omega arith)) r.1 in
    let s : Strip = record { left = r.0.left; right = r.0.right; low = g.0; high = g.1; colour = r.0.colour } in
    (s, stretch_strip colour s g.4, record { left = r.2; right = r.3; low = g.2; high = g.3 })
