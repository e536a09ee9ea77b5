-- The bands in which rectangles stand.
use Rattle.std.proofs.Common.{ℕ, ◌≡◌, ◌+◌, ◌*◌, ◌/◌, ◌<◌, ◌≤◌, inl, inr, sym, ◌∙◌, ap, subst, arith}
use Rattle.mp_base.proofs.Numbers.{times_next}
use Rattle.std.specs.Prelude.{ℤ, pos, ◌+ℤ◌, ◌<ℤ◌, ◌≤ℤ◌}
use Rattle.std.proofs.Math.Nat.{div-mul-le_self, le-div_iff_mul-le, mul-le-mul_right}
use Rattle.std.proofs.lemmas.Bool.{cases_lt}
use Rattle.std.proofs.lemmas.Int.{ints}
use Rattle.lam_geom.specs.declared.rect.Rect.{Rect}
use Rattle.lam_geom.specs.Moves.{shifted}
use Rattle.slice_symbols.specs.declared.bands.Bands.{Bands}
use Rattle.slice_symbols.specs.declared.standing.Standing.{Standing}
use Rattle.slice_symbols.specs.Heights.{StandsIn, height_of, raised}
use Rattle.slice_symbols.specs.Standing.{own}

-- ---- what is moved stands as far from what is moved too

up_from : (low y : ℤ) (a n : ℕ) → a ≡ 0 → (low +ℤ pos a) ≤ℤ y → (low +ℤ pos n) ≤ℤ (y +ℤ pos n)
up_from low y a n e h = omega (arith, ints)

up_below : (low y : ℤ) (a h n m : ℕ) → a ≡ h → m ≡ n + h → y <ℤ (low +ℤ pos a) → (y +ℤ pos n) <ℤ (low +ℤ pos m)
up_below low y a h n m e f g = omega (arith, ints)

up_to : (low y : ℤ) (a h n m : ℕ) → a ≡ h → m ≡ n + h → y ≤ℤ (low +ℤ pos a) → (y +ℤ pos n) ≤ℤ (low +ℤ pos m)
up_to low y a h n m e f g = omega (arith, ints)

down_from : (low y : ℤ) (a n : ℕ) → a ≡ 0 → (low +ℤ pos n) ≤ℤ (y +ℤ pos n) → (low +ℤ pos a) ≤ℤ y
down_from low y a n e h = omega (arith, ints)

down_below : (low y : ℤ) (a h n m : ℕ) → a ≡ h → m ≡ n + h → (y +ℤ pos n) <ℤ (low +ℤ pos m) → y <ℤ (low +ℤ pos a)
down_below low y a h n m e f g = omega (arith, ints)

down_to : (low y : ℤ) (a h n m : ℕ) → a ≡ h → m ≡ n + h → (y +ℤ pos n) ≤ℤ (low +ℤ pos m) → y ≤ℤ (low +ℤ pos a)
down_to low y a h n m e f g = omega (arith, ints)

not_both : (low y : ℤ) (n m : ℕ) → n ≤ m → y <ℤ (low +ℤ pos n) → (low +ℤ pos m) ≤ℤ y → ⊥
not_both low y n m l h g = omega (arith, ints)

times_none : (h : ℕ) → 0 * h ≡ 0
times_none h = omega arith

times_once : (h : ℕ) → (0 + 1) * h ≡ h
times_once h = grind arith

lowered_back : (h : ℤ) (r q : Rect) → raised h r ≡ raised h q → r ≡ q
unfolding shifted
lowered_back h r q e =
    let a : r.x0 +ℤ pos 0 ≡ q.x0 +ℤ pos 0 = ap (λ (z : Rect). z.x0) e in
    let b : r.y0 +ℤ h ≡ q.y0 +ℤ h = ap (λ (z : Rect). z.y0) e in
    let c : r.x1 +ℤ pos 0 ≡ q.x1 +ℤ pos 0 = ap (λ (z : Rect). z.x1) e in
    let d : r.y1 +ℤ h ≡ q.y1 +ℤ h = ap (λ (z : Rect). z.y1) e in
    let layer : r.layer ≡ q.layer = ap (λ (z : Rect). z.layer) e in
    let x0 : r.x0 ≡ q.x0 = omega (arith, ints) in
    let y0 : r.y0 ≡ q.y0 = omega (arith, ints) in
    let x1 : r.x1 ≡ q.x1 = omega (arith, ints) in
    let y1 : r.y1 ≡ q.y1 = omega (arith, ints) in
    λ i. record { layer = layer i; x0 = x0 i; y0 = y0 i; x1 = x1 i; y1 = y1 i }

module _ (b : Bands) where
  -- raised into a band, a rectangle of the first stands there
  pub stands_raised : (c : Rect) (k : ℕ) → StandsIn b 0 c → StandsIn b k (raised (height_of b k) c)
  unfolding shifted
  stands_raised c k s =
      let h = b.height in
      record {
        bottom = up_from b.low c.y0 (0 * h) (k * h) (times_none h) s.bottom;
        below = up_below b.low c.y0 ((0 + 1) * h) h (k * h) ((k + 1) * h) (times_once h) (times_next k h) s.below;
        top = up_to b.low c.y1 ((0 + 1) * h) h (k * h) ((k + 1) * h) (times_once h) (times_next k h) s.top;
      }

  -- and no other does
  pub stood_in_first : (c : Rect) (k : ℕ) → StandsIn b k (raised (height_of b k) c) → StandsIn b 0 c
  unfolding shifted
  stood_in_first c k s =
      let h = b.height in
      record {
        bottom = down_from b.low c.y0 (0 * h) (k * h) (times_none h) s.bottom;
        below = down_below b.low c.y0 ((0 + 1) * h) h (k * h) ((k + 1) * h) (times_once h) (times_next k h) s.below;
        top = down_to b.low c.y1 ((0 + 1) * h) h (k * h) ((k + 1) * h) (times_once h) (times_next k h) s.top;
      }

  no_higher : (r : Rect) (k j : ℕ) → k < j → StandsIn b k r → StandsIn b j r → ⊥
  no_higher r k j l s t =
      not_both b.low r.y0 ((k + 1) * b.height) (j * b.height) (mul-le-mul_right b.height (omega (arith, l)))
      s.below t.bottom

  -- it stands in one band
  one_band : (r : Rect) (k j : ℕ) → StandsIn b k r → StandsIn b j r → k ≡ j
  one_band r k j s t = elim (cases_lt k j) [
    | inl l ↦ absurd (no_higher r k j l s t)
    | inr m ↦ elim (cases_lt j k) [ inl l ↦ absurd (no_higher r j k l t s) | inr l ↦ omega (arith, l, m) ]
  ]

  -- a standing rectangle is known by its own one
  pub own_is : (s : Standing) (c : Rect) (k : ℕ) → own b s ≡ raised (height_of b k) c → StandsIn b 0 s.first
      → StandsIn b 0 c → s ≡ (record { first = c; band = k })
  own_is s c k e first at_first =
      let band : s.band ≡ k = one_band (own b s) s.band k (stands_raised s.first s.band first)
      (subst (StandsIn b k) (sym e) (stands_raised c k at_first)) in
      let same : s.first ≡ c = lowered_back (height_of b k) s.first c
      (ap (λ m. raised (height_of b m) s.first) (sym band) ∙ e) in
      λ i. record { first = same i; band = band i }

-- ---- the band of a rectangle, by a division

quotient_is : (n h k : ℕ) → 0 < h → k * h ≤ n → n < (k + 1) * h → n / h ≡ k
quotient_is n h k some low high =
    let a : k ≤ n / h = (le-div_iff_mul-le {k = h} {x = k} {y = n} some).1 low in
    elim (cases_lt (n / h) (k + 1)) [
      | inl l ↦ omega (arith, a, l)
      | inr m ↦ absurd (let g : (k + 1) * h ≤ n = (le-div_iff_mul-le {k = h} {x = k + 1} {y = n} some).0 m in
          omega (arith, g, high))
    ]

below_next_one : (n h : ℕ) → 0 < h → n < (n / h + 1) * h
below_next_one n h some = elim (cases_lt n ((n / h + 1) * h)) [
  | inl l ↦ l
  | inr m ↦ absurd (let g : n / h + 1 ≤ n / h = (le-div_iff_mul-le {k = h} {x = n / h + 1} {y = n} some).1 m in
      omega (arith, g))
]

module _ (b : Bands) (r : Rect) (n h : ℕ) (bottom : r.y0 ≡ b.low +ℤ pos n) (same : h ≡ b.height) (some : 0 < b.height)
  where
    -- it is the quotient, where the upper edge is low enough
    pub stands_by : r.y1 ≤ℤ (b.low +ℤ pos ((n / h + 1) * h)) → StandsIn b (n / h) r
    stands_by top =
        let low : n / h * b.height ≤ n = subst (λ g. n / h * g ≤ n) same (div-mul-le_self n h) in
        let high : n < (n / h + 1) * b.height =
        subst (λ g. n < (n / h + 1) * g) same (below_next_one n h (subst (λ g. 0 < g) (sym same) some)) in
        let under : r.y1 ≤ℤ (b.low +ℤ pos ((n / h + 1) * b.height)) =
        subst (λ g. r.y1 ≤ℤ (b.low +ℤ pos ((n / h + 1) * g))) same top in
        record {
          bottom = lower b.low r.y0 n (n / h * b.height) bottom low;
          below = upper b.low r.y0 n ((n / h + 1) * b.height) bottom high;
          top = under;
        }
      where
        lower : (low y : ℤ) (n m : ℕ) → y ≡ low +ℤ pos n → m ≤ n → (low +ℤ pos m) ≤ℤ y
        lower low y n m e l = omega (arith, ints)

        upper : (low y : ℤ) (n m : ℕ) → y ≡ low +ℤ pos n → n < m → y <ℤ (low +ℤ pos m)
        upper low y n m e l = omega (arith, ints)

    -- and no other
    pub stands_only : (k : ℕ) → StandsIn b k r → n / h ≡ k
    stands_only k s =
        let low : k * h ≤ n = subst (λ g. k * g ≤ n) (sym same)
        (lower b.low r.y0 n (k * b.height) bottom s.bottom) in
        let high : n < (k + 1) * h = subst (λ g. n < (k + 1) * g) (sym same)
        (upper b.low r.y0 n ((k + 1) * b.height) bottom s.below) in
        quotient_is n h k (subst (λ g. 0 < g) (sym same) some) low high
      where
        lower : (low y : ℤ) (n m : ℕ) → y ≡ low +ℤ pos n → (low +ℤ pos m) ≤ℤ y → m ≤ n
        lower low y n m e l = omega (arith, ints)

        upper : (low y : ℤ) (n m : ℕ) → y ≡ low +ℤ pos n → y <ℤ (low +ℤ pos m) → n < m
        upper low y n m e l = omega (arith, ints)

    -- its upper edge is low enough there
    pub top_there : (k : ℕ) → StandsIn b k r → r.y1 ≤ℤ (b.low +ℤ pos ((n / h + 1) * h))
    top_there k s =
        let e = stands_only k s in
        subst (λ j. r.y1 ≤ℤ (b.low +ℤ pos ((j + 1) * h))) (sym e)
        (subst (λ g. r.y1 ≤ℤ (b.low +ℤ pos ((k + 1) * g))) (sym same) s.top)
