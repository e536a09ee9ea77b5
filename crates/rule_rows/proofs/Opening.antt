-- Gaps and where they begin.
use Rattle.std.proofs.Common.{ℕ, zero, suc, ◌≡◌, ◌+◌, ◌-◌, ◌<◌, ◌⊎◌, inl, inr, refl, sym, subst, arith, List, []}
use Rattle.std.specs.Prelude.{ℤ, pos, neg_ℤ, ◌+ℤ◌, ◌<ℤ◌, ◌≤ℤ◌}
use Rattle.std.proofs.lemmas.Bool.{cases_lt}
use Rattle.std.proofs.lemmas.Int.{ints, by_lt_z}
use Rattle.lam_geom.specs.declared.layer.Layer.TheVariants.{ND, NP, NB}
use Rattle.lam_geom.specs.declared.rect.Rect.{Rect}
use Rattle.lam_geom.specs.Squares.{covered}
use Rattle.lam_geom.specs.Rules.{Way, against, to_x, to_y, At, IsInGap, IsTight}
use Rattle.lam_geom.specs.Rules.Way.{right, left, up, down}
use Rattle.rule_rows.specs.declared.side.Side.{Side}
use Rattle.rule_rows.specs.Sides.{way_of, Reaches}
use Rattle.rule_rows.specs.Copies.{AreSpread}
use Rattle.rule_rows.specs.Channels.{IsChannel}
use Rattle.rule_rows.specs.Gaps.{BeginsGap}
use Rattle.rule_rows.proofs.Spreading.{spread_own, spread_other, at_zero, reaches_one}

-- ---- channels of the derived drawing

module _ (on : ℤ → ℤ → Type 0) (size : ℕ) (side back : Side) (across : way_of back ≡ against (way_of side))
    (d1 d2 d3 : List Rect) (s1 : AreSpread on ND (record { side = back; near = 1; far = 1 }) [] d1)
    (s2 : AreSpread on NP (record { side = side; near = 0; far = size - 1 }) d1 d2)
    (s3 : AreSpread on NB (record { side = side; near = 0; far = 0 }) d2 d3) (x y : ℤ) where
  diffusion : covered d3 ND x y → Reaches on (way_of back) 1 1 x y
  diffusion h = elim ((spread_own on ND _ [] d1 s1 x y).0 ((spread_other on NP _ d1 d2 s2 x y ND (λ e. cc (e))).0
      ((spread_other on NB _ d2 d3 s3 x y ND (λ e. cc (e))).0 h))) [ inl n ↦ absurd n | inr r ↦ r ]

  is_diffusion : Reaches on (way_of back) 1 1 x y → covered d3 ND x y
  is_diffusion r = (spread_other on NB _ d2 d3 s3 x y ND (λ e. cc (e))).1
      ((spread_other on NP _ d1 d2 s2 x y ND (λ e. cc (e))).1 ((spread_own on ND _ [] d1 s1 x y).1 (inr r)))

  polysilicon : covered d3 NP x y → Reaches on (way_of side) 0 (size - 1) x y
  polysilicon h = elim ((spread_own on NP _ d1 d2 s2 x y).0
      ((spread_other on NB _ d2 d3 s3 x y NP (λ e. cc (e))).0 h)) [
        | inl n ↦ absurd ((spread_other on ND _ [] d1 s1 x y NP (λ e. cc (e))).0 n)
        | inr r ↦ r
      ]

  is_polysilicon : Reaches on (way_of side) 0 (size - 1) x y → covered d3 NP x y
  is_polysilicon r = (spread_other on NB _ d2 d3 s3 x y NP (λ e. cc (e))).1
      ((spread_own on NP _ d1 d2 s2 x y).1 (inr r))

  buried : covered d3 NB x y → on x y
  buried h = elim ((spread_own on NB _ d2 d3 s3 x y).0 h) [
    | inl n ↦ absurd ((spread_other on ND _ [] d1 s1 x y NB (λ e. cc (e))).0
        ((spread_other on NP _ d1 d2 s2 x y NB (λ e. cc (e))).0 n))
    | inr r ↦ (at_zero on (way_of side) x y).1 (reaches_one on (way_of side) 0 x y r)
  ]

  is_buried : on x y → covered d3 NB x y
  is_buried h = (spread_own on NB _ d2 d3 s3 x y).1
      (inr (0, omega arith, omega arith, (at_zero on (way_of side) x y).0 h))

  pub begins_of_channel : IsChannel d3 x y → BeginsGap on (way_of side) size x y
  begins_of_channel c = record {
    behind = subst (λ w. At on w x y 1) across (reaches_one on (way_of back) 1 x y (diffusion c.diffusion));
    open_ = λ h. c.unburied (is_buried h);
    ahead = polysilicon c.polysilicon;
  }

  pub channel_of_begins : BeginsGap on (way_of side) size x y → IsChannel d3 x y
  channel_of_begins b = record {
    diffusion = is_diffusion (1, omega arith, omega arith, subst (λ w. At on w x y 1) (sym across) b.behind);
    polysilicon = is_polysilicon b.ahead;
    unburied = λ h. b.open_ (buried h);
  }

-- ---- gaps

pub least : (P : ℕ → Type 0) → ((k : ℕ) → P k ⊎ (¬ P k)) → (n : ℕ)
    → ((m : ℕ) × (m < n) × P m × ((k : ℕ) → k < m → ¬ P k)) ⊎ ((k : ℕ) → k < n → ¬ P k)
least P d zero = inr (λ k l. absurd (omega arith))
least P d (suc n) = elim (least P d n) [
  | inl w ↦ (let m = w.1 in inl (w.0, omega arith, w.2, w.3))
  | inr none ↦ elim (d n) [
    | inl p ↦ inl (n, omega arith, p, none)
    | inr missing ↦ inr (λ k l. elim (cases_lt k n) [
      | inl m ↦ none k m
      | inr m ↦ (let e : n ≡ k = omega arith in subst (λ z. ¬ P z) e missing)
    ])
  ]
]

module _ (on : ℤ → ℤ → Type 0) where
  moved : (p q x y : ℤ) → p ≡ x → q ≡ y → on p q → on x y
  moved p q x y e f h = subst (λ z. on x z) f (subst (λ z. on z q) e h)

  pub gap_of_begins : ((x y : ℤ) → on x y ⊎ (¬ on x y)) → (w : Way) (size : ℕ) (x y : ℤ) → 0 < size
      → BeginsGap on w size x y → IsInGap on w size x y
  gap_of_begins decide w size x y some b =
      let (k, a, l, h) = b.ahead in
      elim (least (λ n. At on w x y n) (λ n. decide (to_x w x n) (to_y w y n)) (k + 1)) [
        | inr none ↦ absurd (none k (omega arith) h)
        | inl (m, less, at, before) ↦ record {
          back = 1;
          ahead = m;
          back_end = b.behind;
          ahead_end = at;
          back_open = λ n i g. b.open_ ((at_zero on (against w) x y).1
              (let e : n ≡ 0 = omega arith in subst (λ z. At on (against w) x y z) e g));
          ahead_open = before;
          open_ = b.open_;
          short = omega arith;
        }
      ]

  -- the square with which the gap begins
  first_x : (w : Way) (x : ℤ) (n : ℕ) → to_x (against w) (to_x (against w) x n) 1 ≡ to_x (against w) x (n + 1)
  first_x right x n = omega (arith, ints)
  first_x left x n = omega (arith, ints)
  first_x up x n = refl
  first_x down x n = refl

  first_y : (w : Way) (y : ℤ) (n : ℕ) → to_y (against w) (to_y (against w) y n) 1 ≡ to_y (against w) y (n + 1)
  first_y right y n = refl
  first_y left y n = refl
  first_y up y n = omega (arith, ints)
  first_y down y n = omega (arith, ints)

  last_x : (w : Way) (x : ℤ) (n m : ℕ) → to_x w x m ≡ to_x w (to_x (against w) x n) (n + m)
  last_x right x n m = omega (arith, ints)
  last_x left x n m = omega (arith, ints)
  last_x up x n m = refl
  last_x down x n m = refl

  last_y : (w : Way) (y : ℤ) (n m : ℕ) → to_y w y m ≡ to_y w (to_y (against w) y n) (n + m)
  last_y right y n m = refl
  last_y left y n m = refl
  last_y up y n m = omega (arith, ints)
  last_y down y n m = omega (arith, ints)

  starts : (w : Way) (size : ℕ) (x y : ℤ) → IsInGap on w size x y
      → (n : ℕ) × BeginsGap on w size (to_x (against w) x n) (to_y (against w) y n)
  starts w size x y g = go g.back refl
    where
      go : (back : ℕ) → g.back ≡ back
          → (n : ℕ) × BeginsGap on w size (to_x (against w) x n) (to_y (against w) y n)
      go zero e = absurd (g.open_ ((at_zero on (against w) x y).1
          (subst (λ z. At on (against w) x y z) e g.back_end)))
      go (suc n) e = let short = g.short in (
        n,
        record {
          behind = moved _ _ _ _ (sym (first_x w x n)) (sym (first_y w y n))
              (let f : g.back ≡ n + 1 = omega arith in subst (λ z. At on (against w) x y z) f g.back_end);
          open_ = g.back_open n (omega arith);
          ahead = (
            n + g.ahead,
            omega arith,
            omega arith,
            moved _ _ _ _ (last_x w x n g.ahead) (last_y w y n g.ahead) g.ahead_end,
          );
        },
      )

  abbrev Begins : ℕ → ℤ → ℤ → Type 0
  Begins size x y = BeginsGap on right size x y ⊎ BeginsGap on up size x y

  pub begins_tight : ((x y : ℤ) → on x y ⊎ (¬ on x y)) → (size : ℕ) → 0 < size → (x y : ℤ) → Begins size x y
      → IsTight on size x y
  begins_tight decide size some x y (inl b) = inl (gap_of_begins decide right size x y some b)
  begins_tight decide size some x y (inr b) = inr (gap_of_begins decide up size x y some b)

  -- a tight square lies in a gap that begins no later
  pub tight_begins : (size : ℕ) (x y : ℤ) → IsTight on size x y
      → (p : ℤ) × (q : ℤ) × ((q <ℤ y) ⊎ (q ≡ y) × (p ≤ℤ x)) × Begins size p q
  tight_begins size x y (inl g) =
      let (n, b) = starts right size x y g in
      (x +ℤ neg_ℤ (pos n), y, inr (refl, omega (arith, ints)), inl b)
  tight_begins size x y (inr g) =
      let (n, b) = starts up size x y g in (
        x,
        y +ℤ neg_ℤ (pos n),
        by_lt_z (y +ℤ neg_ℤ (pos n)) y (λ h. inl h) (λ h. inr (omega (arith, ints), omega (arith, ints))),
        inr b,
      )
