-- Channels that are open toward one side.
use Rattle.std.proofs.Common.{ℕ, zero, suc, ◌≡◌, ◌<◌, ◌⊎◌, inl, inr, refl, subst, arith, List}
use Rattle.std.specs.Prelude.{◌↔◌, ℤ, pos, neg_ℤ, ◌+ℤ◌, ◌-ℤ◌}
use Rattle.std.proofs.lemmas.Int.{ints, by_lt_z}
use Rattle.lam_geom.specs.declared.layer.Layer.{Layer}
use Rattle.lam_geom.specs.declared.layer.Layer.TheVariants.{ND, NP, NB}
use Rattle.lam_geom.specs.declared.rect.Rect.{Rect}
use Rattle.lam_geom.specs.Squares.{covered}
use Rattle.lam_geom.specs.Rules.{Way, to_x, to_y, At, IsBad, IsOpenGate}
use Rattle.lam_geom.specs.Rules.Way.{right, left, up, down}
use Rattle.lam_geom.specs.Rules.IsBad.{nothing, short}
use Rattle.rule_rows.specs.declared.side.Side.{Side}
use Rattle.rule_rows.specs.Sides.{way_of, Reaches}
use Rattle.rule_rows.specs.Copies.{AreSpread}
use Rattle.rule_rows.specs.Channels.{IsChannel}
use Rattle.rule_rows.specs.Gates.{IsLong, IsLongAlong, IsBeside, IsOpenToward, AreLong}
use Rattle.rule_rows.proofs.Deep.{covered_or_not}
use Rattle.rule_rows.proofs.Opening.{least}
use Rattle.rule_rows.proofs.Spreading.{natural, spread_own, spread_other, at_zero, reaches_one}

-- ---- a stretch along a line through a place of diffusion: polysilicon alone for two lambda from the place on

module _ (gate diffusion is : ℤ → Type 0) (z : ℤ) where
  ahead_all : ((t : ℤ) → is t → gate (t +ℤ pos 1) × ¬ diffusion (t +ℤ pos 1)) → diffusion z → IsLong is z
      → (n : ℕ) → n < 1000 → gate (z +ℤ pos (suc n)) × ¬ diffusion (z +ℤ pos (suc n))
  ahead_all to here g n small = by_lt_z g.from z
      (λ h. let l = g.right in
      let e : z ≡ (z -ℤ pos 1) +ℤ pos 1 = omega (arith, ints) in
      absurd ((to (z -ℤ pos 1) (g.each (z -ℤ pos 1) (omega (arith, ints)) (omega (arith, ints)))).1
      (subst diffusion e here)))
      (λ h. let k = g.left in
      let e : (z +ℤ pos n) +ℤ pos 1 ≡ z +ℤ pos (suc n) = omega (arith, ints) in
      subst (λ t. gate t × ¬ diffusion t) e
      (to (z +ℤ pos n) (g.each (z +ℤ pos n) (omega (arith, ints)) (omega (arith, ints)))))

  all_ahead : ((t : ℤ) → gate (t +ℤ pos 1) × ¬ diffusion (t +ℤ pos 1) → is t)
      → ((n : ℕ) → n < 1000 → gate (z +ℤ pos (suc n)) × ¬ diffusion (z +ℤ pos (suc n))) → IsLong is z
  all_ahead of all = record {
    from = z;
    left = omega (arith, ints);
    right = omega (arith, ints);
    each = λ t a b.
        let w = natural (t -ℤ z) (omega (arith, ints)) in
        let n = w.0 in
        let f = w.1 in
        let e : z +ℤ pos (suc n) ≡ t +ℤ pos 1 = omega (arith, ints) in
        of t (subst (λ t. gate t × ¬ diffusion t) e (all n (omega (arith, ints))));
  }

  behind_all : ((t : ℤ) → is t → gate (t +ℤ neg_ℤ (pos 1)) × ¬ diffusion (t +ℤ neg_ℤ (pos 1))) → diffusion z
      → IsLong is z
      → (n : ℕ) → n < 1000 → gate (z +ℤ neg_ℤ (pos (suc n))) × ¬ diffusion (z +ℤ neg_ℤ (pos (suc n)))
  behind_all to here g n small = by_lt_z (z +ℤ pos 1) (g.from +ℤ pos 1000)
      (λ h. let l = g.left in
      let e : z ≡ (z +ℤ pos 1) +ℤ neg_ℤ (pos 1) = omega (arith, ints) in
      absurd ((to (z +ℤ pos 1) (g.each (z +ℤ pos 1) (omega (arith, ints)) (omega (arith, ints)))).1
      (subst diffusion e here)))
      (λ h. let k = g.right in
      let e : (z -ℤ pos n) +ℤ neg_ℤ (pos 1) ≡ z +ℤ neg_ℤ (pos (suc n)) = omega (arith, ints) in
      subst (λ t. gate t × ¬ diffusion t) e
      (to (z -ℤ pos n) (g.each (z -ℤ pos n) (omega (arith, ints)) (omega (arith, ints)))))

  all_behind : ((t : ℤ) → gate (t +ℤ neg_ℤ (pos 1)) × ¬ diffusion (t +ℤ neg_ℤ (pos 1)) → is t)
      → ((n : ℕ) → n < 1000 → gate (z +ℤ neg_ℤ (pos (suc n))) × ¬ diffusion (z +ℤ neg_ℤ (pos (suc n)))) → IsLong is z
  all_behind of all = record {
    from = z -ℤ pos 999;
    left = omega (arith, ints);
    right = omega (arith, ints);
    each = λ t a b.
        let w = natural (z -ℤ t) (omega (arith, ints)) in
        let n = w.0 in
        let f = w.1 in
        let e : z +ℤ neg_ℤ (pos (suc n)) ≡ t +ℤ neg_ℤ (pos 1) = omega (arith, ints) in
        of t (subst (λ t. gate t × ¬ diffusion t) e (all n (omega (arith, ints))));
  }

-- ---- bad neighbours

module _ (covers : Layer → ℤ → ℤ → Type 0) where
  abbrev Alone : Way → ℤ → ℤ → ℕ → Type 0
  Alone w x y k = At (covers NP) w x y k × ¬ At (covers ND) w x y k

  long_all : (w : Way) (x y : ℤ) → covers ND x y → IsLongAlong w (IsBeside covers w) x y → (n : ℕ) → n < 1000
      → Alone w x y (suc n)
  long_all right x y d g = ahead_all (λ t. covers NP t y) (λ t. covers ND t y) (λ t. IsBeside covers right t y) x
      (λ t b. (b.polysilicon, b.bare)) d g
  long_all left x y d g = behind_all (λ t. covers NP t y) (λ t. covers ND t y) (λ t. IsBeside covers left t y) x
      (λ t b. (b.polysilicon, b.bare)) d g
  long_all up x y d g = ahead_all (λ t. covers NP x t) (λ t. covers ND x t) (λ t. IsBeside covers up x t) y
      (λ t b. (b.polysilicon, b.bare)) d g
  long_all down x y d g = behind_all (λ t. covers NP x t) (λ t. covers ND x t) (λ t. IsBeside covers down x t) y
      (λ t b. (b.polysilicon, b.bare)) d g

  all_long : (w : Way) (x y : ℤ) → ((n : ℕ) → n < 1000 → Alone w x y (suc n)) → IsLongAlong w (IsBeside covers w) x y
  all_long right x y all = all_ahead (λ t. covers NP t y) (λ t. covers ND t y) (λ t. IsBeside covers right t y) x
      (λ t b. record { polysilicon = b.0; bare = b.1 }) all
  all_long left x y all = all_behind (λ t. covers NP t y) (λ t. covers ND t y) (λ t. IsBeside covers left t y) x
      (λ t b. record { polysilicon = b.0; bare = b.1 }) all
  all_long up x y all = all_ahead (λ t. covers NP x t) (λ t. covers ND x t) (λ t. IsBeside covers up x t) y
      (λ t b. record { polysilicon = b.0; bare = b.1 }) all
  all_long down x y all = all_behind (λ t. covers NP x t) (λ t. covers ND x t) (λ t. IsBeside covers down x t) y
      (λ t b. record { polysilicon = b.0; bare = b.1 }) all

  pub bad_next : (w : Way) (x y : ℤ) → IsBad covers w x y → ¬ At (covers ND) w x y 1
  bad_next w x y (nothing p d) = d
  bad_next w x y (short p d k a b e) = d

  pub bad_short : (w : Way) (x y : ℤ) → covers ND x y → IsBad covers w x y
      → ¬ IsLongAlong w (IsBeside covers w) x y
  bad_short w x y here (nothing p d) g = p (long_all w x y here g 0 (omega arith)).0
  bad_short w x y here (short p d zero a b e) g = omega arith
  bad_short w x y here (short p d (suc n) a b e) g =
      let s = long_all w x y here g n (omega arith) in
      elim e [ inl m ↦ m s.0 | inr m ↦ s.1 m ]

  module _ (decide : (l : Layer) (x y : ℤ) → covers l x y ⊎ (¬ covers l x y)) (w : Way) (x y : ℤ) where
    abbrev Ends : ℕ → Type 0
    Ends k = (¬ At (covers NP) w x y (suc k)) ⊎ At (covers ND) w x y (suc k)

    ends_or_not : (k : ℕ) → Ends k ⊎ (¬ Ends k)
    ends_or_not k = elim (decide NP (to_x w x (suc k)) (to_y w y (suc k))) [
      | inr n ↦ inl (inl n)
      | inl p ↦ elim (decide ND (to_x w x (suc k)) (to_y w y (suc k))) [
        | inl d ↦ inl (inr d)
        | inr d ↦ inr (λ e. elim e [ inl m ↦ m p | inr m ↦ d m ])
      ]
    ]

    goes_on : (k : ℕ) → ¬ Ends k → Alone w x y (suc k)
    goes_on k n = elim (decide NP (to_x w x (suc k)) (to_y w y (suc k))) [
      | inl p ↦ (p, λ h. n (inr h))
      | inr m ↦ absurd (n (inl m))
    ]

    short_or_long : (n : ℕ) → n ≡ 1000 → At (covers NP) w x y 1 → (¬ At (covers ND) w x y 1)
        → (¬ IsLongAlong w (IsBeside covers w) x y) → IsBad covers w x y
    short_or_long n e p d not_long = elim (least Ends ends_or_not n) [
      | inl m ↦ (let less = m.1 in short p d (suc m.0) (omega arith) (omega arith) m.2)
      | inr none ↦ absurd (not_long (all_long w x y (λ k l. goes_on k (none k (omega arith)))))
    ]

    pub is_bad : (¬ At (covers ND) w x y 1) → (¬ IsLongAlong w (IsBeside covers w) x y) → IsBad covers w x y
    is_bad d not_long = elim (decide NP (to_x w x 1) (to_y w y 1)) [
      | inl p ↦ short_or_long 1000 refl p d not_long
      | inr p ↦ nothing p d
    ]

-- ---- channels of the derived drawing

module _ (shapes d0 d1 d2 d3 d4 : List Rect) (side : Side)
    (long : AreLong (way_of side) (IsBeside (covered shapes) (way_of side)) d0)
    (s1 : AreSpread (covered shapes ND) ND (record { side = side; near = 0; far = 0 }) d0 d1)
    (s2 : AreSpread (covered shapes NP) NP (record { side = side; near = 0; far = 0 }) d1 d2)
    (s3 : AreSpread (covered shapes NB) NB (record { side = side; near = 0; far = 0 }) d2 d3)
    (s4 : AreSpread (covered shapes ND) NB (record { side = side; near = 1; far = 1 }) d3 d4) (x y : ℤ) where
  abbrev way : Way
  way = way_of side

  here : (l : Layer) → Reaches (covered shapes l) way 0 0 x y → covered shapes l x y
  here l r = (at_zero (covered shapes l) way x y).1 (reaches_one (covered shapes l) way 0 x y r)

  reach : (l : Layer) → covered shapes l x y → Reaches (covered shapes l) way 0 0 x y
  reach l h = (0, omega arith, omega arith, (at_zero (covered shapes l) way x y).0 h)

  diffusion : covered d4 ND x y ↔ covered shapes ND x y
  diffusion =
      let a = spread_other _ NB _ d3 d4 s4 x y ND (λ e. cc (e)) in
      let b = spread_other _ NB _ d2 d3 s3 x y ND (λ e. cc (e)) in
      let c = spread_other _ NP _ d1 d2 s2 x y ND (λ e. cc (e)) in
      let d = spread_own _ ND _ d0 d1 s1 x y in (
        λ h. elim (d.0 (c.0 (b.0 (a.0 h)))) [
          | inl n ↦ absurd (let e = ((long.each ND x y).0 n).0 in cc (e))
          | inr r ↦ here ND r
        ],
        λ h. a.1 (b.1 (c.1 (d.1 (inr (reach ND h))))),
      )

  polysilicon : covered d4 NP x y ↔ covered shapes NP x y
  polysilicon =
      let a = spread_other _ NB _ d3 d4 s4 x y NP (λ e. cc (e)) in
      let b = spread_other _ NB _ d2 d3 s3 x y NP (λ e. cc (e)) in
      let c = spread_own _ NP _ d1 d2 s2 x y in
      let d = spread_other _ ND _ d0 d1 s1 x y NP (λ e. cc (e)) in (
        λ h. elim (c.0 (b.0 (a.0 h))) [
          | inl n ↦ absurd (let e = ((long.each NP x y).0 (d.0 n)).0 in cc (e))
          | inr r ↦ here NP r
        ],
        λ h. a.1 (b.1 (c.1 (inr (reach NP h)))),
      )

  abbrev Stops : Type 0
  Stops = covered shapes NB x y
      ⊎ (At (covered shapes ND) way x y 1 ⊎ IsLongAlong way (IsBeside (covered shapes) way) x y)

  buried : covered d4 NB x y ↔ Stops
  buried =
      let a = spread_own _ NB _ d3 d4 s4 x y in
      let b = spread_own _ NB _ d2 d3 s3 x y in
      let c = spread_other _ NP _ d1 d2 s2 x y NB (λ e. cc (e)) in
      let d = spread_other _ ND _ d0 d1 s1 x y NB (λ e. cc (e)) in (
        λ h. elim (a.0 h) [
          | inl n ↦ elim (b.0 n) [
            | inl m ↦ inr (inr ((long.each NB x y).0 (d.0 (c.0 m))).1)
            | inr r ↦ inl (here NB r)
          ]
          | inr r ↦ inr (inl (reaches_one (covered shapes ND) way 1 x y r))
        ],
        λ h. elim h [
          | inl m ↦ a.1 (inl (b.1 (inr (reach NB m))))
          | inr m ↦ elim m [
            | inl n ↦ a.1 (inr (1, omega arith, omega arith, n))
            | inr n ↦ a.1 (inl (b.1 (inl (c.1 (d.1 ((long.each NB x y).1 (refl, n)))))))
          ]
        ],
      )

  pub open_of_channel : IsChannel d4 x y → IsOpenToward (covered shapes) way x y
  open_of_channel c = record {
    gate = polysilicon.0 c.polysilicon;
    diffusion = diffusion.0 c.diffusion;
    unburied = λ h. c.unburied (buried.1 (inl h));
    bad = is_bad (covered shapes) (covered_or_not shapes) way x y (λ h. c.unburied (buried.1 (inr (inl h))))
        (λ h. c.unburied (buried.1 (inr (inr h))));
  }

  pub channel_of_open : IsOpenToward (covered shapes) way x y → IsChannel d4 x y
  channel_of_open o = record {
    diffusion = diffusion.1 o.diffusion;
    polysilicon = polysilicon.1 o.gate;
    unburied = λ h. elim (buried.0 h) [
      | inl m ↦ o.unburied m
      | inr m ↦ elim m [
        | inl n ↦ bad_next (covered shapes) way x y o.bad n
        | inr n ↦ bad_short (covered shapes) way x y o.diffusion o.bad n
      ]
    ];
  }

-- ---- all four ways

module _ (covers : Layer → ℤ → ℤ → Type 0) (x y : ℤ) where
  abbrev Toward : Way → Type 0
  Toward w = IsOpenToward covers w x y

  toward : (w : Way) → Toward w → IsOpenGate covers x y
  toward w o = record { gate = o.gate; diffusion = o.diffusion; unburied = o.unburied; way = w; bad = o.bad }

  pub gate_of_ways : (Toward right ⊎ Toward left) ⊎ (Toward up ⊎ Toward down) → IsOpenGate covers x y
  gate_of_ways (inl (inl o)) = toward right o
  gate_of_ways (inl (inr o)) = toward left o
  gate_of_ways (inr (inl o)) = toward up o
  gate_of_ways (inr (inr o)) = toward down o

  pub ways_of_gate : IsOpenGate covers x y → (Toward right ⊎ Toward left) ⊎ (Toward up ⊎ Toward down)
  ways_of_gate g = go g.way g.bad
    where
      told : (w : Way) → IsBad covers w x y → Toward w
      told w b = record { gate = g.gate; diffusion = g.diffusion; unburied = g.unburied; bad = b }

      go : (w : Way) → IsBad covers w x y → (Toward right ⊎ Toward left) ⊎ (Toward up ⊎ Toward down)
      go right b = inl (inl (told right b))
      go left b = inl (inr (told left b))
      go up b = inr (inl (told up b))
      go down b = inr (inr (told down b))
