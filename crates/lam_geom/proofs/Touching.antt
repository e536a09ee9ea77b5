-- Rectangles touch exactly where their spans overlap along one axis, and overlap or meet along the other.
use Rattle.std.proofs.Common.{◌≡◌, ◌⊎◌, inl, inr, refl, arith, Bool, true, false, IsTrue, ◌↔◌}
use Rattle.std.specs.Prelude.{ℤ, pos, ◌+ℤ◌, ◌-ℤ◌, ◌≤ℤ◌, ◌<ℤ◌}
use Rattle.std.proofs.lemmas.Int.{ints, by_lt_z}
use Rattle.lam_geom.specs.declared.rect.Rect.{Rect}
use Rattle.lam_geom.specs.Squares.{Square, IsIn, Touch}
use Rattle.lam_geom.specs.Spans.{Overlap, Meet}

abbrev pub OverlapX : Rect → Rect → Type 0
OverlapX r q = Overlap r.x0 r.x1 q.x0 q.x1

abbrev pub OverlapY : Rect → Rect → Type 0
OverlapY r q = Overlap r.y0 r.y1 q.y0 q.y1

abbrev pub MeetX : Rect → Rect → Type 0
MeetX r q = Meet r.x0 r.x1 q.x0 q.x1

abbrev pub MeetY : Rect → Rect → Type 0
MeetY r q = Meet r.y0 r.y1 q.y0 q.y1

-- x is in the span
record In (a0 a1 x : ℤ) : Type 0 where
  low : a0 ≤ℤ x
  high : x <ℤ a1

-- they are one place, or neighbours
abbrev Near : ℤ → ℤ → Type 0
Near x y = (y ≡ x +ℤ pos 1) ⊎ (x ≡ y +ℤ pos 1)

common : (a0 a1 b0 b1 : ℤ) → Overlap a0 a1 b0 b1 → (x : ℤ) × In a0 a1 x × In b0 b1 x
common a0 a1 b0 b1 o =
    let f = o.first in
    let g = o.second in
    let b = o.below in
    let c = o.above in
    by_lt_z a0 b0
    (λ h. (
      b0,
      record { low = omega (arith, ints); high = omega (arith, ints) },
      record { low = omega (arith, ints); high = omega (arith, ints) },
    ))
    (λ h. (
      a0,
      record { low = omega (arith, ints); high = omega (arith, ints) },
      record { low = omega (arith, ints); high = omega (arith, ints) },
    ))

neighbours : (a0 a1 b0 b1 : ℤ) → Meet a0 a1 b0 b1 → (x y : ℤ) × In a0 a1 x × In b0 b1 y × Near x y
neighbours a0 a1 b0 b1 m =
    let f = m.first in
    let g = m.second in
    elim m.ends [
      | inl e ↦ (
        a1 -ℤ pos 1,
        b0,
        record { low = omega (arith, ints); high = omega (arith, ints) },
        record { low = omega (arith, ints); high = omega (arith, ints) },
        inl (omega (arith, ints)),
      )
      | inr e ↦ (
        a0,
        b1 -ℤ pos 1,
        record { low = omega (arith, ints); high = omega (arith, ints) },
        record { low = omega (arith, ints); high = omega (arith, ints) },
        inr (omega (arith, ints)),
      )
    ]

same_place : (a0 a1 b0 b1 x y : ℤ) → x ≡ y → In a0 a1 x → In b0 b1 y → Overlap a0 a1 b0 b1
same_place a0 a1 b0 b1 x y e h k =
    let a = h.low in
    let b = h.high in
    let c = k.low in
    let d = k.high in
    record {
      first = omega (arith, ints);
      second = omega (arith, ints);
      below = omega (arith, ints);
      above = omega (arith, ints);
    }

near_place : (a0 a1 b0 b1 x y : ℤ) → Near x y → In a0 a1 x → In b0 b1 y → Overlap a0 a1 b0 b1 ⊎ Meet a0 a1 b0 b1
near_place a0 a1 b0 b1 x y (inl e) h k =
    let a = h.low in
    let b = h.high in
    let c = k.low in
    let d = k.high in
    by_lt_z b0 a1
    (λ l. inl (record {
      first = omega (arith, ints);
      second = omega (arith, ints);
      below = omega (arith, ints);
      above = omega (arith, ints);
    }))
    (λ l. inr (record { first = omega (arith, ints); second = omega (arith, ints); ends = inl (omega (arith, ints)) }))
near_place a0 a1 b0 b1 x y (inr e) h k =
    let a = h.low in
    let b = h.high in
    let c = k.low in
    let d = k.high in
    by_lt_z a0 b1
    (λ l. inl (record {
      first = omega (arith, ints);
      second = omega (arith, ints);
      below = omega (arith, ints);
      above = omega (arith, ints);
    }))
    (λ l. inr (record { first = omega (arith, ints); second = omega (arith, ints); ends = inr (omega (arith, ints)) }))

square : (r : Rect) (x y : ℤ) → In r.x0 r.x1 x → In r.y0 r.y1 y
    → (let s : Square = record { layer = r.layer; x = x; y = y } in IsIn r s)
square r x y h k = record { same = refl; left = h.low; right = h.high; bottom = k.low; top = k.high }

pub overlap_touch : (r q : Rect) → OverlapX r q → OverlapY r q → Touch r q
overlap_touch r q h k =
    let a = common r.x0 r.x1 q.x0 q.x1 h in
    let b = common r.y0 r.y1 q.y0 q.y1 k in
    record {
      s = record { layer = r.layer; x = a.0; y = b.0 };
      t = record { layer = q.layer; x = a.0; y = b.0 };
      in_first = square r a.0 b.0 a.1 b.1;
      in_second = square q a.0 b.0 a.2 b.2;
      meet = inl (refl, refl);
    }

pub beside_touch : (r q : Rect) → MeetX r q → OverlapY r q → Touch r q
beside_touch r q h k =
    let a = neighbours r.x0 r.x1 q.x0 q.x1 h in
    let b = common r.y0 r.y1 q.y0 q.y1 k in
    record {
      s = record { layer = r.layer; x = a.0; y = b.0 };
      t = record { layer = q.layer; x = a.1; y = b.0 };
      in_first = square r a.0 b.0 a.2 b.1;
      in_second = square q a.1 b.0 a.3 b.2;
      meet = inr (inl (refl, a.4));
    }

pub above_touch : (r q : Rect) → OverlapX r q → MeetY r q → Touch r q
above_touch r q h k =
    let a = common r.x0 r.x1 q.x0 q.x1 h in
    let b = neighbours r.y0 r.y1 q.y0 q.y1 k in
    record {
      s = record { layer = r.layer; x = a.0; y = b.0 };
      t = record { layer = q.layer; x = a.0; y = b.1 };
      in_first = square r a.0 b.0 a.1 b.2;
      in_second = square q a.0 b.1 a.2 b.3;
      meet = inr (inr (refl, b.4));
    }

-- the spans of rectangles that touch
pub touch_spans : (r q : Rect) → Touch r q
    → OverlapY r q × (OverlapX r q ⊎ MeetX r q) ⊎ OverlapX r q × (OverlapY r q ⊎ MeetY r q)
touch_spans r q t = elim t.meet [
  | inl e ↦ inl (at_y e.1, inl (at_x e.0))
  | inr h ↦ elim h [
    | inl e ↦ inl (at_y e.0, near_place r.x0 r.x1 q.x0 q.x1 t.s.x t.t.x e.1 rx qx)
    | inr e ↦ inr (at_x e.0, near_place r.y0 r.y1 q.y0 q.y1 t.s.y t.t.y e.1 ry qy)
  ]
]
  where
    rx : In r.x0 r.x1 t.s.x
    rx = record { low = t.in_first.left; high = t.in_first.right }

    ry : In r.y0 r.y1 t.s.y
    ry = record { low = t.in_first.bottom; high = t.in_first.top }

    qx : In q.x0 q.x1 t.t.x
    qx = record { low = t.in_second.left; high = t.in_second.right }

    qy : In q.y0 q.y1 t.t.y
    qy = record { low = t.in_second.bottom; high = t.in_second.top }

    at_x : t.s.x ≡ t.t.x → OverlapX r q
    at_x e = same_place r.x0 r.x1 q.x0 q.x1 t.s.x t.t.x e rx qx

    at_y : t.s.y ≡ t.t.y → OverlapY r q
    at_y e = same_place r.y0 r.y1 q.y0 q.y1 t.s.y t.t.y e ry qy

-- ---- what the tests of the spans say, in each of their four branches

Says : Bool → Type 0 → Type 0
Says b P = IsTrue b ↔ P

denied : (b : Bool) (P : Type 0) → Says b P → b ≡ false → ¬ P
unfolding Says
denied b P h e p = let f : b ≡ true = h.1 p in cc

module _ (r q : Rect) (x y z : Bool) where
  pub both_overlap : (IsTrue x ↔ OverlapX r q) → x ≡ true → (IsTrue y ↔ OverlapY r q) → y ≡ true → IsTrue y ↔ Touch r q
  both_overlap h e k f = ((λ p. overlap_touch r q (h.0 e) (k.0 f)), (λ t. f))

  pub rows_meet : (IsTrue x ↔ OverlapX r q) → x ≡ true → (IsTrue y ↔ OverlapY r q) → y ≡ false → (IsTrue z ↔ MeetY r q)
      → IsTrue z ↔ Touch r q
  unfolding Says
  rows_meet h e k f m = (
    (λ p. above_touch r q (h.0 e) (m.0 p)),
    (λ t. elim (touch_spans r q t) [
      | inl a ↦ absurd (denied y (OverlapY r q) k f a.0)
      | inr a ↦ elim a.1 [ inl o ↦ absurd (denied y (OverlapY r q) k f o) | inr o ↦ m.1 o ]
    ]),
  )

  pub columns_meet : (IsTrue x ↔ OverlapX r q) → x ≡ false → (IsTrue y ↔ OverlapY r q) → y ≡ true
      → (IsTrue z ↔ MeetX r q) → IsTrue z ↔ Touch r q
  unfolding Says
  columns_meet h e k f m = (
    (λ p. beside_touch r q (m.0 p) (k.0 f)),
    (λ t. elim (touch_spans r q t) [
      | inl a ↦ elim a.1 [ inl o ↦ absurd (denied x (OverlapX r q) h e o) | inr o ↦ m.1 o ]
      | inr a ↦ absurd (denied x (OverlapX r q) h e a.0)
    ]),
  )

  pub no_overlap : (IsTrue x ↔ OverlapX r q) → x ≡ false → (IsTrue y ↔ OverlapY r q) → y ≡ false → IsTrue y ↔ Touch r q
  unfolding Says
  no_overlap h e k f = (
    (λ p. let g : y ≡ true = p in absurd (false_true g)),
    (λ t. elim (touch_spans r q t) [
      | inl a ↦ absurd (denied y (OverlapY r q) k f a.0)
      | inr a ↦ absurd (denied x (OverlapX r q) h e a.0)
    ]),
  )
    where
      false_true : y ≡ true → ⊥
      false_true g = cc
