-- The squares of areas.
use Rattle.std.proofs.Common.{ℕ, zero, suc, ◌≡◌, ◌≢◌, ◌<◌, ◌⊎◌, List, [], ◌∷◌, ◌++◌, map, inl, inr, refl, sym}
use Rattle.std.proofs.Common.{subst, arith, length, get_or, Some, None}
use Rattle.std.specs.Prelude.{◌↔◌, All, AllPairs, Contains, ℤ, ◌<ℤ◌}
use Rattle.std.proofs.lemmas.Int.{ints}
use Rattle.std.proofs.lemmas.List.Elements.{All-contains_itself, All-weaker}
use Rattle.mp_base.proofs.Contents.{contains_behind, contains_head, nothing_in}
use Rattle.lam_geom.specs.declared.layer.Layer.{Layer}
use Rattle.lam_geom.specs.declared.rect.Rect.{Rect}
use Rattle.lam_geom.specs.declared.place.Point.{Point}
use Rattle.lam_geom.specs.Squares.{covered}
use Rattle.lam_geom.specs.Moves.{IsNearRect}
use Rattle.rule_tiles.specs.First.{IsFirst}
use Rattle.rule_tiles.specs.Areas.{grown, Reaches, reached, held, IsSolid, IsBefore, IsOnField, low_corner}

pub reached_by : (before after : ℕ) (rs : List Rect) (x y : ℤ) → reached before after rs x y
    → (r : Rect) × Contains rs r × Reaches before after r x y
reached_by before after [] x y h = absurd h
reached_by before after (r ∷ rs) x y (inl h) = (r, contains_head r rs, h)
reached_by before after (r ∷ rs) x y (inr h) =
    let g = reached_by before after rs x y h in (g.0, contains_behind g.0 r rs g.1, g.2)

pub reaches_all : (before after : ℕ) (rs : List Rect) (x y : ℤ) (r : Rect) → Contains rs r → Reaches before after r x y
    → reached before after rs x y
reaches_all before after [] x y r h c = absurd (nothing_in r h)
reaches_all before after (q ∷ rs) x y r (zero, h, e) c = inl (subst (λ z. Reaches before after z x y) (sym e) c)
reaches_all before after (q ∷ rs) x y r (suc k, h, e) c =
    inr (reaches_all before after rs x y r (k, omega (arith, h), e) c)

-- what grown rectangles cover on their layer and on others
pub covered_grown : (l : Layer) (before after : ℕ) (rs : List Rect) (x y : ℤ)
    → covered (map (grown l before after) rs) l x y ↔ reached before after rs x y
covered_grown l before after [] x y = (λ h. h, λ h. h)
covered_grown l before after (r ∷ rs) x y =
    let rest = covered_grown l before after rs x y in (
      λ h. elim h [
        | inl c ↦ inl (record { left = c.left; right = c.right; bottom = c.bottom; top = c.top })
        | inr c ↦ inr (rest.0 c)
      ],
      λ h. elim h [
        | inl c ↦ inl (record { same = refl; left = c.left; right = c.right; bottom = c.bottom; top = c.top })
        | inr c ↦ inr (rest.1 c)
      ],
    )

pub not_grown : (l m : Layer) (before after : ℕ) (rs : List Rect) (x y : ℤ) → l ≢ m
    → ¬ covered (map (grown l before after) rs) m x y
not_grown l m before after [] x y n h = h
not_grown l m before after (r ∷ rs) x y n (inl h) = n h.same
not_grown l m before after (r ∷ rs) x y n (inr h) = not_grown l m before after rs x y n h

pub covered_first : (rs qs : List Rect) (l : Layer) (x y : ℤ) → covered rs l x y → covered (rs ++ qs) l x y
covered_first [] qs l x y h = absurd h
covered_first (r ∷ rs) qs l x y (inl h) = inl h
covered_first (r ∷ rs) qs l x y (inr h) = inr (covered_first rs qs l x y h)

pub covered_second : (rs qs : List Rect) (l : Layer) (x y : ℤ) → covered qs l x y → covered (rs ++ qs) l x y
covered_second [] qs l x y h = h
covered_second (r ∷ rs) qs l x y h = inr (covered_second rs qs l x y h)

pub covered_either : (rs qs : List Rect) (l : Layer) (x y : ℤ) → covered (rs ++ qs) l x y
    → covered rs l x y ⊎ covered qs l x y
covered_either [] qs l x y h = inr h
covered_either (r ∷ rs) qs l x y (inl h) = inl (inl h)
covered_either (r ∷ rs) qs l x y (inr h) = elim (covered_either rs qs l x y h) [ inl c ↦ inl (inr c) | inr c ↦ inr c ]

-- what holds of each member holds of all
pub all_of : {X : Type 0} (P : X → Type 0) (xs : List X) → ((x : X) → Contains xs x → P x) → All P xs
all_of P xs f = All-weaker (Contains xs) P f xs (All-contains_itself xs)

-- the first square of an area
pub first_of : (r : Rect) (rs : List Rect) (p : Point) → All IsSolid (r ∷ rs) → AllPairs IsBefore (r ∷ rs)
    → p.x ≡ r.x0 → p.y ≡ r.y0 → IsFirst (held (r ∷ rs)) (Some p)
first_of r rs p solid ordered e f =
    let s = solid 0 r (omega arith) in
    let w = s.wide in
    let t = s.tall in (
      inl (record {
        left = omega (arith, ints);
        right = omega (arith, ints);
        bottom = omega (arith, ints);
        top = omega (arith, ints);
      }),
      λ x y b h. let g = reached_by 0 0 (r ∷ rs) x y h in late x y b g.0 g.1 g.2,
    )
  where
    after : (q : Rect) → Contains (r ∷ rs) q → (q ≡ r) ⊎ IsBefore r q
    after q (zero, l, i) = inl (sym i)
    after q (suc k, l, i) = inr (subst (IsBefore r) i (ordered 0 (suc k) q (omega arith) l))

    late : (x y : ℤ) → (y <ℤ p.y) ⊎ (y ≡ p.y) × (x <ℤ p.x) → (q : Rect) → Contains (r ∷ rs) q → Reaches 0 0 q x y → ⊥
    late x y (inl b) q c h = elim (after q c) [
      | inl i ↦ (let g = h.bottom in let y0 : q.y0 ≡ r.y0 = λ j. (i j).y0 in omega (arith, ints))
      | inr i ↦ elim i [
        | inl i ↦ (let g = h.bottom in omega (arith, ints))
        | inr i ↦ (let g = h.bottom in let y0 = i.0 in omega (arith, ints))
      ]
    ]
    late x y (inr b) q c h = elim (after q c) [
      | inl i ↦ (let g = h.left in let b1 = b.1 in let x0 : q.x0 ≡ r.x0 = λ j. (i j).x0 in omega (arith, ints))
      | inr i ↦ elim i [
        | inl i ↦ (let g = h.bottom in let b0 = b.0 in omega (arith, ints))
        | inr i ↦ (let g = h.left in let b1 = b.1 in let x0 = i.1 in omega (arith, ints))
      ]
    ]

pub first_at : (area : List Rect) (d : Rect) → All IsSolid area → AllPairs IsBefore area → 0 < length area
    → IsFirst (held area) (Some (low_corner (get_or area 0 d)))
first_at [] d solid ordered l = absurd (omega arith)
first_at (r ∷ rs) d solid ordered l = first_of r rs (record { x = r.x0; y = r.y0 }) solid ordered refl refl

pub first_none : (area : List Rect) → length area ≡ 0 → IsFirst (held area) None
first_none [] e = λ x y h. h
first_none (r ∷ rs) e = absurd (omega arith)

-- rectangles near the origin are on the field
pub near_on_field : (r : Rect) → IsNearRect r → IsOnField r
near_on_field r n =
    let a = n.x0 in
    let b = n.y0 in
    let c = n.x1 in
    let d = n.y1 in
    let a0 = a.0 in
    let a1 = a.1 in
    let b0 = b.0 in
    let b1 = b.1 in
    let c0 = c.0 in
    let c1 = c.1 in
    let d0 = d.0 in
    let d1 = d.1 in
    record {
      x0 = omega (arith, ints);
      y0 = omega (arith, ints);
      x1 = omega (arith, ints);
      y1 = omega (arith, ints);
      x0_high = omega (arith, ints);
      y0_high = omega (arith, ints);
      x1_low = omega (arith, ints);
      y1_low = omega (arith, ints);
    }
