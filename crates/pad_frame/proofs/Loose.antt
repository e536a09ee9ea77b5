-- A frame has no gap in its metal that is narrower than three lambda.
use Rattle.std.proofs.Common.{◌≡◌, ◌⊎◌, ◌<◌, ◌≤◌, ◌+◌, ◌-◌, ◌*◌, ℕ, zero, suc, inl, inr, refl, sym, subst, subst₂, arith}
use Rattle.std.proofs.Common.{List, [], ◌∷◌, length, Bool, true, false, cond}
use Rattle.std.specs.Prelude.{ℤ, pos, ◌+ℤ◌, ◌-ℤ◌, ◌*ℤ◌, ◌≤ℤ◌, ◌<ℤ◌, int_le, flat_map}
use Rattle.std.specs.List.{range_with_len}
use Rattle.std.proofs.lemmas.Bool.{cases_eq, cases_lt}
use Rattle.std.proofs.lemmas.Int.{ints}
use Rattle.mp_base.proofs.Members.{Member, member_contains, member_flat, range_members, flat_member}
use Rattle.lam_geom.specs.declared.layer.Layer.TheVariants.{NM}
use Rattle.lam_geom.specs.declared.rect.Rect.{Rect}
use Rattle.metal_pieces.specs.Pieces.{metal, IsBeyond}
use Rattle.metal_pieces.proofs.Gaps.{IsClosedRow, IsClosedColumn, Fills, spaced_rows, spaced_columns}
use Rattle.metal_pieces.proofs.Gaps.IsClosedRow.{apart, meets}
use Rattle.metal_pieces.proofs.Gaps.IsClosedColumn.{over, joins, under, aside, filled}
use Rattle.river_route.specs.Routes.{bent}
use Rattle.river_route.proofs.Routing.{test}
use Rattle.pad_frame.specs.declared.frames.PadWish.{PadWish}
use Rattle.pad_frame.specs.declared.frames.Framed.{Framed}
use Rattle.pad_frame.specs.Frames.{west, pad_rect, stub_at, stub_rect, piece, row_at, piece_of, AreFramed}

-- ---- the rectangles of one piece, with a route in whatever lane
module _ (p j k : ℕ) (r low high : ℤ) (in_lanes : k < p) (a : low ≤ℤ stub_at j) (b : stub_at j ≤ℤ high) (c : low ≤ℤ r)
    (d : r ≤ℤ high) where
  abbrev pad : Rect
  pad = pad_rect p j

  abbrev stub : Rect
  stub = stub_rect p j

  abbrev first : Rect
  first = metal (west p 0) (stub_at j) (west p 0 +ℤ pos (7 * k + 4)) (stub_at j +ℤ pos 4)

  abbrev across : Rect
  across = metal (west p 0 +ℤ pos (7 * k)) low (west p 0 +ℤ pos (7 * k + 4)) (high +ℤ pos 4)

  abbrev last : Rect
  last = metal (west p 0 +ℤ pos (7 * k)) r (west p 0 +ℤ pos (7 * p)) (r +ℤ pos 4)

  abbrev one : List Rect
  one = pad_rect p j ∷ stub_rect p j ∷ bent (west p 0) p k (stub_at j) r low high

  piece_rows : (s t : Rect) → Member one s → Member one t → IsClosedRow s t
  piece_rows s t (inl e) (inl f) = subst₂ IsClosedRow e f (meets (omega (arith, ints)))
  piece_rows s t (inl e) (inr (inl f)) = subst₂ IsClosedRow e f (meets (omega (arith, ints)))
  piece_rows s t (inl e) (inr (inr (inl f))) = subst₂ IsClosedRow e f (apart (omega (arith, ints)))
  piece_rows s t (inl e) (inr (inr (inr (inl f)))) = subst₂ IsClosedRow e f (apart (omega (arith, ints)))
  piece_rows s t (inl e) (inr (inr (inr (inr (inl f))))) = subst₂ IsClosedRow e f (apart (omega (arith, ints)))
  piece_rows s t (inr (inl e)) (inl f) = subst₂ IsClosedRow e f (meets (omega (arith, ints)))
  piece_rows s t (inr (inl e)) (inr (inl f)) = subst₂ IsClosedRow e f (meets (omega (arith, ints)))
  piece_rows s t (inr (inl e)) (inr (inr (inl f))) = subst₂ IsClosedRow e f (meets (omega (arith, ints)))
  piece_rows s t (inr (inl e)) (inr (inr (inr (inl f)))) = subst₂ IsClosedRow e f (elim (cases_lt 0 k) [ inl g ↦ apart (omega (arith, ints)) | inr g ↦ meets (omega (arith, ints)) ])
  piece_rows s t (inr (inl e)) (inr (inr (inr (inr (inl f))))) = subst₂ IsClosedRow e f (elim (cases_lt 0 k) [ inl g ↦ apart (omega (arith, ints)) | inr g ↦ meets (omega (arith, ints)) ])
  piece_rows s t (inr (inr (inl e))) (inl f) = subst₂ IsClosedRow e f (meets (omega (arith, ints)))
  piece_rows s t (inr (inr (inl e))) (inr (inl f)) = subst₂ IsClosedRow e f (meets (omega (arith, ints)))
  piece_rows s t (inr (inr (inl e))) (inr (inr (inl f))) = subst₂ IsClosedRow e f (meets (omega (arith, ints)))
  piece_rows s t (inr (inr (inl e))) (inr (inr (inr (inl f)))) = subst₂ IsClosedRow e f (meets (omega (arith, ints)))
  piece_rows s t (inr (inr (inl e))) (inr (inr (inr (inr (inl f))))) = subst₂ IsClosedRow e f (meets (omega (arith, ints)))
  piece_rows s t (inr (inr (inr (inl e)))) (inl f) = subst₂ IsClosedRow e f (meets (omega (arith, ints)))
  piece_rows s t (inr (inr (inr (inl e)))) (inr (inl f)) = subst₂ IsClosedRow e f (meets (omega (arith, ints)))
  piece_rows s t (inr (inr (inr (inl e)))) (inr (inr (inl f))) = subst₂ IsClosedRow e f (meets (omega (arith, ints)))
  piece_rows s t (inr (inr (inr (inl e)))) (inr (inr (inr (inl f)))) = subst₂ IsClosedRow e f (meets (omega (arith, ints)))
  piece_rows s t (inr (inr (inr (inl e)))) (inr (inr (inr (inr (inl f))))) = subst₂ IsClosedRow e f (meets (omega (arith, ints)))
  piece_rows s t (inr (inr (inr (inr (inl e))))) (inl f) = subst₂ IsClosedRow e f (meets (omega (arith, ints)))
  piece_rows s t (inr (inr (inr (inr (inl e))))) (inr (inl f)) = subst₂ IsClosedRow e f (meets (omega (arith, ints)))
  piece_rows s t (inr (inr (inr (inr (inl e))))) (inr (inr (inl f))) = subst₂ IsClosedRow e f (meets (omega (arith, ints)))
  piece_rows s t (inr (inr (inr (inr (inl e))))) (inr (inr (inr (inl f)))) = subst₂ IsClosedRow e f (meets (omega (arith, ints)))
  piece_rows s t (inr (inr (inr (inr (inl e))))) (inr (inr (inr (inr (inl f))))) = subst₂ IsClosedRow e f (meets (omega (arith, ints)))
  piece_rows s t (inr (inr (inr (inr (inr m))))) n = absurd m
  piece_rows s t (inl e) (inr (inr (inr (inr (inr m))))) = absurd m
  piece_rows s t (inr (inl e)) (inr (inr (inr (inr (inr m))))) = absurd m
  piece_rows s t (inr (inr (inl e))) (inr (inr (inr (inr (inr m))))) = absurd m
  piece_rows s t (inr (inr (inr (inl e)))) (inr (inr (inr (inr (inr m))))) = absurd m
  piece_rows s t (inr (inr (inr (inr (inl e))))) (inr (inr (inr (inr (inr m))))) = absurd m

  piece_columns : (s t : Rect) → Member one s → Member one t → IsClosedColumn one s t
  piece_columns s t (inl e) (inl f) = subst₂ (IsClosedColumn one) e f
      (joins (omega (arith, ints)))
  piece_columns s t (inl e) (inr (inl f)) = subst₂ (IsClosedColumn one) e f
      (aside (inl (omega (arith, ints))))
  piece_columns s t (inl e) (inr (inr (inl f))) = subst₂ (IsClosedColumn one) e f
      (aside (inl (omega (arith, ints))))
  piece_columns s t (inl e) (inr (inr (inr (inl f)))) = subst₂ (IsClosedColumn one) e f
      (aside (inl (omega (arith, ints))))
  piece_columns s t (inl e) (inr (inr (inr (inr (inl f))))) = subst₂ (IsClosedColumn one) e f
      (aside (inl (omega (arith, ints))))
  piece_columns s t (inr (inl e)) (inl f) = subst₂ (IsClosedColumn one) e f
      (aside (inr (omega (arith, ints))))
  piece_columns s t (inr (inl e)) (inr (inl f)) = subst₂ (IsClosedColumn one) e f
      (joins (omega (arith, ints)))
  piece_columns s t (inr (inl e)) (inr (inr (inl f))) = subst₂ (IsClosedColumn one) e f
      (aside (inl (omega (arith, ints))))
  piece_columns s t (inr (inl e)) (inr (inr (inr (inl f)))) = subst₂ (IsClosedColumn one) e f
      (aside (inl (omega (arith, ints))))
  piece_columns s t (inr (inl e)) (inr (inr (inr (inr (inl f))))) = subst₂ (IsClosedColumn one) e f
      (aside (inl (omega (arith, ints))))
  piece_columns s t (inr (inr (inl e))) (inl f) = subst₂ (IsClosedColumn one) e f
      (aside (inr (omega (arith, ints))))
  piece_columns s t (inr (inr (inl e))) (inr (inl f)) = subst₂ (IsClosedColumn one) e f
      (aside (inr (omega (arith, ints))))
  piece_columns s t (inr (inr (inl e))) (inr (inr (inl f))) = subst₂ (IsClosedColumn one) e f
      (joins (omega (arith, ints)))
  piece_columns s t (inr (inr (inl e))) (inr (inr (inr (inl f)))) = subst₂ (IsClosedColumn one) e f
      (joins (omega (arith, ints)))
  piece_columns s t (inr (inr (inl e))) (inr (inr (inr (inr (inl f))))) = subst₂ (IsClosedColumn one) e f
      (filled across (inr (inr (inr (inl refl)))) (record {
        layer = refl;
        low = omega (arith, ints);
        high = omega (arith, ints);
        from = inr (omega (arith, ints));
        to = inl (omega (arith, ints));
      }))
  piece_columns s t (inr (inr (inr (inl e)))) (inl f) = subst₂ (IsClosedColumn one) e f
      (aside (inr (omega (arith, ints))))
  piece_columns s t (inr (inr (inr (inl e)))) (inr (inl f)) = subst₂ (IsClosedColumn one) e f
      (aside (inr (omega (arith, ints))))
  piece_columns s t (inr (inr (inr (inl e)))) (inr (inr (inl f))) = subst₂ (IsClosedColumn one) e f
      (joins (omega (arith, ints)))
  piece_columns s t (inr (inr (inr (inl e)))) (inr (inr (inr (inl f)))) = subst₂ (IsClosedColumn one) e f
      (joins (omega (arith, ints)))
  piece_columns s t (inr (inr (inr (inl e)))) (inr (inr (inr (inr (inl f))))) = subst₂ (IsClosedColumn one) e f
      (joins (omega (arith, ints)))
  piece_columns s t (inr (inr (inr (inr (inl e))))) (inl f) = subst₂ (IsClosedColumn one) e f
      (aside (inr (omega (arith, ints))))
  piece_columns s t (inr (inr (inr (inr (inl e))))) (inr (inl f)) = subst₂ (IsClosedColumn one) e f
      (aside (inr (omega (arith, ints))))
  piece_columns s t (inr (inr (inr (inr (inl e))))) (inr (inr (inl f))) = subst₂ (IsClosedColumn one) e f
      (filled across (inr (inr (inr (inl refl)))) (record {
        layer = refl;
        low = omega (arith, ints);
        high = omega (arith, ints);
        from = inl (omega (arith, ints));
        to = inr (omega (arith, ints));
      }))
  piece_columns s t (inr (inr (inr (inr (inl e))))) (inr (inr (inr (inl f)))) = subst₂ (IsClosedColumn one) e f
      (joins (omega (arith, ints)))
  piece_columns s t (inr (inr (inr (inr (inl e))))) (inr (inr (inr (inr (inl f))))) = subst₂ (IsClosedColumn one) e f
      (joins (omega (arith, ints)))
  piece_columns s t (inr (inr (inr (inr (inr m))))) n = absurd m
  piece_columns s t (inl e) (inr (inr (inr (inr (inr m))))) = absurd m
  piece_columns s t (inr (inl e)) (inr (inr (inr (inr (inr m))))) = absurd m
  piece_columns s t (inr (inr (inl e))) (inr (inr (inr (inr (inr m))))) = absurd m
  piece_columns s t (inr (inr (inr (inl e)))) (inr (inr (inr (inr (inr m))))) = absurd m
  piece_columns s t (inr (inr (inr (inr (inl e))))) (inr (inr (inr (inr (inr m))))) = absurd m

abbrev by_test : ℕ → ℕ → ℤ → Bool → List Rect
by_test p j row b =
    pad_rect p j ∷ stub_rect p j ∷ cond b (bent (west p 0) p j (stub_at j) row row (stub_at j))
    (bent (west p 0) p (p - 1 - j) (stub_at j) row (stub_at j) row)

abbrev AreClosed : List Rect → Type 0
AreClosed rs = (s t : Rect) → Member rs s → Member rs t → IsClosedRow s t × IsClosedColumn rs s t

piece_closed : (p j : ℕ) (row : ℤ) → j < p → AreClosed (piece p j row)
piece_closed p j row h = elim (test row (stub_at j)) [
  | inl t ↦ subst (λ b. AreClosed (by_test p j row b)) (sym t.0)
      (let a = t.1 in λ s q m n. (
        piece_rows p j j row row (stub_at j) h a (omega (arith, ints)) (omega (arith, ints)) a s q m n,
        piece_columns p j j row row (stub_at j) h a (omega (arith, ints)) (omega (arith, ints)) a s q m n,
      ))
  | inr t ↦ subst (λ b. AreClosed (by_test p j row b)) (sym t.0)
      (let a = t.1 in λ s q m n. (
        piece_rows p j (p - 1 - j) row (stub_at j) row (omega (arith, h)) (omega (arith, ints)) (omega (arith, ints))
            (omega (arith, ints)) (omega (arith, ints)) s q m n,
        piece_columns p j (p - 1 - j) row (stub_at j) row (omega (arith, h)) (omega (arith, ints)) (omega (arith, ints))
            (omega (arith, ints)) (omega (arith, ints)) s q m n,
      ))
]

-- what of a piece comes near to the ports' edge, its last rectangle, is at its own port
pub data Reaches (row : ℤ) (s : Rect) : Type 0 where
  short : (s.x1 +ℤ pos 1500) ≤ℤ pos 0 → Reaches row s
  port : s.x1 ≡ pos 0 → s.y0 ≡ pos 500 *ℤ row → s.y1 ≡ pos 500 *ℤ (row +ℤ pos 4) → Reaches row s

-- at least three lambda wide and high
pub record IsThick (row : ℤ) (s : Rect) : Type 0 where
  pub layer : s.layer ≡ NM
  pub wide : (s.x0 +ℤ pos 1500) ≤ℤ s.x1
  pub high : (s.y0 +ℤ pos 1500) ≤ℤ s.y1
  pub reaches : Reaches row s

module _ (p j k : ℕ) (r low high : ℤ) (in_lanes : k < p) (rises : low ≤ℤ high) where
  thick : (s : Rect) → Member (pad_rect p j ∷ stub_rect p j ∷ bent (west p 0) p k (stub_at j) r low high) s → IsThick r s
  thick s (inl e) = subst (IsThick r) e (record {
    layer = refl;
    wide = omega (arith, ints);
    high = omega (arith, ints);
    reaches = short (omega (arith, ints));
  })
  thick s (inr (inl e)) = subst (IsThick r) e (record {
    layer = refl;
    wide = omega (arith, ints);
    high = omega (arith, ints);
    reaches = short (omega (arith, ints));
  })
  thick s (inr (inr (inl e))) = subst (IsThick r) e (record {
    layer = refl;
    wide = omega (arith, ints);
    high = omega (arith, ints);
    reaches = short (omega (arith, ints));
  })
  thick s (inr (inr (inr (inl e)))) = subst (IsThick r) e (record {
    layer = refl;
    wide = omega (arith, ints);
    high = omega (arith, ints);
    reaches = short (omega (arith, ints));
  })
  thick s (inr (inr (inr (inr (inl e))))) = subst (IsThick r) e (record {
    layer = refl;
    wide = omega (arith, ints);
    high = omega (arith, ints);
    reaches = port (omega (arith, ints)) refl refl;
  })
  thick s (inr (inr (inr (inr (inr m))))) = absurd m

pub piece_thick : (p j : ℕ) (row : ℤ) → j < p → (s : Rect) → Member (piece p j row) s → IsThick row s
piece_thick p j row h s = elim (test row (stub_at j)) [
  | inl t ↦ subst (λ b. Member (by_test p j row b) s → IsThick row s) (sym t.0)
      (thick p j j row row (stub_at j) h t.1 s)
  | inr t ↦ subst (λ b. Member (by_test p j row b) s → IsThick row s) (sym t.0)
      (let a = t.1 in thick p j (p - 1 - j) row (stub_at j) row (omega (arith, h)) (omega (arith, ints)) s)
]

-- ---- all pieces

pub in_more : (rs qs : List Rect) → ((v : Rect) → Member rs v → Member qs v) → (s t : Rect) → IsClosedColumn rs s t
    → IsClosedColumn qs s t
in_more rs qs sub s t (over h) = over h
in_more rs qs sub s t (joins h) = joins h
in_more rs qs sub s t (under h) = under h
in_more rs qs sub s t (aside h) = aside h
in_more rs qs sub s t (filled v m f) = filled v (sub v m) f

turned : (s t : Rect) → IsBeyond s t → IsBeyond t s
turned s t (inl h) = inr (inl h)
turned s t (inr (inl h)) = inl h
turned s t (inr (inr (inl h))) = inr (inr (inr h))
turned s t (inr (inr (inr h))) = inr (inr (inl h))

module _ (wishes : List PadWish) (framed : Framed) (are : AreFramed wishes framed) where
  abbrev all : List Rect
  all = flat_map (piece_of wishes) (range_with_len 0 (length wishes))

  beyond_closed : (s t : Rect) → IsBeyond s t → IsClosedRow s t × IsClosedColumn all s t
  beyond_closed s t h = (spaced_rows s t h, spaced_columns all s t h)

  pub all_closed : (s t : Rect) → Member all s → Member all t → IsClosedRow s t × IsClosedColumn all s t
  all_closed s t m n =
      let u = member_flat (piece_of wishes) (range_with_len 0 (length wishes)) s m in
      let v = member_flat (piece_of wishes) (range_with_len 0 (length wishes)) t n in
      let ul = (range_members 0 (length wishes) u.0 u.1).1 in
      let vl = (range_members 0 (length wishes) v.0 v.1).1 in
      elim (cases_eq u.0 v.0) [
        | inl e ↦ (let w = piece_closed (length wishes) u.0 (row_at wishes u.0) (omega (arith, ul)) s t u.2
            (subst (λ z. Member (piece_of wishes z) t) (sym e) v.2) in (
              w.0,
              in_more (piece_of wishes u.0) all
                  (λ x k. flat_member (piece_of wishes) (range_with_len 0 (length wishes)) u.0 x u.1 k) s t w.1,
            ))
        | inr ne ↦ elim (cases_lt u.0 v.0) [
          | inl lt ↦ beyond_closed s t (are.spaced u.0 v.0 lt (omega (arith, vl)) s t
              (member_contains (piece_of wishes u.0) s u.2) (member_contains (piece_of wishes v.0) t v.2))
          | inr le ↦ beyond_closed s t (turned t s (are.spaced v.0 u.0 (omega (arith, le, ne)) (omega (arith, ul)) t s
              (member_contains (piece_of wishes v.0) t v.2) (member_contains (piece_of wishes u.0) s u.2)))
        ]
      ]

  pub all_thick : (s : Rect) → Member all s → (j : ℕ) × (j < length wishes) × IsThick (row_at wishes j) s
      × Member (piece_of wishes j) s
  all_thick s m =
      let u = member_flat (piece_of wishes) (range_with_len 0 (length wishes)) s m in
      let l : u.0 < length wishes = (let r = (range_members 0 (length wishes) u.0 u.1).1 in omega (arith, r)) in
      (u.0, l, piece_thick (length wishes) u.0 (row_at wishes u.0) l s u.2, u.2)
