-- Pads with their stubs and routes are connected pieces, lie apart, and reach their ports.
use Rattle.std.proofs.Common.{◌≡◌, ◌⊎◌, ◌<◌, ◌≤◌, ◌+◌, ◌-◌, ◌*◌, ℕ, zero, suc, inl, inr, refl, sym, subst, subst₂, arith}
use Rattle.std.proofs.Common.{List, [], ◌∷◌, ◌++◌, length, map, get_or, Bool, true, false, cond}
use Rattle.std.specs.Prelude.{ℤ, pos, ◌+ℤ◌, ◌-ℤ◌, ◌*ℤ◌, ◌≤ℤ◌, ◌<ℤ◌, int_le, flat_map, AllPairs}
use Rattle.std.specs.List.{range_with_len}
use Rattle.std.proofs.lemmas.Int.{ints}
use Rattle.lam_geom.specs.declared.layer.Layer.TheVariants.{NM}
use Rattle.lam_geom.specs.declared.rect.Rect.{Rect}
use Rattle.lam_geom.specs.Squares.{Square, Covers, covered, RectanglesAreJoined}
use Rattle.metal_pieces.specs.Pieces.{metal, IsOf, IsConnected, IsBeyond, AreSpaced}
use Rattle.metal_pieces.proofs.Connected.{Meets, more_connected}
use Rattle.metal_pieces.proofs.Apart.{AllBeyond, EachBeyond, more_spaced, spaced_more, spaced_far}
use Rattle.metal_pieces.proofs.Apart.AllBeyond.{none, more}
use Rattle.metal_pieces.proofs.Apart.EachBeyond.{no_more, and}
use Rattle.river_route.specs.Routes.{bent, route_rects}
use Rattle.river_route.proofs.Routing.{test, bent_connected, fall_far, rise_far, over_far}
use Rattle.pad_frame.specs.declared.frames.PadWish.{PadWish}
use Rattle.pad_frame.specs.declared.frames.Framed.{Framed}
use Rattle.pad_frame.specs.Frames.{west, pad_rect, stub_at, stub_rect, piece, row_at, piece_of, spot_of}
use Rattle.pad_frame.specs.Frames.{no_wish, AreWishes, IsWithin, ReachesPort, AreFramed}

-- ---- one pad, with a route in whatever lane
module _ (joined : RectanglesAreJoined) (p j k : ℕ) (r low high : ℤ) (in_lanes : k < p) where
  abbrev routed : List Rect
  routed = bent (west p 0) p k (stub_at j) r low high

  routed_connected : low ≤ℤ stub_at j → stub_at j ≤ℤ high → low ≤ℤ r → r ≤ℤ high
      → IsConnected (pad_rect p j ∷ stub_rect p j ∷ routed)
  routed_connected a b c d =
      more_connected joined (pad_rect p j) (stub_rect p j) routed
      (record {
        s = record { layer = NM; x = (pos 500 *ℤ west p 10) -ℤ pos 1; y = pos 500 *ℤ stub_at j };
        t = record { layer = NM; x = pos 500 *ℤ west p 10; y = pos 500 *ℤ stub_at j };
        in_first = record {
          same = refl;
          left = omega (arith, ints);
          right = omega (arith, ints);
          bottom = omega (arith, ints);
          top = omega (arith, ints);
        };
        in_second = record {
          same = refl;
          left = omega (arith, ints);
          right = omega (arith, ints);
          bottom = omega (arith, ints);
          top = omega (arith, ints);
        };
        near = (refl, inr (inl (refl, inl (omega (arith, ints)))));
      })
      (more_connected joined (stub_rect p j)
      (metal (west p 0) (stub_at j) (west p 0 +ℤ pos (7 * k + 4)) (stub_at j +ℤ pos 4))
      (metal (west p 0 +ℤ pos (7 * k)) low (west p 0 +ℤ pos (7 * k + 4)) (high +ℤ pos 4)
      ∷ metal (west p 0 +ℤ pos (7 * k)) r (west p 0 +ℤ pos (7 * p)) (r +ℤ pos 4) ∷ [])
      (record {
        s = record { layer = NM; x = (pos 500 *ℤ west p 0) -ℤ pos 1; y = pos 500 *ℤ stub_at j };
        t = record { layer = NM; x = pos 500 *ℤ west p 0; y = pos 500 *ℤ stub_at j };
        in_first = record {
          same = refl;
          left = omega (arith, ints);
          right = omega (arith, ints);
          bottom = omega (arith, ints);
          top = omega (arith, ints);
        };
        in_second = record {
          same = refl;
          left = omega (arith, ints);
          right = omega (arith, ints);
          bottom = omega (arith, ints);
          top = omega (arith, ints);
        };
        near = (refl, inr (inl (refl, inl (omega (arith, ints)))));
      })
      (bent_connected joined (west p 0) p k (stub_at j) r low high in_lanes a b c d))

  routed_port : ReachesPort (pad_rect p j ∷ stub_rect p j ∷ routed) r
  routed_port = record {
    at_port = λ y a b. inr (inr (inr (inr (inl (record {
      same = refl;
      left = omega (arith, ints);
      right = omega (arith, ints);
      bottom = a;
      top = b;
    })))));
    only = reaches;
  }
    where
      reaches : (s : Square) → IsOf (pad_rect p j ∷ stub_rect p j ∷ routed) s → (s.layer ≡ NM) × (s.x <ℤ pos 0)
          × ((s.x ≡ pos 0 -ℤ pos 1) → ((pos 500 *ℤ r) ≤ℤ s.y) × (s.y <ℤ (pos 500 *ℤ (r +ℤ pos 4))))
      reaches s (inl i) = let i1 = i.right in
          (sym i.same, omega (arith, ints), λ e. absurd (omega (arith, ints)))
      reaches s (inr (inl i)) = let i1 = i.right in
          (sym i.same, omega (arith, ints), λ e. absurd (omega (arith, ints)))
      reaches s (inr (inr (inl i))) = let i1 = i.right in
          (sym i.same, omega (arith, ints), λ e. absurd (omega (arith, ints)))
      reaches s (inr (inr (inr (inl i)))) = let i1 = i.right in
          (sym i.same, omega (arith, ints), λ e. absurd (omega (arith, ints)))
      reaches s (inr (inr (inr (inr (inl i))))) = let i1 = i.right in
          (sym i.same, omega (arith, ints), λ e. (i.bottom, i.top))
      reaches s (inr (inr (inr (inr (inr i))))) = absurd i

  routed_within : (stub_at j ≤ℤ low) ⊎ (r ≤ℤ low) → (high ≤ℤ stub_at j) ⊎ (high ≤ℤ r) → (s : Square)
      → IsOf (pad_rect p j ∷ stub_rect p j ∷ routed) s → IsWithin p j r s
  routed_within a b s (inl i) =
      let i0 = i.left in let i2 = i.bottom in let i3 = i.top in
      record { left = omega (arith, ints); bottom = inl (omega (arith, ints)); top = inl (omega (arith, ints)) }
  routed_within a b s (inr (inl i)) =
      let i0 = i.left in let i2 = i.bottom in let i3 = i.top in
      record { left = omega (arith, ints); bottom = inl (omega (arith, ints)); top = inl (omega (arith, ints)) }
  routed_within a b s (inr (inr (inl i))) =
      let i0 = i.left in let i2 = i.bottom in let i3 = i.top in
      record { left = omega (arith, ints); bottom = inl (omega (arith, ints)); top = inl (omega (arith, ints)) }
  routed_within a b s (inr (inr (inr (inl i)))) =
      let i0 = i.left in let i2 = i.bottom in let i3 = i.top in
      record {
        left = omega (arith, ints);
        bottom = elim a [ inl c ↦ inl (omega (arith, ints)) | inr c ↦ inr (omega (arith, ints)) ];
        top = elim b [ inl c ↦ inl (omega (arith, ints)) | inr c ↦ inr (omega (arith, ints)) ];
      }
  routed_within a b s (inr (inr (inr (inr (inl i))))) =
      let i0 = i.left in
      record { left = omega (arith, ints); bottom = inr i.bottom; top = inr i.top }
  routed_within a b s (inr (inr (inr (inr (inr i))))) = absurd i

-- ---- two pads
module _ (p i j : ℕ) (h : i < j) where
  -- what is beside a stub's route is beside the stub and the pad
  both_far : (rs qs : List Rect) → AllBeyond (pad_rect p i) qs → AllBeyond (stub_rect p i) qs
      → EachBeyond (pad_rect p j) rs → EachBeyond (stub_rect p j) rs → AreSpaced rs qs
      → AreSpaced (pad_rect p i ∷ stub_rect p i ∷ rs) (pad_rect p j ∷ stub_rect p j ∷ qs)
  both_far rs qs a b c d far =
      more_spaced (pad_rect p i) (stub_rect p i ∷ rs) (pad_rect p j ∷ stub_rect p j ∷ qs)
      (more (inr (inr (inl (omega (arith, ints))))) (more (inr (inr (inl (omega (arith, ints))))) a))
      (more_spaced (stub_rect p i) rs (pad_rect p j ∷ stub_rect p j ∷ qs)
      (more (inr (inr (inl (omega (arith, ints))))) (more (inr (inr (inl (omega (arith, ints))))) b))
      (spaced_more (pad_rect p j) rs (stub_rect p j ∷ qs) c (spaced_more (stub_rect p j) rs qs d far)))

  pad_beyond : (k : ℕ) (l r low high : ℤ) → AllBeyond (pad_rect p i) (bent (west p 0) p k l r low high)
  pad_beyond k l r low high =
      more (inl (omega (arith, ints))) (more (inl (omega (arith, ints))) (more (inl (omega (arith, ints))) none))

  beyond_pad : (k : ℕ) (l r low high : ℤ) → EachBeyond (pad_rect p j) (bent (west p 0) p k l r low high)
  beyond_pad k l r low high =
      and (inr (inl (omega (arith, ints)))) (and (inr (inl (omega (arith, ints))))
      (and (inr (inl (omega (arith, ints)))) no_more))

  falls : (r s : ℤ) → r ≤ℤ stub_at i → s ≤ℤ stub_at j → (r +ℤ pos 7) ≤ℤ s
      → AreSpaced (pad_rect p i ∷ stub_rect p i ∷ bent (west p 0) p i (stub_at i) r r (stub_at i))
      (pad_rect p j ∷ stub_rect p j ∷ bent (west p 0) p j (stub_at j) s s (stub_at j))
  falls r s a b c =
      both_far _ _ (pad_beyond j (stub_at j) s s (stub_at j))
      (more (inr (inr (inl (omega (arith, ints))))) (more (inl (omega (arith, ints)))
      (more (inl (omega (arith, ints))) none)))
      (beyond_pad i (stub_at i) r r (stub_at i))
      (and (inr (inr (inl (omega (arith, ints))))) (and (inr (inr (inl (omega (arith, ints)))))
      (and (inr (inr (inl (omega (arith, ints))))) no_more)))
      (fall_far (west p 0) p i j (stub_at i) r (stub_at j) s h a b (omega (arith, ints)) c)

  rises : (k m : ℕ) (r s : ℤ) → m < k → stub_at i <ℤ r → stub_at j <ℤ s → (r +ℤ pos 7) ≤ℤ s
      → AreSpaced (pad_rect p i ∷ stub_rect p i ∷ bent (west p 0) p k (stub_at i) r (stub_at i) r)
      (pad_rect p j ∷ stub_rect p j ∷ bent (west p 0) p m (stub_at j) s (stub_at j) s)
  rises k m r s g a b c =
      both_far _ _ (pad_beyond m (stub_at j) s (stub_at j) s)
      (more (inr (inr (inl (omega (arith, ints))))) (more (inr (inr (inl (omega (arith, ints)))))
      (more (inr (inr (inl (omega (arith, ints))))) none)))
      (beyond_pad k (stub_at i) r (stub_at i) r)
      (and (inr (inr (inl (omega (arith, ints))))) (and (inr (inl (omega (arith, ints))))
      (and (inr (inl (omega (arith, ints)))) no_more)))
      (rise_far (west p 0) p k m (stub_at i) r (stub_at j) s g a b (omega (arith, ints)) c)

  over : (k m : ℕ) (r low high s bottom top : ℤ) → stub_at i ≤ℤ high → r ≤ℤ high → bottom ≤ℤ stub_at j → bottom ≤ℤ s
      → (high +ℤ pos 7) ≤ℤ bottom
      → AreSpaced (pad_rect p i ∷ stub_rect p i ∷ bent (west p 0) p k (stub_at i) r low high)
      (pad_rect p j ∷ stub_rect p j ∷ bent (west p 0) p m (stub_at j) s bottom top)
  over k m r low high s bottom top a b c d e =
      both_far _ _ (pad_beyond m (stub_at j) s bottom top)
      (more (inr (inr (inl (omega (arith, ints))))) (more (inr (inr (inl (omega (arith, ints)))))
      (more (inr (inr (inl (omega (arith, ints))))) none)))
      (beyond_pad k (stub_at i) r low high)
      (and (inr (inr (inl (omega (arith, ints))))) (and (inr (inr (inl (omega (arith, ints)))))
      (and (inr (inr (inl (omega (arith, ints))))) no_more)))
      (over_far (west p 0) p k m (stub_at i) r low high (stub_at j) s bottom top a b c d e)

-- ---- by whether a route rises

abbrev by_test : ℕ → ℕ → ℤ → Bool → List Rect
by_test p j row b =
    pad_rect p j ∷ stub_rect p j ∷ cond b (bent (west p 0) p j (stub_at j) row row (stub_at j))
    (bent (west p 0) p (p - 1 - j) (stub_at j) row (stub_at j) row)

piece_connected : RectanglesAreJoined → (p j : ℕ) (row : ℤ) → j < p → IsConnected (piece p j row)
piece_connected joined p j row h = elim (test row (stub_at j)) [
  | inl t ↦ subst (λ b. IsConnected (by_test p j row b)) (sym t.0)
      (let a = t.1 in routed_connected joined p j j row row (stub_at j) h a (omega (arith, ints)) (omega (arith, ints)) a)
  | inr t ↦ subst (λ b. IsConnected (by_test p j row b)) (sym t.0)
      (let a = t.1 in routed_connected joined p j (p - 1 - j) row (stub_at j) row (omega (arith, h)) (omega (arith, ints))
      (omega (arith, ints)) (omega (arith, ints)) (omega (arith, ints)))
]

piece_port : RectanglesAreJoined → (p j : ℕ) (row : ℤ) → j < p → ReachesPort (piece p j row) row
piece_port joined p j row h = elim (test row (stub_at j)) [
  | inl t ↦ subst (λ b. ReachesPort (by_test p j row b) row) (sym t.0)
      (routed_port joined p j j row row (stub_at j) h)
  | inr t ↦ subst (λ b. ReachesPort (by_test p j row b) row) (sym t.0)
      (routed_port joined p j (p - 1 - j) row (stub_at j) row (omega (arith, h)))
]

piece_within : RectanglesAreJoined → (p j : ℕ) (row : ℤ) → j < p → (s : Square) → IsOf (piece p j row) s
    → IsWithin p j row s
piece_within joined p j row h s = elim (test row (stub_at j)) [
  | inl t ↦ subst (λ b. IsOf (by_test p j row b) s → IsWithin p j row s) (sym t.0)
      (let a = t.1 in routed_within joined p j j row row (stub_at j) h (inr (omega (arith, ints)))
      (inl (omega (arith, ints))) s)
  | inr t ↦ subst (λ b. IsOf (by_test p j row b) s → IsWithin p j row s) (sym t.0)
      (let a = t.1 in routed_within joined p j (p - 1 - j) row (stub_at j) row (omega (arith, h))
      (inl (omega (arith, ints))) (inr (omega (arith, ints))) s)
]

pieces_far : (p i j : ℕ) (r s : ℤ) → i < j → j < p → (r +ℤ pos 7) ≤ℤ s → AreSpaced (piece p i r) (piece p j s)
pieces_far p i j r s h k c = go (test r (stub_at i)) (test s (stub_at j))
  where
    at : (a b : Bool) → int_le r (stub_at i) ≡ a → int_le s (stub_at j) ≡ b
        → AreSpaced (by_test p i r a) (by_test p j s b) → AreSpaced (piece p i r) (piece p j s)
    at a b e f far = subst₂ (λ x y. AreSpaced (by_test p i r x) (by_test p j s y)) (sym e) (sym f) far

    go : (int_le r (stub_at i) ≡ true) × (r ≤ℤ stub_at i) ⊎ (int_le r (stub_at i) ≡ false) × (stub_at i <ℤ r)
        → (int_le s (stub_at j) ≡ true) × (s ≤ℤ stub_at j) ⊎ (int_le s (stub_at j) ≡ false) × (stub_at j <ℤ s)
        → AreSpaced (piece p i r) (piece p j s)
    go (inl (e, a)) (inl (f, b)) = at true true e f (falls p i j h r s a b c)
    go (inl (e, a)) (inr (f, b)) = at true false e f
        (over p i j h i (p - 1 - j) r r (stub_at i) s (stub_at j) s (omega (arith, ints)) a (omega (arith, ints))
        (omega (arith, ints)) (omega (arith, ints)))
    go (inr (e, a)) (inl (f, b)) = at false true e f
        (over p i j h (p - 1 - i) j r (stub_at i) r s s (stub_at j) (omega (arith, ints)) (omega (arith, ints)) b
        (omega (arith, ints)) c)
    go (inr (e, a)) (inr (f, b)) = at false false e f
        (rises p i j h (p - 1 - i) (p - 1 - j) r s (omega (arith, h, k)) a b c)

-- A frame of wishes whose rows rise.
pub frames_hold : RectanglesAreJoined → (wishes : List PadWish) → AreWishes wishes → (framed : Framed)
    → framed.shape ≡ flat_map (piece_of wishes) (range_with_len 0 (length wishes))
    → framed.spots ≡ map (spot_of wishes) (range_with_len 0 (length wishes)) → AreFramed wishes framed
frames_hold joined wishes are framed e spots = record {
  drawn = e;
  spots = spots;
  labelled = λ j h. inl (record {
    same = refl;
    left = omega (arith, ints);
    right = omega (arith, ints);
    bottom = omega (arith, ints);
    top = omega (arith, ints);
  });
  connected = λ j h. piece_connected joined (length wishes) j (row_at wishes j) h;
  apart = λ i j h k. spaced_far (piece_of wishes i) (piece_of wishes j) (spaced i j h k);
  spaced = spaced;
  within = λ j s h i. piece_within joined (length wishes) j (row_at wishes j) h s i;
  port = λ j h. piece_port joined (length wishes) j (row_at wishes j) h;
}
  where
    spaced : (i j : ℕ) → i < j → j < length wishes → AreSpaced (piece_of wishes i) (piece_of wishes j)
    spaced i j h k = pieces_far (length wishes) i j (row_at wishes i) (row_at wishes j) h k
        (are.rising i j no_wish h k)
