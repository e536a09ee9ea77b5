-- Routes of ends that rise are connected, and lie apart.
use Rattle.std.proofs.Common.{◌≡◌, ◌⊎◌, ◌<◌, ◌≤◌, ◌+◌, ◌-◌, ◌*◌, ℕ, suc, inl, inr, refl, sym, subst, subst₂, arith}
use Rattle.std.proofs.Common.{List, [], ◌∷◌, ◌++◌, length, get_or, Bool, true, false, cond}
use Rattle.std.specs.Prelude.{ℤ, pos, ◌+ℤ◌, ◌*ℤ◌, ◌≤ℤ◌, ◌<ℤ◌, int_le, flat_map}
use Rattle.std.specs.List.{range_with_len}
use Rattle.std.proofs.lemmas.Int.{ints, by_lt_z}
use Rattle.mp_base.proofs.Members.{range_members, range_has}
use Rattle.lam_geom.specs.declared.layer.Layer.TheVariants.{NM}
use Rattle.lam_geom.specs.declared.rect.Rect.{Rect}
use Rattle.lam_geom.specs.Squares.{Square, RectanglesAreJoined, covered}
use Rattle.metal_pieces.specs.Pieces.{metal, IsConnected, IsBeyond, AreSpaced}
use Rattle.metal_pieces.proofs.Connected.{Meets, one_connected, more_connected}
use Rattle.metal_pieces.proofs.Apart.{none_spaced, more_spaced, spaced_far}
use Rattle.metal_pieces.proofs.Apart.AllBeyond.{none, more}
use Rattle.metal_pieces.proofs.Covering.{covered_flat, flat_covered}
use Rattle.river_route.specs.Routes.{bent, route_rects, Ends, nowhere, route_of, Rises, AreEnds, AreRoutes}

-- a square of metal whose corner is given in lambda
abbrev spot : ℤ → ℤ → Square
spot x y = record { layer = NM; x = pos 500 *ℤ x; y = pos 500 *ℤ y }

pub bent_connected : RectanglesAreJoined → (left : ℤ) (n k : ℕ) (l r low high : ℤ) → k < n → low ≤ℤ l → l ≤ℤ high
    → low ≤ℤ r → r ≤ℤ high → IsConnected (bent left n k l r low high)
bent_connected joined left n k l r low high h a b c d =
    more_connected joined (metal left l (left +ℤ pos (7 * k + 4)) (l +ℤ pos 4)) across (over ∷ [])
    (record {
      s = spot (left +ℤ pos (7 * k)) l;
      t = spot (left +ℤ pos (7 * k)) l;
      in_first = record {
        same = refl;
        left = omega (arith, ints);
        right = omega (arith, ints);
        bottom = omega (arith, ints);
        top = omega (arith, ints);
      };
      in_second = record {
        same = refl;
        left = omega (arith, ints);
        right = omega (arith, ints);
        bottom = omega (arith, ints);
        top = omega (arith, ints);
      };
      near = (refl, inl (refl, refl));
    })
    (more_connected joined across over []
    (record {
      s = spot (left +ℤ pos (7 * k)) r;
      t = spot (left +ℤ pos (7 * k)) r;
      in_first = record {
        same = refl;
        left = omega (arith, ints);
        right = omega (arith, ints);
        bottom = omega (arith, ints);
        top = omega (arith, ints);
      };
      in_second = record {
        same = refl;
        left = omega (arith, ints);
        right = omega (arith, ints);
        bottom = omega (arith, ints);
        top = omega (arith, ints);
      };
      near = (refl, inl (refl, refl));
    })
    (one_connected joined over))
  where
    across : Rect
    across = metal (left +ℤ pos (7 * k)) low (left +ℤ pos (7 * k + 4)) (high +ℤ pos 4)

    over : Rect
    over = metal (left +ℤ pos (7 * k)) r (left +ℤ pos (7 * n)) (r +ℤ pos 4)

-- ---- two nets

three_far : (a b c d e f : Rect) → IsBeyond a d → IsBeyond a e → IsBeyond a f → IsBeyond b d → IsBeyond b e
    → IsBeyond b f → IsBeyond c d → IsBeyond c e → IsBeyond c f → AreSpaced (a ∷ b ∷ c ∷ []) (d ∷ e ∷ f ∷ [])
three_far a b c d e f ad ae af bd be bf cd ce cf =
    more_spaced a (b ∷ c ∷ []) (d ∷ e ∷ f ∷ []) (more ad (more ae (more af none)))
    (more_spaced b (c ∷ []) (d ∷ e ∷ f ∷ []) (more bd (more be (more bf none)))
    (more_spaced c [] (d ∷ e ∷ f ∷ []) (more cd (more ce (more cf none))) (none_spaced (d ∷ e ∷ f ∷ []))))

-- nets in lanes one after another, neither of which rises
pub fall_far : (left : ℤ) (n i j : ℕ) (l r m s : ℤ) → i < j → r ≤ℤ l → s ≤ℤ m → (l +ℤ pos 7) ≤ℤ m → (r +ℤ pos 7) ≤ℤ s
    → AreSpaced (bent left n i l r r l) (bent left n j m s s m)
fall_far left n i j l r m s h a b c d =
    three_far _ _ _ _ _ _ (inr (inr (inl (omega (arith, ints))))) (inl (omega (arith, ints)))
    (inl (omega (arith, ints)))
    (inr (inr (inl (omega (arith, ints))))) (inl (omega (arith, ints))) (inl (omega (arith, ints)))
    (inr (inr (inl (omega (arith, ints))))) (inr (inr (inl (omega (arith, ints)))))
    (inr (inr (inl (omega (arith, ints)))))

-- both of which rise
pub rise_far : (left : ℤ) (n i j : ℕ) (l r m s : ℤ) → j < i → l <ℤ r → m <ℤ s → (l +ℤ pos 7) ≤ℤ m → (r +ℤ pos 7) ≤ℤ s
    → AreSpaced (bent left n i l r l r) (bent left n j m s m s)
rise_far left n i j l r m s h a b c d =
    three_far _ _ _ _ _ _ (inr (inr (inl (omega (arith, ints))))) (inr (inr (inl (omega (arith, ints)))))
    (inr (inr (inl (omega (arith, ints)))))
    (inr (inl (omega (arith, ints)))) (inr (inl (omega (arith, ints)))) (inr (inr (inl (omega (arith, ints)))))
    (inr (inl (omega (arith, ints)))) (inr (inl (omega (arith, ints)))) (inr (inr (inl (omega (arith, ints)))))

-- nets of which the one is wholly below the other
pub over_far : (left : ℤ) (n i j : ℕ) (l r low high m s bottom top : ℤ) → l ≤ℤ high → r ≤ℤ high → bottom ≤ℤ m → bottom ≤ℤ s
    → (high +ℤ pos 7) ≤ℤ bottom → AreSpaced (bent left n i l r low high) (bent left n j m s bottom top)
over_far left n i j l r low high m s bottom top a b c d e =
    three_far _ _ _ _ _ _ (inr (inr (inl (omega (arith, ints))))) (inr (inr (inl (omega (arith, ints)))))
    (inr (inr (inl (omega (arith, ints)))))
    (inr (inr (inl (omega (arith, ints))))) (inr (inr (inl (omega (arith, ints)))))
    (inr (inr (inl (omega (arith, ints)))))
    (inr (inr (inl (omega (arith, ints))))) (inr (inr (inl (omega (arith, ints)))))
    (inr (inr (inl (omega (arith, ints)))))

-- ---- by whether a net rises

pub test : (m z : ℤ) → (int_le m z ≡ true) × (m ≤ℤ z) ⊎ (int_le m z ≡ false) × (z <ℤ m)
test m z = by_lt_z z m (λ l. inr (grind (arith, ints), l)) (λ l. inl (grind (arith, ints), l))

route_connected : RectanglesAreJoined → (left : ℤ) (n j : ℕ) (l r : ℤ) → j < n → IsConnected (route_rects left n j l r)
route_connected joined left n j l r h = go (test r l)
  where
    go : (int_le r l ≡ true) × (r ≤ℤ l) ⊎ (int_le r l ≡ false) × (l <ℤ r) → IsConnected (route_rects left n j l r)
    go (inl (e, a)) =
        subst (λ b. IsConnected (cond b (bent left n j l r r l) (bent left n (n - 1 - j) l r l r))) (sym e)
        (bent_connected joined left n j l r r l h a (omega (arith, ints)) (omega (arith, ints)) a)
    go (inr (e, a)) =
        subst (λ b. IsConnected (cond b (bent left n j l r r l) (bent left n (n - 1 - j) l r l r))) (sym e)
        (bent_connected joined left n (n - 1 - j) l r l r (omega (arith, h)) (omega (arith, ints)) (omega (arith, ints))
        (omega (arith, ints)) (omega (arith, ints)))

routes_far : (left : ℤ) (n i j : ℕ) (l r m s : ℤ) → i < j → j < n → (l +ℤ pos 7) ≤ℤ m → (r +ℤ pos 7) ≤ℤ s
    → AreSpaced (route_rects left n i l r) (route_rects left n j m s)
routes_far left n i j l r m s h k c d = go (test r l) (test s m)
  where
    first : Bool → List Rect
    first b = cond b (bent left n i l r r l) (bent left n (n - 1 - i) l r l r)

    second : Bool → List Rect
    second b = cond b (bent left n j m s s m) (bent left n (n - 1 - j) m s m s)

    at : (a b : Bool) → int_le r l ≡ a → int_le s m ≡ b → AreSpaced (first a) (second b)
        → AreSpaced (route_rects left n i l r) (route_rects left n j m s)
    at a b e f far = subst₂ (λ p q. AreSpaced (first p) (second q)) (sym e) (sym f) far

    go : (int_le r l ≡ true) × (r ≤ℤ l) ⊎ (int_le r l ≡ false) × (l <ℤ r)
        → (int_le s m ≡ true) × (s ≤ℤ m) ⊎ (int_le s m ≡ false) × (m <ℤ s)
        → AreSpaced (route_rects left n i l r) (route_rects left n j m s)
    go (inl (e, a)) (inl (f, b)) = at true true e f (fall_far left n i j l r m s h a b c d)
    go (inl (e, a)) (inr (f, b)) = at true false e f
        (over_far left n i (n - 1 - j) l r r l m s m s (omega (arith, ints)) a (omega (arith, ints)) (omega (arith, ints)) c)
    go (inr (e, a)) (inl (f, b)) = at false true e f
        (over_far left n (n - 1 - i) j l r l r m s s m (omega (arith, ints)) (omega (arith, ints)) b (omega (arith, ints)) d)
    go (inr (e, a)) (inr (f, b)) = at false false e f
        (rise_far left n (n - 1 - i) (n - 1 - j) l r m s (omega (arith, h, k)) a b c d)

-- Routes of ends that rise, each connected, and no two of them at one another.
pub routes_hold : RectanglesAreJoined → (left : ℤ) (ends : List Ends) → AreEnds ends → (shape : List Rect)
    → shape ≡ flat_map (route_of left ends) (range_with_len 0 (length ends)) → AreRoutes left ends shape
routes_hold joined left ends are shape e = record {
  squares = λ l x y. (
    λ h. (let w = covered_flat (route_of left ends) (range_with_len 0 (length ends)) l x y
        (subst (λ z. covered z l x y) e h) in
        let i = (range_members 0 (length ends) w.0 w.1).1 in
        (w.0, omega (arith, i), w.2)),
    λ w. subst (λ z. covered z l x y) (sym e)
        (flat_covered (route_of left ends) (range_with_len 0 (length ends)) w.0 l x y
        (range_has 0 (length ends) w.0 (omega arith) (let i = w.1 in omega (arith, i))) w.2),
  );
  connected = λ j h. route_connected joined left (length ends) j (get_or ends j nowhere).0 (get_or ends j nowhere).1 h;
  apart = λ i j h k. spaced_far (route_of left ends i) (route_of left ends j) (spaced i j h k);
  spaced = spaced;
}
  where
    spaced : (i j : ℕ) → i < j → j < length ends → AreSpaced (route_of left ends i) (route_of left ends j)
    spaced i j h k =
        let a = are.rising i j nowhere h k in
        routes_far left (length ends) i j (get_or ends i nowhere).0 (get_or ends i nowhere).1 (get_or ends j nowhere).0
        (get_or ends j nowhere).1 h k a.0 a.1
