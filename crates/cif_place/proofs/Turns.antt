-- Laws of the turns of a call.
use Rattle.std.proofs.Common.{ℕ, ◌≡◌, ◌+◌, ◌≤◌, inl, inr, refl, sym, ◌∙◌, ap, subst, arith, true, false, List, []}
use Rattle.std.proofs.Common.{◌∷◌, ◌++◌, append_assoc, append-nil}
use Rattle.std.specs.Prelude.{ℤ, pos, ◌*ℤ◌, ◌<ℤ◌, Contains}
use Rattle.std.proofs.lemmas.Int.{ints}
use Rattle.std.proofs.lemmas.List.Elements.{Contains-append_left, Contains-append_right, Contains-append_cases}
use Rattle.mp_base.proofs.Contents.{is_only_one, contains_one, nothing_in}
use Rattle.lam_geom.specs.declared.place.Point.{Point}
use Rattle.lam_geom.specs.declared.rect.Rect.{Rect}
use Rattle.lam_geom.specs.Moves.{IsNear, far}
use Rattle.cif_form.specs.declared.command.Turn.{Turn}
use Rattle.cif_form.specs.declared.command.Turn.TheVariants.{Move, MirrorX, MirrorY, Rotate}
use Rattle.cif_form.specs.Place.{Scale, IsScaled, IsOnAxis, Motion, moved, placed, IsMotion, AreMotions}
use Rattle.cif_form.specs.Place.Motion.{Shift, NegateX, NegateY, Quarter}
use Rattle.cif_form.specs.Walk.{IsWholePoint, IsFarPoint}
use Rattle.cif_form.proofs.OnePlace.{one_scaled, same_rect}
use Rattle.cif_place.specs.declared.placement.Placement.{Placement}
use Rattle.cif_place.specs.declared.turned.Turned.{Turned}
use Rattle.cif_place.specs.declared.turned.Turned.TheVariants.{Askew, Uneven, Far, Placed}
use Rattle.cif_place.specs.Placing.{place_of, after, IsHeld}
use Rattle.cif_place.specs.Turning.{Has, HasAskew, HasUneven, HasFar, AreTurns, IsTurned, IsHeldTurned, joined, IsMoved}
use Rattle.cif_place.specs.Turning.{turn_of}
use Rattle.cif_place.proofs.Numbers.{within_more}
use Rattle.cif_place.proofs.Placements.{place_after, held_after}

-- ---- one turn

pub still : (r : Rect) → placed [] r ≡ place_of (turn_of false false false) r
still r =
    same_rect _ _ _ _ _ _ _ _ _ _ refl (omega (arith, ints)) (omega (arith, ints)) (omega (arith, ints))
    (omega (arith, ints))

quarter : (r : Rect) → placed (Quarter ∷ []) r ≡ place_of (turn_of true true false) r
unfolding moved
quarter r =
    same_rect _ _ _ _ _ _ _ _ _ _ refl (omega (arith, ints)) (omega (arith, ints)) (omega (arith, ints))
    (omega (arith, ints))

half : (r : Rect) → placed (Quarter ∷ Quarter ∷ []) r ≡ place_of (turn_of false true true) r
unfolding moved
half r =
    same_rect _ _ _ _ _ _ _ _ _ _ refl (omega (arith, ints)) (omega (arith, ints)) (omega (arith, ints))
    (omega (arith, ints))

three_quarters : (r : Rect) → placed (Quarter ∷ Quarter ∷ Quarter ∷ []) r ≡ place_of (turn_of true false true) r
unfolding moved
three_quarters r =
    same_rect _ _ _ _ _ _ _ _ _ _ refl (omega (arith, ints)) (omega (arith, ints)) (omega (arith, ints))
    (omega (arith, ints))

negate_x : (r : Rect) → placed (NegateX ∷ []) r ≡ place_of (turn_of false true false) r
unfolding moved
negate_x r =
    same_rect _ _ _ _ _ _ _ _ _ _ refl (omega (arith, ints)) (omega (arith, ints)) (omega (arith, ints))
    (omega (arith, ints))

negate_y : (r : Rect) → placed (NegateY ∷ []) r ≡ place_of (turn_of false false true) r
unfolding moved
negate_y r =
    same_rect _ _ _ _ _ _ _ _ _ _ refl (omega (arith, ints)) (omega (arith, ints)) (omega (arith, ints))
    (omega (arith, ints))

abbrev shift : ℤ → ℤ → Placement
shift dx dy = record { swaps = false; flips_x = false; flips_y = false; dx = dx; dy = dy }

shift_by : (dx dy : ℤ) (r : Rect) → placed (Shift dx dy ∷ []) r ≡ place_of (shift dx dy) r
unfolding moved
shift_by dx dy r =
    same_rect _ _ _ _ _ _ _ _ _ _ refl (omega (arith, ints)) (omega (arith, ints)) (omega (arith, ints))
    (omega (arith, ints))

are_turns : (s : Scale) (t : Turn) (p : Placement) (ms : List Motion) → IsMotion s t ms
    → ((r : Rect) → placed ms r ≡ place_of p r) → AreTurns s (t ∷ []) p
are_turns s t p ms m e = (ms, (ms, [], sym (append-nil ms), m, refl), e)

abbrev IsNoMove : Turn → Type 0
IsNoMove t = (p : Point) → Move p ≡ t → ⊥

no_move : (t : Turn) (P : Point → Type 0) → IsNoMove t → Has Move P (t ∷ []) → ⊥
no_move t P n (p, c, h) = n p (is_only_one t (Move p) c)

rotate_turned : (s : Scale) (to : Point) (p : Placement) (ms : List Motion) → IsOnAxis to → IsMotion s (Rotate to) ms
    → ((r : Rect) → placed ms r ≡ place_of p r)
    → IsTurned s (Rotate to ∷ []) (Placed p)
rotate_turned s to p ms a m e = (
  (λ (q, c, n). let k : Rotate q ≡ Rotate to = is_only_one (Rotate to) (Rotate q) c in let l : q ≡ to = cc in
      n (subst IsOnAxis (sym l) a)),
  no_move (Rotate to) _ (λ q k. cc),
  no_move (Rotate to) _ (λ q k. cc),
  are_turns s (Rotate to) p ms m e,
)

mirrored : (s : Scale) (t : Turn) (p : Placement) (ms : List Motion) → IsNoMove t → ((q : Point) → Rotate q ≡ t → ⊥)
    → IsMotion s t ms
    → ((r : Rect) → placed ms r ≡ place_of p r) → IsTurned s (t ∷ []) (Placed p)
mirrored s t p ms n k m e =
    ((λ (q, c, i). k q (is_only_one t (Rotate q) c)), no_move t _ n, no_move t _ n, are_turns s t p ms m e)

pub mirror_x_turned : (s : Scale) → IsTurned s (MirrorX ∷ []) (Placed (turn_of false true false))
mirror_x_turned s = mirrored s MirrorX (turn_of false true false) (NegateX ∷ []) (λ q k. cc) (λ q k. cc) refl negate_x

pub mirror_y_turned : (s : Scale) → IsTurned s (MirrorY ∷ []) (Placed (turn_of false false true))
mirror_y_turned s = mirrored s MirrorY (turn_of false false true) (NegateY ∷ []) (λ q k. cc) (λ q k. cc) refl negate_y

pub east : (s : Scale) (to : Point) → to.y ≡ pos 0 → pos 0 <ℤ to.x
    → IsTurned s (Rotate to ∷ []) (Placed (turn_of false false false))
east s to h k =
    rotate_turned s to (turn_of false false false) [] (inl (h, λ e. omega (arith, ints))) (inl (h, k, refl)) still

pub west : (s : Scale) (to : Point) → to.y ≡ pos 0 → to.x <ℤ pos 0
    → IsTurned s (Rotate to ∷ []) (Placed (turn_of false true true))
west s to h k =
    rotate_turned s to (turn_of false true true) (Quarter ∷ Quarter ∷ []) (inl (h, λ e. omega (arith, ints)))
    (inr (inr (inl (h, k, refl)))) half

pub north : (s : Scale) (to : Point) → to.x ≡ pos 0 → pos 0 <ℤ to.y
    → IsTurned s (Rotate to ∷ []) (Placed (turn_of true true false))
north s to h k =
    rotate_turned s to (turn_of true true false) (Quarter ∷ []) (inr (h, λ e. omega (arith, ints)))
    (inr (inl (h, k, refl))) quarter

pub south : (s : Scale) (to : Point) → to.x ≡ pos 0 → to.y <ℤ pos 0
    → IsTurned s (Rotate to ∷ []) (Placed (turn_of true false true))
south s to h k =
    rotate_turned s to (turn_of true false true) (Quarter ∷ Quarter ∷ Quarter ∷ []) (inr (h, λ e. omega (arith, ints)))
    (inr (inr (inr (h, k, refl)))) three_quarters

pub askew : (s : Scale) (to : Point) → ¬ IsOnAxis to → IsTurned s (Rotate to ∷ []) Askew
askew s to h = (to, contains_one (Rotate to), h)

no_rotation : (by : Point) → HasAskew (Move by ∷ []) → ⊥
no_rotation by (q, c, n) = let k : Rotate q ≡ Move by = is_only_one (Move by) (Rotate q) c in cc

pub uneven : (s : Scale) (by : Point) → ¬ IsWholePoint s by → IsTurned s (Move by ∷ []) Uneven
uneven s by h = (no_rotation by, (by, contains_one (Move by), h))

the_move : (by q : Point) → Contains (Move by ∷ []) (Move q) → q ≡ by
the_move by q c = let k : Move q ≡ Move by = is_only_one (Move by) (Move q) c in cc

even : (s : Scale) (by : Point) → IsWholePoint s by → HasUneven s (Move by ∷ []) → ⊥
even s by h (q, c, n) = n (subst (IsWholePoint s) (sym (the_move by q c)) h)

pub moved_turned : (s : Scale) (by : Point) (dx dy : ℤ) (t : Turned) → IsScaled s (pos 2 *ℤ by.x) dx
    → IsScaled s (pos 2 *ℤ by.y) dy → IsMoved dx dy t
    → IsTurned s (Move by ∷ []) t × IsHeldTurned far t
moved_turned s by dx dy Far hx hy (inl far) =
    ((no_rotation by, even s by ((dx, hx), (dy, hy)), (by, contains_one (Move by), (dx, inl hx, far))), tt)
moved_turned s by dx dy Far hx hy (inr far) =
    ((no_rotation by, even s by ((dx, hx), (dy, hy)), (by, contains_one (Move by), (dy, inr hy, far))), tt)
moved_turned s by dx dy (Placed p) hx hy (e, nx, ny) = (
  (
    no_rotation by,
    even s by ((dx, hx), (dy, hy)),
    near,
    subst (AreTurns s (Move by ∷ [])) (sym e)
        (are_turns s (Move by) (shift dx dy) (Shift dx dy ∷ []) (dx, dy, hx, hy, refl) (shift_by dx dy)),
  ),
  subst (IsHeld far) (sym e) (nx, ny),
)
  where
    near : HasFar s (Move by ∷ []) → ⊥
    near (q, c, (z, inl k, far)) =
        far (subst IsNear
        (one_scaled s (pos 2 *ℤ by.x) dx z hx (subst (λ o. IsScaled s (pos 2 *ℤ o.x) z) (the_move by q c) k)) nx)
    near (q, c, (z, inr k, far)) =
        far (subst IsNear
        (one_scaled s (pos 2 *ℤ by.y) dy z hy (subst (λ o. IsScaled s (pos 2 *ℤ o.y) z) (the_move by q c) k)) ny)
moved_turned s by dx dy Askew hx hy h = absurd h
moved_turned s by dx dy Uneven hx hy h = absurd h

-- ---- turns, and then others

has_left : (kind : Point → Turn) (P : Point → Type 0) (ts us : List Turn) → Has kind P ts → Has kind P (ts ++ us)
has_left kind P ts us (p, c, h) = (p, Contains-append_left ts us (kind p) c, h)

has_right : (kind : Point → Turn) (P : Point → Type 0) (ts us : List Turn) → Has kind P us → Has kind P (ts ++ us)
has_right kind P ts us (p, c, h) = (p, Contains-append_right ts us (kind p) c, h)

has_none : (kind : Point → Turn) (P : Point → Type 0) (ts us : List Turn) → ¬ Has kind P ts → ¬ Has kind P us
    → ¬ Has kind P (ts ++ us)
has_none kind P ts us h k (p, c, i) =
    elim (Contains-append_cases ts us (kind p) c) [ inl a ↦ h (p, a, i) | inr b ↦ k (p, b, i) ]

motions_append : (s : Scale) (ts us : List Turn) (ms ns : List Motion) → AreMotions s ts ms → AreMotions s us ns
    → AreMotions s (ts ++ us) (ms ++ ns)
motions_append s [] us ms ns h k = subst (λ l. AreMotions s us (l ++ ns)) (sym h) k
motions_append s (t ∷ ts) us ms ns (front, rest, e, m, r) k =
    (front, rest ++ ns, ap (λ l. l ++ ns) e ∙ append_assoc front rest ns, m, motions_append s ts us rest ns r k)

placed_append : (ms ns : List Motion) (r : Rect) → placed (ms ++ ns) r ≡ placed ns (placed ms r)
placed_append [] ns r = refl
placed_append (m ∷ ms) ns r = placed_append ms ns (moved m r)

turns_append : (s : Scale) (ts us : List Turn) (p q : Placement) → AreTurns s ts p → AreTurns s us q
    → AreTurns s (ts ++ us) (after q p)
turns_append s ts us p q (ms, m, e) (ns, n, f) = (
  ms ++ ns,
  motions_append s ts us ms ns m n,
  λ r. placed_append ms ns r ∙ ap (placed ns) (e r) ∙ f (place_of p r)
      ∙ sym (place_after q p r),
)

module _ (s : Scale) (ts us : List Turn) where
  askew_left : HasAskew ts → HasAskew (ts ++ us)
  askew_left h = has_left Rotate (λ p. ¬ IsOnAxis p) ts us h

  askew_right : HasAskew us → HasAskew (ts ++ us)
  askew_right h = has_right Rotate (λ p. ¬ IsOnAxis p) ts us h

  no_askew : ¬ HasAskew ts → ¬ HasAskew us → ¬ HasAskew (ts ++ us)
  no_askew h k = has_none Rotate (λ p. ¬ IsOnAxis p) ts us h k

  uneven_left : HasUneven s ts → HasUneven s (ts ++ us)
  uneven_left h = has_left Move (λ p. ¬ IsWholePoint s p) ts us h

  uneven_right : HasUneven s us → HasUneven s (ts ++ us)
  uneven_right h = has_right Move (λ p. ¬ IsWholePoint s p) ts us h

  no_uneven : ¬ HasUneven s ts → ¬ HasUneven s us → ¬ HasUneven s (ts ++ us)
  no_uneven h k = has_none Move (λ p. ¬ IsWholePoint s p) ts us h k

  far_left : HasFar s ts → HasFar s (ts ++ us)
  far_left h = has_left Move (IsFarPoint s) ts us h

  far_right : HasFar s us → HasFar s (ts ++ us)
  far_right h = has_right Move (IsFarPoint s) ts us h

  no_far : ¬ HasFar s ts → ¬ HasFar s us → ¬ HasFar s (ts ++ us)
  no_far h k = has_none Move (IsFarPoint s) ts us h k

  pub joined_turned : (a b : Turned) → IsTurned s ts a → IsTurned s us b → IsTurned s (ts ++ us) (joined a b)
  joined_turned Askew b h k = askew_left h
  joined_turned Uneven Askew h k = askew_right k
  joined_turned Uneven Uneven h k = (no_askew h.0 k.0, uneven_left h.1)
  joined_turned Uneven Far h k = (no_askew h.0 k.0, uneven_left h.1)
  joined_turned Uneven (Placed q) h k = (no_askew h.0 k.0, uneven_left h.1)
  joined_turned Far Askew h k = askew_right k
  joined_turned Far Uneven h k = (no_askew h.0 k.0, uneven_right k.1)
  joined_turned Far Far h k = (no_askew h.0 k.0, no_uneven h.1 k.1, far_left h.2)
  joined_turned Far (Placed q) h k = (no_askew h.0 k.0, no_uneven h.1 k.1, far_left h.2)
  joined_turned (Placed p) Askew h k = askew_right k
  joined_turned (Placed p) Uneven h k = (no_askew h.0 k.0, uneven_right k.1)
  joined_turned (Placed p) Far h k = (no_askew h.0 k.0, no_uneven h.1 k.1, far_right k.2)
  joined_turned (Placed p) (Placed q) h k =
      (no_askew h.0 k.0, no_uneven h.1 k.1, no_far h.2 k.2, turns_append s ts us p q h.3 k.3)

pub held_joined : (m n : ℕ) (a b : Turned) → IsHeldTurned m a → IsHeldTurned n b → IsHeldTurned (n + m) (joined a b)
held_joined m n Askew b h k = tt
held_joined m n Uneven Askew h k = tt
held_joined m n Uneven Uneven h k = tt
held_joined m n Uneven Far h k = tt
held_joined m n Uneven (Placed q) h k = tt
held_joined m n Far Askew h k = tt
held_joined m n Far Uneven h k = tt
held_joined m n Far Far h k = tt
held_joined m n Far (Placed q) h k = tt
held_joined m n (Placed p) Askew h k = tt
held_joined m n (Placed p) Uneven h k = tt
held_joined m n (Placed p) Far h k = tt
held_joined m n (Placed p) (Placed q) h k = held_after n m q p k h

pub no_turns : (s : Scale) → IsTurned s [] (Placed (turn_of false false false))
no_turns s =
    ((λ (p, c, h). nothing_in _ c), (λ (p, c, h). nothing_in _ c), (λ (p, c, h). nothing_in _ c), ([], refl, still))

pub held_more : (m n : ℕ) (t : Turned) → m ≤ n → IsHeldTurned m t → IsHeldTurned n t
held_more m n Askew l h = tt
held_more m n Uneven l h = tt
held_more m n Far l h = tt
held_more m n (Placed p) l h = (within_more m n p.dx l h.0, within_more m n p.dy l h.1)
