-- The squares of one rectangle are joined.
use Rattle.std.proofs.Common.{ℕ, zero, suc, ◌≡◌, ◌+◌, ◌-◌, inl, inr, refl, subst, arith}
use Rattle.std.specs.Prelude.{ℤ, pos, negsuc, ◌+ℤ◌, ◌≤ℤ◌}
use Rattle.std.proofs.lemmas.Int.{ints, by_lt_z}
use Rattle.lam_geom.specs.declared.layer.Layer.{Layer}
use Rattle.lam_geom.specs.declared.rect.Rect.{Rect}
use Rattle.lam_geom.specs.Chains.{Chain}
use Rattle.lam_geom.specs.Chains.Chain.{here, link}
use Rattle.lam_geom.specs.Squares.{Square, Adjoin, IsIn}
use Rattle.lam_geom.proofs.Chains.{join_chains, turn_chain}
use Rattle.lam_geom.proofs.Adjoins.{adjoin_flip}

square : Layer → ℤ → ℤ → Square
square l x y = record { layer = l; x = x; y = y }

distance : (x x' : ℤ) → x ≤ℤ x' → (n : ℕ) × (x' ≡ x +ℤ pos n)
distance (pos a) (pos b) h = (b - a, omega (arith, ints))
distance (pos a) (negsuc b) h = (0, absurd (omega (arith, ints)))
distance (negsuc a) (pos b) h = (b + a + 1, omega (arith, ints))
distance (negsuc a) (negsuc b) h = (a - b, omega (arith, ints))

abbrev at : Rect → ℤ → ℤ → Square
at r x y = record { layer = r.layer; x = x; y = y }

abbrev Joined : Rect → Square → Square → Type 0
Joined r = Chain (Adjoin (IsIn r))

to_right : (r : Rect) (y : ℤ) (n : ℕ) (x x' : ℤ) → x' ≡ x +ℤ pos n → IsIn r (at r x y) → IsIn r (at r x' y)
    → Joined r (at r x y) (at r x' y)
to_right r y zero x x' e h k =
    let same : x ≡ x' = omega (arith, ints) in
    subst (λ z. Joined r (at r x y) (at r z y)) same here
to_right r y (suc n) x x' e h k =
    let a = h.left in
    let b = k.right in
    let m : IsIn r (at r (x +ℤ pos 1) y) =
    record { same = refl; left = omega (arith, ints); right = omega (arith, ints); bottom = h.bottom; top = h.top } in
    link (record { from = h; to = m; same = refl; beside = inl (refl, inl refl) })
    (to_right r y n (x +ℤ pos 1) x' (omega (arith, ints)) m k)

upward : (r : Rect) (x : ℤ) (n : ℕ) (y y' : ℤ) → y' ≡ y +ℤ pos n → IsIn r (at r x y) → IsIn r (at r x y')
    → Joined r (at r x y) (at r x y')
upward r x zero y y' e h k =
    let same : y ≡ y' = omega (arith, ints) in
    subst (λ z. Joined r (at r x y) (at r x z)) same here
upward r x (suc n) y y' e h k =
    let a = h.bottom in
    let b = k.top in
    let m : IsIn r (at r x (y +ℤ pos 1)) =
    record { same = refl; left = h.left; right = h.right; bottom = omega (arith, ints); top = omega (arith, ints) } in
    link (record { from = h; to = m; same = refl; beside = inr (refl, inl refl) })
    (upward r x n (y +ℤ pos 1) y' (omega (arith, ints)) m k)

along_x : (r : Rect) (x x' y : ℤ) → IsIn r (at r x y) → IsIn r (at r x' y) → Joined r (at r x y) (at r x' y)
along_x r x x' y h k = by_lt_z x' x
    (λ l. let d = distance x' x (omega (arith, ints)) in
    turn_chain (adjoin_flip (IsIn r)) (to_right r y d.0 x' x d.1 k h))
    (λ l. let d = distance x x' l in to_right r y d.0 x x' d.1 h k)

along_y : (r : Rect) (x y y' : ℤ) → IsIn r (at r x y) → IsIn r (at r x y') → Joined r (at r x y) (at r x y')
along_y r x y y' h k = by_lt_z y' y
    (λ l. let d = distance y' y (omega (arith, ints)) in
    turn_chain (adjoin_flip (IsIn r)) (upward r x d.0 y' y d.1 k h))
    (λ l. let d = distance y y' l in upward r x d.0 y y' d.1 h k)

-- over the corner in the row of the one and the column of the other
on_layer : (r : Rect) (x y x' y' : ℤ) → IsIn r (at r x y) → IsIn r (at r x' y') → Joined r (at r x y) (at r x' y')
on_layer r x y x' y' h k =
    let m : IsIn r (at r x' y) =
    record { same = refl; left = k.left; right = k.right; bottom = h.bottom; top = h.top } in
    join_chains (along_x r x x' y h m) (along_y r x' y y' m k)

pub rectangles_joined : (r : Rect) (s t : Square) → IsIn r s → IsIn r t → Chain (Adjoin (IsIn r)) s t
rectangles_joined r s t h k =
    let place : Layer → Square → Square = λ l u. record { layer = l; x = u.x; y = u.y } in
    let move : (u : Square) → IsIn r u → IsIn r (at r u.x u.y) =
    λ u i. record { same = refl; left = i.left; right = i.right; bottom = i.bottom; top = i.top } in
    let back : Joined r (place s.layer s) (place t.layer t) =
    subst (λ l. Joined r (place l s) (place t.layer t)) h.same
    (subst (λ l. Joined r (place r.layer s) (place l t)) k.same (on_layer r s.x s.y t.x t.y (move s h) (move t k))) in
    back
