-- No diffusion, polysilicon or metal of a fabric is too close, and no polysilicon is next to unrelated diffusion.
use Rattle.std.proofs.Common.{ℕ, ◌≡◌, ◌+◌, ◌*◌, ◌-◌, ◌<◌, ◌≤◌, inl, inr, refl, subst, arith, true}
use Rattle.std.specs.Prelude.{ℤ, pos, neg_ℤ, ◌+ℤ◌}
use Rattle.std.proofs.lemmas.Int.{ints}
use Rattle.std.proofs.lemmas.Bool.{cases_eq, cases_lt}
use Rattle.lam_geom.specs.declared.layer.Layer.{Layer}
use Rattle.lam_geom.specs.declared.layer.Layer.TheVariants.{ND, NP, NM}
use Rattle.lam_geom.specs.Squares.{covered}
use Rattle.fabric.specs.Plan.{Plan, IsFabric}
use Rattle.fabric.specs.Shape.{shape}
use Rattle.lam_geom.specs.Rules.{Way, against, to_x, to_y, At, IsInGap, IsTight, IsNear, IsUnrelated}
use Rattle.lam_geom.specs.Rules.Way.{right, left, up, down}
use Rattle.fabric_laws.proofs.RuleTables.{all_far, diffusion_far, polysilicon_far, metal_far, unrelated_far, related_far}
use Rattle.fabric_laws.proofs.Gaps.{no_gap_across, no_gap_up}

-- the square no further that way is the square itself
still : (w : Way) (on : ℤ → ℤ → Type 0) (x y : ℤ) → At on w x y 0 → on x y
still right on x y h = subst (λ z. on z y) (omega (arith, ints)) h
still left on x y h = subst (λ z. on z y) (omega (arith, ints)) h
still up on x y h = subst (λ z. on x z) (omega (arith, ints)) h
still down on x y h = subst (λ z. on x z) (omega (arith, ints)) h

some_back : (w : Way) (on : ℤ → ℤ → Type 0) (size : ℕ) (x y : ℤ) (i : IsInGap on w size x y) → 1 ≤ i.back
some_back w on size x y i = elim (cases_eq i.back 0) [
  | inl e ↦ absurd (i.open_ (still (against w) on x y (subst (λ n. At on (against w) x y n) e i.back_end)))
  | inr n ↦ omega arith
]

some_ahead : (w : Way) (on : ℤ → ℤ → Type 0) (size : ℕ) (x y : ℤ) (i : IsInGap on w size x y) → 1 ≤ i.ahead
some_ahead w on size x y i = elim (cases_eq i.ahead 0) [
  | inl e ↦ absurd (i.open_ (still w on x y (subst (λ n. At on w x y n) e i.ahead_end)))
  | inr n ↦ omega arith
]

module _ (f : Plan) (w : IsFabric f) where
  not_tight : (l : Layer) (n : ℕ) → all_far l l 1 n ≡ true → n ≤ 3 → (x y : ℤ)
      → ¬ IsTight (covered (shape f) l) (500 * n) x y
  not_tight l n far few x y (inl i) =
      let b = some_back right (covered (shape f) l) (500 * n) x y i in
      let a = some_ahead right (covered (shape f) l) (500 * n) x y i in
      let s = i.short in
      no_gap_across f w l l 1 n far (x +ℤ neg_ℤ (pos i.back)) y (x +ℤ pos i.ahead) (x +ℤ neg_ℤ (pos (i.back - 1)))
      (x +ℤ pos (i.ahead - 1)) (i.back + i.ahead - 1) (omega (arith, ints)) (omega (arith, ints)) (omega (arith, ints))
      (omega arith) (omega arith) (omega arith) (omega arith) i.back_end (i.back_open (i.back - 1) (omega arith))
      i.ahead_end (i.ahead_open (i.ahead - 1) (omega arith))
  not_tight l n far few x y (inr i) =
      let b = some_back up (covered (shape f) l) (500 * n) x y i in
      let a = some_ahead up (covered (shape f) l) (500 * n) x y i in
      let s = i.short in
      no_gap_up f w l l 1 n far x (y +ℤ neg_ℤ (pos i.back)) (y +ℤ pos i.ahead) (y +ℤ neg_ℤ (pos (i.back - 1)))
      (y +ℤ pos (i.ahead - 1)) (i.back + i.ahead - 1) (omega (arith, ints)) (omega (arith, ints)) (omega (arith, ints))
      (omega arith) (omega arith) (omega arith) (omega arith) i.back_end (i.back_open (i.back - 1) (omega arith))
      i.ahead_end (i.ahead_open (i.ahead - 1) (omega arith))

  pub diffusion_is_apart : (x y : ℤ) → ¬ IsTight (covered (shape f) ND) 1500 x y
  diffusion_is_apart x y i = not_tight ND 3 diffusion_far (omega arith) x y i

  pub polysilicon_is_apart : (x y : ℤ) → ¬ IsTight (covered (shape f) NP) 1000 x y
  polysilicon_is_apart x y i = not_tight NP 2 polysilicon_far (omega arith) x y i

  pub metal_is_apart : (x y : ℤ) → ¬ IsTight (covered (shape f) NM) 1500 x y
  metal_is_apart x y i = not_tight NM 3 metal_far (omega arith) x y i

  -- the squares next to both ends of what lies between
  first_clear : (z : Way) (x y : ℤ) (n : IsNear (covered (shape f)) z x y) → ¬ At (covered (shape f) NP) z x y 1
  first_clear z x y n = elim (cases_eq n.between 0) [
    | inl e ↦ (λ h. n.bare (subst (λ k. At (covered (shape f) NP) z x y (k + 1)) (e0 e) h))
    | inr m ↦ (n.clear 1 (omega arith) (omega arith)).0
  ]
    where
      e0 : n.between ≡ 0 → 0 ≡ n.between
      e0 e = omega arith

  last_clear : (z : Way) (x y : ℤ) → ¬ covered (shape f) ND x y → (n : IsNear (covered (shape f)) z x y)
      → ¬ At (covered (shape f) ND) z x y n.between
  last_clear z x y b n = elim (cases_eq n.between 0) [
    | inl e ↦ (λ h. b (still z (covered (shape f) ND) x y (subst (λ k. At (covered (shape f) ND) z x y k) e h)))
    | inr m ↦ (n.clear n.between (omega arith) (omega arith)).1
  ]

  pub is_related : (x y : ℤ) → ¬ IsUnrelated (covered (shape f)) x y
  is_related x y u = go u.way u.near
    where
      go : (z : Way) → IsNear (covered (shape f)) z x y → ⊥
      go right n =
          let s = n.few in
          no_gap_across f w NP ND 0 1 unrelated_far x y (x +ℤ pos (n.between + 1)) (x +ℤ pos 1) (x +ℤ pos n.between)
          n.between (omega (arith, ints)) (omega (arith, ints)) (omega (arith, ints)) (omega arith) (omega arith)
          (omega arith) (omega arith) u.polysilicon (first_clear right x y n) n.diffusion
          (last_clear right x y u.bare n)
      go left n =
          let s = n.few in
          no_gap_across f w ND NP 0 1 related_far (x +ℤ neg_ℤ (pos (n.between + 1))) y x
          (x +ℤ neg_ℤ (pos n.between)) (x +ℤ neg_ℤ (pos 1))
          n.between (omega (arith, ints)) (omega (arith, ints)) (omega (arith, ints)) (omega arith) (omega arith)
          (omega arith) (omega arith) n.diffusion (last_clear left x y u.bare n) u.polysilicon
          (first_clear left x y n)
      go up n =
          let s = n.few in
          no_gap_up f w NP ND 0 1 unrelated_far x y (y +ℤ pos (n.between + 1)) (y +ℤ pos 1) (y +ℤ pos n.between)
          n.between (omega (arith, ints)) (omega (arith, ints)) (omega (arith, ints)) (omega arith) (omega arith)
          (omega arith) (omega arith) u.polysilicon (first_clear up x y n) n.diffusion
          (last_clear up x y u.bare n)
      go down n =
          let s = n.few in
          no_gap_up f w ND NP 0 1 related_far x (y +ℤ neg_ℤ (pos (n.between + 1))) y
          (y +ℤ neg_ℤ (pos n.between)) (y +ℤ neg_ℤ (pos 1))
          n.between (omega (arith, ints)) (omega (arith, ints)) (omega (arith, ints)) (omega arith) (omega arith)
          (omega arith) (omega arith) n.diffusion (last_clear down x y u.bare n) u.polysilicon
          (first_clear down x y n)
