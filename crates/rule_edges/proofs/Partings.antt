-- Polysilicon and diffusion on the lambda grid, of which neither ends where the other begins.
use Rattle.std.proofs.Common.{ℕ, ◌≡◌, ◌+◌, ◌<◌, inl, inr, sym, subst, arith, List}
use Rattle.std.specs.Prelude.{All, ℤ, pos, neg_ℤ, ◌+ℤ◌}
use Rattle.std.proofs.lemmas.Bool.{cases_lt}
use Rattle.std.proofs.lemmas.Int.{ints}
use Rattle.std.proofs.lemmas.List.Elements.{All-contains}
use Rattle.lam_geom.specs.declared.layer.Layer.{Layer}
use Rattle.lam_geom.specs.declared.layer.Layer.TheVariants.{ND, NP}
use Rattle.lam_geom.specs.declared.rect.Rect.{Rect}
use Rattle.lam_geom.specs.Moves.{IsNearRect}
use Rattle.lam_geom.specs.Rules.{IsUnrelated}
use Rattle.lam_geom.specs.Rules as rules
use Rattle.lam_geom.specs.Rules.Way.{right, left, up, down}
use Rattle.lam_geom.specs.Squares.{covered}
use Rattle.rule_edges.specs.declared.along.Along.{Along}
use Rattle.rule_edges.specs.declared.along.Along.TheVariants.{Rows, Columns}
use Rattle.rule_edges.specs.Edges.{AreApart, AreParted, Faces, FitsIn, facing, laid}
use Rattle.rule_edges.proofs.Spaces.{begins_at, ends_at, gap_on_grid, rect_at, seen}

module _ (shapes : List Rect) (near : All IsNearRect shapes) (diffusion : All (FitsIn ND) shapes)
    (polysilicon : All (FitsIn NP) shapes) where
  fits : (l : Layer) → (l ≡ ND) → All (FitsIn l) shapes
  fits l e = subst (λ z. All (FitsIn z) shapes) (sym e) diffusion

  -- layers on the grid of which the one doesn't end where the other begins, nor nearer than a lambda
  meeting : (along : Along) (from to : Layer) (x y : ℤ) (gap : ℕ) → All (FitsIn from) shapes
      → All (FitsIn to) shapes → AreApart (facing from to 0 along) shapes → gap < 500
      → seen along (covered shapes from) x y → (¬ seen along (covered shapes from) (x +ℤ pos 1) y)
      → seen along (covered shapes to) (x +ℤ pos gap +ℤ pos 1) y
      → (¬ seen along (covered shapes to) (x +ℤ pos gap) y) → ⊥
  meeting along from to x y gap grid_from grid_to apart few on off begin none =
      let r = rect_at along shapes from x y on in
      let s = rect_at along shapes to (x +ℤ pos gap +ℤ pos 1) y begin in
      let end = ends_at along shapes near from x y r off in
      let start = begins_at along shapes near to (x +ℤ pos gap) y s none in
      let meet : (laid along s.rect).x0 ≡ (laid along r.rect).x1 +ℤ pos gap = omega (arith, ints) in
      let (i, j, whole) = gap_on_grid along shapes near r.rect s.rect gap r.among s.among
      (All-contains (FitsIn from) shapes r.rect grid_from r.among r.same)
      (All-contains (FitsIn to) shapes s.rect grid_to s.among s.same) meet in
      let e : gap ≡ 0 = omega arith in
      apart r.rect s.rect r.among s.among r.same s.same
      (subst (λ z. Faces z (laid along r.rect) (laid along s.rect)) e (record {
        meet = meet;
        row = y;
        r_bottom = r.inside.bottom;
        r_top = r.inside.top;
        q_bottom = s.inside.bottom;
        q_top = s.inside.top;
      }))

  abbrev see : Along → Layer → ℤ → ℤ → Type 0
  see along l = seen along (covered shapes l)

  no_right : (along : Along) → AreParted along shapes → (x y : ℤ) → see along NP x y → (¬ see along ND x y)
      → ¬ rules.IsNear (see along) right x y
  no_right along parted x y on bare n =
      meeting along NP ND x y n.between polysilicon diffusion parted.polysilicon_first n.few on
      (elim (cases_lt 0 n.between) [
        | inl m ↦ (n.clear 1 (omega arith) (omega arith)).0
        | inr m ↦ (let e : n.between ≡ 0 = omega arith in
            λ h. n.bare (subst (λ k. see along NP (x +ℤ pos (k + 1)) y) (sym e) h))
      ])
      (subst (λ z. see along ND z y) (omega (arith, ints)) n.diffusion)
      (elim (cases_lt 0 n.between) [
        | inl m ↦ (n.clear n.between (omega arith) (omega arith)).1
        | inr m ↦ λ h. bare (subst (λ z. see along ND z y) (omega (arith, ints)) h)
      ])

  no_left : (along : Along) → AreParted along shapes → (x y : ℤ) → see along NP x y → (¬ see along ND x y)
      → ¬ rules.IsNear (see along) left x y
  no_left along parted x y on bare n =
      let p = x +ℤ neg_ℤ (pos (n.between + 1)) in
      meeting along ND NP p y n.between diffusion polysilicon parted.diffusion_first n.few n.diffusion
      (elim (cases_lt 0 n.between) [
        | inl m ↦ λ h. (n.clear n.between (omega arith) (omega arith)).1
            (subst (λ z. see along ND z y) (omega (arith, ints)) h)
        | inr m ↦ λ h. bare (subst (λ z. see along ND z y) (omega (arith, ints)) h)
      ])
      (subst (λ z. see along NP z y) (omega (arith, ints)) on)
      (elim (cases_lt 0 n.between) [
        | inl m ↦ λ h. (n.clear 1 (omega arith) (omega arith)).0
            (subst (λ z. see along NP z y) (omega (arith, ints)) h)
        | inr m ↦ λ h. n.bare (subst (λ z. see along NP z y) (omega (arith, ints)) h)
      ])

  pub none_unrelated : AreParted Rows shapes → AreParted Columns shapes → (x y : ℤ)
      → ¬ IsUnrelated (covered shapes) x y
  none_unrelated rows columns x y u = go u.way u.near
    where
      go : (w : rules.Way) → rules.IsNear (covered shapes) w x y → ⊥
      go right n = no_right Rows rows x y u.polysilicon u.bare (record {
        between = n.between;
        few = n.few;
        clear = n.clear;
        diffusion = n.diffusion;
        bare = n.bare;
      })
      go left n = no_left Rows rows x y u.polysilicon u.bare (record {
        between = n.between;
        few = n.few;
        clear = n.clear;
        diffusion = n.diffusion;
        bare = n.bare;
      })
      go up n = no_right Columns columns y x u.polysilicon u.bare (record {
        between = n.between;
        few = n.few;
        clear = n.clear;
        diffusion = n.diffusion;
        bare = n.bare;
      })
      go down n = no_left Columns columns y x u.polysilicon u.bare (record {
        between = n.between;
        few = n.few;
        clear = n.clear;
        diffusion = n.diffusion;
        bare = n.bare;
      })
