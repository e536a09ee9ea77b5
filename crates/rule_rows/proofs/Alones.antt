-- Polysilicon alone that is near diffusion.
use Rattle.std.proofs.Common.{◌⊎◌, inl, inr, arith, List}
use Rattle.std.specs.Prelude.{◌↔◌, ℤ}
use Rattle.lam_geom.specs.declared.layer.Layer.TheVariants.{ND, NP, NB, NI}
use Rattle.lam_geom.specs.declared.rect.Rect.{Rect}
use Rattle.lam_geom.specs.Squares.{covered}
use Rattle.lam_geom.specs.Rules as rules
use Rattle.lam_geom.specs.Rules.{Way, At, IsUnrelated}
use Rattle.lam_geom.specs.Rules.Way.{right, left, up, down}
use Rattle.rule_rows.specs.declared.side.Side.TheVariants.{Right}
use Rattle.rule_rows.specs.Sides.{Reaches}
use Rattle.rule_rows.specs.Copies.{AreSpread}
use Rattle.rule_rows.specs.Channels.{IsChannel}
use Rattle.rule_rows.specs.Gates.{IsTurned}
use Rattle.rule_rows.specs.Nears.{drawn, IsInField, IsPlan, IsPlanOf}
use Rattle.rule_rows.specs.Nears.{IsNearInRow, IsLeading, IsOnlyDiffusion, IsAloneIn}
use Rattle.rule_rows.proofs.Spreading.{spread_own, spread_other, at_zero, reaches_one}

-- ---- channels of the drawing that was led to

module _ (shapes led d1 d2 : List Rect) (only : IsOnlyDiffusion led)
    (s1 : AreSpread (covered shapes NP) NP (record { side = Right; near = 0; far = 0 }) led d1)
    (s2 : AreSpread (covered shapes ND) NB (record { side = Right; near = 0; far = 0 }) d1 d2) (x y : ℤ) where
  here : (on : ℤ → ℤ → Type 0) → on x y ↔ Reaches on right 0 0 x y
  here on = (
    λ h. (0, omega arith, omega arith, (at_zero on right x y).0 h),
    λ r. (at_zero on right x y).1 (reaches_one on right 0 x y r),
  )

  pub alone_of_channel : IsChannel d2 x y → IsAloneIn shapes led x y
  alone_of_channel c = record {
    polysilicon = elim ((spread_own _ NP _ led d1 s1 x y).0
        ((spread_other _ NB _ d1 d2 s2 x y NP (λ e. cc (e))).0 c.polysilicon)) [
          | inl n ↦ absurd (let e = only NP x y n in cc (e))
          | inr r ↦ (here (covered shapes NP)).1 r
        ];
    bare = λ h. c.unburied ((spread_own _ NB _ d1 d2 s2 x y).1 (inr ((here (covered shapes ND)).0 h)));
    led = (spread_other _ NP _ led d1 s1 x y ND (λ e. cc (e))).0
        ((spread_other _ NB _ d1 d2 s2 x y ND (λ e. cc (e))).0 c.diffusion);
  }

  pub channel_of_alone : IsAloneIn shapes led x y → IsChannel d2 x y
  channel_of_alone a = record {
    diffusion = (spread_other _ NB _ d1 d2 s2 x y ND (λ e. cc (e))).1
        ((spread_other _ NP _ led d1 s1 x y ND (λ e. cc (e))).1 a.led);
    polysilicon = (spread_other _ NB _ d1 d2 s2 x y NP (λ e. cc (e))).1
        ((spread_own _ NP _ led d1 s1 x y).1 (inr ((here (covered shapes NP)).0 a.polysilicon)));
    unburied = λ h. elim ((spread_own _ NB _ d1 d2 s2 x y).0 h) [
      | inl n ↦ (let e = only NB x y ((spread_other _ NP _ led d1 s1 x y NB (λ e. cc (e))).0 n) in cc (e))
      | inr r ↦ a.bare ((here (covered shapes ND)).1 r)
    ];
  }

-- ---- plans with x and y exchanged

pub turned_plan : (plan turned : List Rect) → IsPlan plan → IsTurned plan turned → IsPlan turned
turned_plan plan turned is t = record {
  diffusion = λ x y. (
    λ h. flip y x ((is.diffusion y x).0 ((t.each ND x y).0 h)),
    λ f. (t.each ND x y).1 ((is.diffusion y x).1 (flip x y f)),
  );
  polysilicon = λ x y. (
    λ h. flip y x ((is.polysilicon y x).0 ((t.each NP x y).0 h)),
    λ f. (t.each NP x y).1 ((is.polysilicon y x).1 (flip x y f)),
  );
  near = λ x y h. let n = is.near y x ((t.each NB x y).0 h) in (n.1, n.0);
}
  where
    flip : (x y : ℤ) → IsInField x y → IsInField y x
    flip x y f = record { left = f.bottom; right = f.top; bottom = f.left; top = f.right }

-- ---- all four ways

module _ (shapes rows across columns found along : List Rect) (is : IsPlanOf shapes rows)
    (a : IsLeading rows across) (t : IsTurned rows columns) (b : IsLeading columns found) (u : IsTurned found along)
    (x y : ℤ) where
  abbrev Either : Type 0
  Either = IsAloneIn shapes across x y ⊎ IsAloneIn shapes along x y

  poly : (p q : ℤ) → covered shapes NP p q → covered rows NB p q
  poly p q h = (is.polysilicon p q).1 h

  to_right : rules.IsNear (drawn rows) right x y → rules.IsNear (covered shapes) right x y
  to_right n = record {
    between = n.between;
    few = n.few;
    clear = λ k l m. let c = n.clear k l m in (λ h. c.0 ((is.polysilicon _ _).1 h), λ h. c.1 ((is.diffusion _ _).1 h));
    diffusion = (is.diffusion _ _).0 n.diffusion;
    bare = λ h. n.bare ((is.polysilicon _ _).1 h);
  }

  to_left : rules.IsNear (drawn rows) left x y → rules.IsNear (covered shapes) left x y
  to_left n = record {
    between = n.between;
    few = n.few;
    clear = λ k l m. let c = n.clear k l m in (λ h. c.0 ((is.polysilicon _ _).1 h), λ h. c.1 ((is.diffusion _ _).1 h));
    diffusion = (is.diffusion _ _).0 n.diffusion;
    bare = λ h. n.bare ((is.polysilicon _ _).1 h);
  }

  to_up : rules.IsNear (drawn columns) right y x → rules.IsNear (covered shapes) up x y
  to_up n = record {
    between = n.between;
    few = n.few;
    clear = λ k l m. let c = n.clear k l m in (
      λ h. c.0 ((t.each NB _ _).1 ((is.polysilicon _ _).1 h)),
      λ h. c.1 ((t.each NI _ _).1 ((is.diffusion _ _).1 h)),
    );
    diffusion = (is.diffusion _ _).0 ((t.each NI _ _).0 n.diffusion);
    bare = λ h. n.bare ((t.each NB _ _).1 ((is.polysilicon _ _).1 h));
  }

  to_down : rules.IsNear (drawn columns) left y x → rules.IsNear (covered shapes) down x y
  to_down n = record {
    between = n.between;
    few = n.few;
    clear = λ k l m. let c = n.clear k l m in (
      λ h. c.0 ((t.each NB _ _).1 ((is.polysilicon _ _).1 h)),
      λ h. c.1 ((t.each NI _ _).1 ((is.diffusion _ _).1 h)),
    );
    diffusion = (is.diffusion _ _).0 ((t.each NI _ _).0 n.diffusion);
    bare = λ h. n.bare ((t.each NB _ _).1 ((is.polysilicon _ _).1 h));
  }

  pub unrelated_of_alone : Either → IsUnrelated (covered shapes) x y
  unrelated_of_alone (inl h) = elim ((a.near x y (poly x y h.polysilicon)).0 h.led) [
    | inl n ↦ record { polysilicon = h.polysilicon; bare = h.bare; way = right; near = to_right n }
    | inr n ↦ record { polysilicon = h.polysilicon; bare = h.bare; way = left; near = to_left n }
  ]
  unrelated_of_alone (inr h) =
      elim ((b.near y x ((t.each NB y x).1 (poly x y h.polysilicon))).0 ((u.each ND x y).0 h.led)) [
        | inl n ↦ record { polysilicon = h.polysilicon; bare = h.bare; way = up; near = to_up n }
        | inr n ↦ record { polysilicon = h.polysilicon; bare = h.bare; way = down; near = to_down n }
      ]

  of_right : rules.IsNear (covered shapes) right x y → rules.IsNear (drawn rows) right x y
  of_right n = record {
    between = n.between;
    few = n.few;
    clear = λ k l m. let c = n.clear k l m in (λ h. c.0 ((is.polysilicon _ _).0 h), λ h. c.1 ((is.diffusion _ _).0 h));
    diffusion = (is.diffusion _ _).1 n.diffusion;
    bare = λ h. n.bare ((is.polysilicon _ _).0 h);
  }

  of_left : rules.IsNear (covered shapes) left x y → rules.IsNear (drawn rows) left x y
  of_left n = record {
    between = n.between;
    few = n.few;
    clear = λ k l m. let c = n.clear k l m in (λ h. c.0 ((is.polysilicon _ _).0 h), λ h. c.1 ((is.diffusion _ _).0 h));
    diffusion = (is.diffusion _ _).1 n.diffusion;
    bare = λ h. n.bare ((is.polysilicon _ _).0 h);
  }

  of_up : rules.IsNear (covered shapes) up x y → rules.IsNear (drawn columns) right y x
  of_up n = record {
    between = n.between;
    few = n.few;
    clear = λ k l m. let c = n.clear k l m in (
      λ h. c.0 ((is.polysilicon _ _).0 ((t.each NB _ _).0 h)),
      λ h. c.1 ((is.diffusion _ _).0 ((t.each NI _ _).0 h)),
    );
    diffusion = (t.each NI _ _).1 ((is.diffusion _ _).1 n.diffusion);
    bare = λ h. n.bare ((is.polysilicon _ _).0 ((t.each NB _ _).0 h));
  }

  of_down : rules.IsNear (covered shapes) down x y → rules.IsNear (drawn columns) left y x
  of_down n = record {
    between = n.between;
    few = n.few;
    clear = λ k l m. let c = n.clear k l m in (
      λ h. c.0 ((is.polysilicon _ _).0 ((t.each NB _ _).0 h)),
      λ h. c.1 ((is.diffusion _ _).0 ((t.each NI _ _).0 h)),
    );
    diffusion = (t.each NI _ _).1 ((is.diffusion _ _).1 n.diffusion);
    bare = λ h. n.bare ((is.polysilicon _ _).0 ((t.each NB _ _).0 h));
  }

  pub alone_of_unrelated : IsUnrelated (covered shapes) x y → Either
  alone_of_unrelated g = go g.way g.near
    where
      in_row : IsNearInRow rows x y → Either
      in_row n = inl (record {
        polysilicon = g.polysilicon;
        bare = g.bare;
        led = (a.near x y (poly x y g.polysilicon)).1 n;
      })

      in_column : IsNearInRow columns y x → Either
      in_column n = inr (record {
        polysilicon = g.polysilicon;
        bare = g.bare;
        led = (u.each ND x y).1 ((b.near y x ((t.each NB y x).1 (poly x y g.polysilicon))).1 n);
      })

      go : (w : Way) → rules.IsNear (covered shapes) w x y → Either
      go right n = in_row (inl (of_right n))
      go left n = in_row (inr (of_left n))
      go up n = in_column (inl (of_up n))
      go down n = in_column (inr (of_down n))
