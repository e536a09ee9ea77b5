-- Squares beside long polysilicon.
use Rattle.std.proofs.Common.{inl, inr, arith, List, []}
use Rattle.std.specs.Prelude.{ℤ}
use Rattle.lam_geom.specs.declared.layer.Layer.TheVariants.{ND, NP, NB, NI}
use Rattle.lam_geom.specs.declared.rect.Rect.{Rect}
use Rattle.lam_geom.specs.Squares.{covered}
use Rattle.lam_geom.specs.Rules.{At}
use Rattle.lam_geom.specs.Rules.Way.{right, left, up, down}
use Rattle.rule_rows.specs.declared.side.Side.{Side}
use Rattle.rule_rows.specs.Sides.{way_of, Reaches}
use Rattle.rule_rows.specs.Copies.{AreSpread}
use Rattle.rule_rows.specs.Channels.{IsChannel}
use Rattle.rule_rows.specs.Gates.{IsLong, IsBeside, IsPlain, AreChannels, AreLong, IsTurned}
use Rattle.rule_rows.proofs.Spreading.{spread_own, spread_other, reaches_one}

module _ (shapes d1 d2 d3 : List Rect) (side : Side)
    (s1 : AreSpread (covered shapes NP) ND (record { side = side; near = 1; far = 1 }) [] d1)
    (s2 : AreSpread (covered shapes NP) NP (record { side = side; near = 1; far = 1 }) d1 d2)
    (s3 : AreSpread (covered shapes ND) NB (record { side = side; near = 1; far = 1 }) d2 d3) where
  one : (on : ℤ → ℤ → Type 0) (x y : ℤ) → Reaches on (way_of side) 1 1 x y → At on (way_of side) x y 1
  one on x y r = reaches_one on (way_of side) 1 x y r

  pub are_channels : AreChannels d3 (IsBeside (covered shapes) (way_of side))
  are_channels = record {
    plain = λ x y h. (spread_other _ ND _ [] d1 s1 x y NI (λ e. cc (e))).0
        ((spread_other _ NP _ d1 d2 s2 x y NI (λ e. cc (e))).0
        ((spread_other _ NB _ d2 d3 s3 x y NI (λ e. cc (e))).0 h));
    each = λ x y. (
      λ c. record {
        polysilicon = elim ((spread_own _ ND _ [] d1 s1 x y).0 ((spread_other _ NP _ d1 d2 s2 x y ND (λ e. cc (e))).0
            ((spread_other _ NB _ d2 d3 s3 x y ND (λ e. cc (e))).0 c.diffusion)))
            [ inl n ↦ absurd n | inr r ↦ one (covered shapes NP) x y r ];
        bare = λ h. c.unburied ((spread_own _ NB _ d2 d3 s3 x y).1 (inr (1, omega arith, omega arith, h)));
      },
      λ b. record {
        diffusion = (spread_other _ NB _ d2 d3 s3 x y ND (λ e. cc (e))).1
            ((spread_other _ NP _ d1 d2 s2 x y ND (λ e. cc (e))).1
            ((spread_own _ ND _ [] d1 s1 x y).1 (inr (1, omega arith, omega arith, b.polysilicon))));
        polysilicon = (spread_other _ NB _ d2 d3 s3 x y NP (λ e. cc (e))).1
            ((spread_own _ NP _ d1 d2 s2 x y).1 (inr (1, omega arith, omega arith, b.polysilicon)));
        unburied = λ h. elim ((spread_own _ NB _ d2 d3 s3 x y).0 h) [
          | inl n ↦ absurd ((spread_other _ ND _ [] d1 s1 x y NB (λ e. cc (e))).0
              ((spread_other _ NP _ d1 d2 s2 x y NB (λ e. cc (e))).0 n))
          | inr r ↦ b.bare (one (covered shapes ND) x y r)
        ];
      },
    );
  }

long_map : (P Q : ℤ → Type 0) (z : ℤ) → ((t : ℤ) → P t → Q t) → IsLong P z → IsLong Q z
long_map P Q z f h = record { from = h.from; left = h.left; right = h.right; each = λ t a b. f t (h.each t a b) }

module _ (drawing rects : List Rect) (is : ℤ → ℤ → Type 0) (c : AreChannels drawing is) where
  pub row_long : AreLong right (IsChannel drawing) rects → AreLong right is rects
  row_long a = record {
    each = λ l x y. (
      λ h. let g = (a.each l x y).0 h in
          (g.0, long_map (λ t. IsChannel drawing t y) (λ t. is t y) x (λ t. (c.each t y).0) g.1),
      λ h. (a.each l x y).1
          (h.0, long_map (λ t. is t y) (λ t. IsChannel drawing t y) x (λ t. (c.each t y).1) h.1),
    );
  }

  -- the same of columns, by the drawing with x and y exchanged
  pub column_long : (turned found : List Rect) → IsTurned drawing turned → AreLong right (IsChannel turned) found
      → IsTurned found rects → AreLong up is rects
  column_long turned found t a u = record {
    each = λ l x y. (
      λ h. let g = (a.each l y x).0 ((u.each l x y).0 h) in
          (g.0, long_map (λ s. IsChannel turned s x) (λ s. is x s) y (λ s k. (c.each x s).0 (back s x k)) g.1),
      λ h. (u.each l x y).1 ((a.each l y x).1
          (h.0, long_map (λ s. is x s) (λ s. IsChannel turned s x) y (λ s k. there s x ((c.each x s).1 k)) h.1)),
    );
  }
    where
      back : (s x : ℤ) → IsChannel turned s x → IsChannel drawing x s
      back s x k = record {
        diffusion = (t.each ND s x).0 k.diffusion;
        polysilicon = (t.each NP s x).0 k.polysilicon;
        unburied = λ h. k.unburied ((t.each NB s x).1 h);
      }

      there : (s x : ℤ) → IsChannel drawing x s → IsChannel turned s x
      there s x k = record {
        diffusion = (t.each ND s x).1 k.diffusion;
        polysilicon = (t.each NP s x).1 k.polysilicon;
        unburied = λ h. k.unburied ((t.each NB s x).0 h);
      }

  pub turned_plain : (turned : List Rect) → IsTurned drawing turned → IsPlain turned
  turned_plain turned t x y h = c.plain y x ((t.each NI x y).0 h)

-- a row is one row to the left too, and a column one downwards
pub leftward : (is : ℤ → ℤ → Type 0) (rects : List Rect) → AreLong right is rects → AreLong left is rects
leftward is rects a = record { each = a.each }

pub downward : (is : ℤ → ℤ → Type 0) (rects : List Rect) → AreLong up is rects → AreLong down is rects
downward is rects a = record { each = a.each }
