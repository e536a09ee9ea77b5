-- The sizes of channels and the sides of their ends are told by the squares alone.
use Rattle.std.proofs.Common.{refl, sym, subst}
use Rattle.std.specs.Prelude.{◌≡◌, ℕ, ℤ}
use Rattle.lam_geom.specs.declared.layer.Layer.TheVariants.{ND, NP}
use Rattle.lam_geom.specs.declared.rect.Rect.{Rect}
use Rattle.lam_geom.specs.Squares.{SameSquares, Square}
use Rattle.switch_net.specs.declared.network.ChannelKind.TheVariants.{Enhancement, Depletion}
use Rattle.switch_net.specs.Conductors.{IsChannel, ConductsOn, Conducts}
use Rattle.switch_net.specs.Drawn.{IsEnd}
use Rattle.mask_laws.proofs.SameSquares.{Covers, turn, channel_square, of_channel, kind}
use Rattle.fabric_laws.specs.Sized.{IsLeftOrRight, IsBelowOrAbove, IsOblong, AreSized}
use Rattle.fabric_laws.specs.Sized.IsSized.{transistor, pull_up}

channel : (c d : Covers) → SameSquares c d → (x y : ℤ) → IsChannel c x y → IsChannel d x y
channel c d same x y h = (channel_square c d same (record { layer = NP; x = x; y = y }) (refl, h)).1

diffusion : (c d : Covers) → SameSquares c d → (t : Square) → t.layer ≡ ND → Conducts c t → Conducts d t
diffusion c d same t e h =
    let k = subst (λ l. ConductsOn c l t.x t.y) e h in
    subst (λ l. ConductsOn d l t.x t.y) (sym e)
    ((same ND t.x t.y).0 k.0, λ n. k.1 (channel d c (turn c d same) t.x t.y n))

end : (c d : Covers) → SameSquares c d → (r t : Square) → IsEnd c r t → IsEnd d r t
end c d same r t h = record {
  square = h.square;
  of = of_channel c d same r h.square h.of;
  diffusion = h.diffusion;
  conducts = diffusion c d same t h.diffusion h.conducts;
  beside = h.beside;
}

module _ (c d : Covers) (same : SameSquares c d) where
  oblong : (r : Square) (wide high : ℕ) (IsAlong : Rect → Square → Type 0) → IsOblong c r wide high IsAlong
      → IsOblong d r wide high IsAlong
  oblong r wide high IsAlong is = record {
    left = is.left;
    low = is.low;
    squares = λ s. (
      λ h. (is.squares s).0 (of_channel d c (turn c d same) r s h),
      λ i. of_channel c d same r s ((is.squares s).1 i),
    );
    ends = λ t. (
      λ h. (is.ends t).0 (end d c (turn c d same) r t h),
      λ b. end c d same r t ((is.ends t).1 b),
    );
  }

  pub same_sizes : AreSized c → AreSized d
  same_sizes is r h = elim (is r (channel_square d c (turn c d same) r h)) [
    | transistor k o ↦ transistor (kind c d same r Enhancement k) (oblong r 2 2 IsLeftOrRight o)
    | pull_up k o ↦ pull_up (kind c d same r Depletion k) (oblong r 2 16 IsBelowOrAbove o)
  ]
