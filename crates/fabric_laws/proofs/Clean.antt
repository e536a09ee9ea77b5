-- A fabric breaks no lambda rule.
use Rattle.std.proofs.Common.{ℕ, inl, inr}
use Rattle.std.specs.Prelude.{ℤ}
use Rattle.lam_geom.specs.Squares.{covered, RectanglesAreJoined}
use Rattle.fabric.specs.Plan.{Plan, IsFabric}
use Rattle.fabric.specs.Shape.{shape}
use Rattle.lam_geom.specs.Rules.{BreaksRule, IsClean}
use Rattle.fabric_laws.proofs.Widths.{diffusion_is_wide, polysilicon_is_wide, metal_is_wide}
use Rattle.fabric_laws.proofs.Spacing.{diffusion_is_apart, polysilicon_is_apart, metal_is_apart, is_related}
use Rattle.fabric_laws.proofs.Gates.{gates_are_closed}
use Rattle.fabric_laws.proofs.Cuts.{cuts_are_square}
use Rattle.fabric_laws.proofs.Surrounds.{cuts_are_surrounded}

pub fabrics_are_clean : RectanglesAreJoined → (f : Plan) → IsFabric f → IsClean (covered (shape f))
fabrics_are_clean joined f w k x y (inl h) = diffusion_is_wide f w x y h.1
fabrics_are_clean joined f w k x y (inr (inl h)) = polysilicon_is_wide f w x y h.1
fabrics_are_clean joined f w k x y (inr (inr (inl h))) = metal_is_wide f w x y h.1
fabrics_are_clean joined f w k x y (inr (inr (inr (inl h)))) = diffusion_is_apart f w x y h.1
fabrics_are_clean joined f w k x y (inr (inr (inr (inr (inl h))))) = polysilicon_is_apart f w x y h.1
fabrics_are_clean joined f w k x y (inr (inr (inr (inr (inr (inl h)))))) = metal_is_apart f w x y h.1
fabrics_are_clean joined f w k x y (inr (inr (inr (inr (inr (inr (inl h))))))) = is_related f w x y h.1
fabrics_are_clean joined f w k x y (inr (inr (inr (inr (inr (inr (inr (inl h)))))))) = gates_are_closed f w x y h.1
fabrics_are_clean joined f w k x y (inr (inr (inr (inr (inr (inr (inr (inr (inl h))))))))) = cuts_are_square f w joined x
    y h.1
fabrics_are_clean joined f w k x y (inr (inr (inr (inr (inr (inr (inr (inr (inr h))))))))) = cuts_are_surrounded f w
    joined x y h.1
