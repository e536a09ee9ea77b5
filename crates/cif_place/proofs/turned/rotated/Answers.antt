use Rattle.std.proofs.Common.{◌≡◌, sym, subst, arith, inl, inr, [], ◌∷◌}
use Rattle.std.proofs.lemmas.Int.{ints}
use Rattle.cif_form.specs.declared.command.Turn.TheVariants.{Rotate}
use Rattle.cif_form.specs.Place.{Scale}
use Rattle.cif_place.specs.declared.placement.Placement.{Placement}
use Rattle.cif_place.specs.declared.turned.Turned.TheVariants.{Placed}
use Rattle.lam_geom.specs.declared.place.Point.{Point}
use Rattle.cif_place.specs.Turning.{IsTurned}
use Rattle.cif_place.proofs.Turns.{east, west, north, south, askew}
use Rattle.cif_place.proofs.turned.rotated.Goals as goal

same : (s : Scale) (to : Point) (p q : Placement) → q ≡ p → IsTurned s (Rotate to ∷ []) (Placed p)
    → IsTurned s (Rotate to ∷ []) (Placed q)
same s to p q e h = subst (λ o. IsTurned s (Rotate to ∷ []) (Placed o)) (sym e) h

pub returns-then-to-gt0-clause-turned : goal.returns-then-to-gt0-clause-turned
returns-then-to-gt0-clause-turned c =
    λ s. same s c.args.to _ _ c.turn.ensures (east s c.args.to (omega (arith, ints)) (omega (arith, ints)))

pub returns-then-to-lt0-clause-turned : goal.returns-then-to-lt0-clause-turned
returns-then-to-lt0-clause-turned c =
    λ s. same s c.args.to _ _ c.turn-then-to-lt0.ensures (west s c.args.to (omega (arith, ints)) (omega (arith, ints)))

pub returns-then-to-gt0-2-clause-turned : goal.returns-then-to-gt0-2-clause-turned
returns-then-to-gt0-2-clause-turned c =
    λ s. same s c.args.to _ _ c.turn-then-to-gt0-2.ensures
    (north s c.args.to (omega (arith, ints)) (omega (arith, ints)))

pub returns-then-to-eq0-2-clause-turned : goal.returns-then-to-eq0-2-clause-turned
returns-then-to-eq0-2-clause-turned c =
    λ s. same s c.args.to _ _ c.turn-then-to-eq0-2.ensures
    (south s c.args.to (omega (arith, ints)) (omega (arith, ints)))

pub returns-else-to-lt0-clause-turned : goal.returns-else-to-lt0-clause-turned
returns-else-to-lt0-clause-turned c =
    λ s. askew s c.args.to
    (λ h. elim h [ inl a ↦ a.1 (omega (arith, ints, a.0)) | inr b ↦ b.1 (omega (arith, ints, b.0)) ])

pub returns-else-to-eq0-2-clause-turned : goal.returns-else-to-eq0-2-clause-turned
returns-else-to-eq0-2-clause-turned c =
    λ s. askew s c.args.to
    (λ h. elim h [ inl a ↦ absurd (omega (arith, ints, a.0)) | inr b ↦ absurd (omega (arith, ints, b.0)) ])
