use Rattle.std.proofs.Common.{◌≡◌, sym, subst, [], ◌∷◌}
use Rattle.cif_form.specs.declared.command.Turn.{Turn}
use Rattle.cif_form.specs.declared.command.Turn.TheVariants.{MirrorX, MirrorY}
use Rattle.cif_form.specs.Place.{Scale}
use Rattle.cif_place.specs.declared.turned.Turned.{Turned}
use Rattle.cif_place.specs.declared.turned.Turned.TheVariants.{Placed}
use Rattle.cif_place.specs.Placing.{scale_of}
use Rattle.cif_place.specs.Turning.{IsTurned}
use Rattle.cif_place.proofs.Turns.{mirror_x_turned, mirror_y_turned}
use Rattle.cif_place.proofs.turned.Turned.of.Goals as goal

same_turn : (s : Scale) (t u : Turn) (a : Turned) → t ≡ u → IsTurned s (u ∷ []) a → IsTurned s (t ∷ []) a
same_turn s t u a e h = subst (λ o. IsTurned s (o ∷ []) a) (sym e) h

pub returns-in-Move-clause-turned : goal.returns-in-Move-clause-turned
returns-in-Move-clause-turned c = same_turn (scale_of c.args.ratio) _ _ _ c.in-Move.is c.shifted.ensures.turned

pub returns-in-MirrorX-clause-turned : goal.returns-in-MirrorX-clause-turned
returns-in-MirrorX-clause-turned c = same_turn (scale_of c.args.ratio) _ MirrorX (Placed c.turn.result) c.in-MirrorX.is
    (subst (λ p. IsTurned (scale_of c.args.ratio) (MirrorX ∷ []) (Placed p)) (sym c.turn.ensures)
    (mirror_x_turned (scale_of c.args.ratio)))

pub returns-in-MirrorY-clause-turned : goal.returns-in-MirrorY-clause-turned
returns-in-MirrorY-clause-turned c =
    same_turn (scale_of c.args.ratio) _ MirrorY (Placed c.turn-in-MirrorY.result) c.in-MirrorY.is
    (subst (λ p. IsTurned (scale_of c.args.ratio) (MirrorY ∷ []) (Placed p)) (sym c.turn-in-MirrorY.ensures)
    (mirror_y_turned (scale_of c.args.ratio)))

pub returns-in-Rotate-clause-turned : goal.returns-in-Rotate-clause-turned
returns-in-Rotate-clause-turned c =
    same_turn (scale_of c.args.ratio) _ _ _ c.in-Rotate.is (c.rotated.ensures.turned (scale_of c.args.ratio))
