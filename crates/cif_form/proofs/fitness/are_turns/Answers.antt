use Rattle.std.proofs.Common.{refl, sym, subst, ◌≡◌, true, false, IsTrue}
use Rattle.cif_form.specs.Fits.{turn_numbers}
use Rattle.cif_form.proofs.Small.{small_on, small_at}
use Rattle.cif_form.proofs.fitness.are_turns.Goals as goal

pub returns-then-not-is_turn : goal.returns-then-not-is_turn
returns-then-not-is_turn c = (
  (λ h. absurd (let e : false ≡ true = h in cc)),
  (λ h. subst IsTrue c.if-not-is_turn.true
      (c.is_turn.ensures.1 (small_at turn_numbers _ _ _ _ c.in-Some.ensures.steps c.loop-turn.invariant h))),
)

pub loop-turn-preserved : goal.loop-turn-preserved
loop-turn-preserved c =
    small_on turn_numbers _ _ _ _ c.in-Some.ensures.steps
    (c.is_turn.ensures.0 (subst IsTrue (sym c.if-not-is_turn.false) refl)) c.loop-turn.invariant
