use Rattle.std.proofs.Common.{subst, sym}
use Rattle.mp_base.specs.declared.refusal.Place.{Place}
use Rattle.mp_program.specs.declared.program.Program.{Program}
use Rattle.mp_program.specs.State.{IsState, zero_state}
use Rattle.mp_rules.specs.Rules.{E36}
use Rattle.mp_rules.proofs.Unbroken.{keeps_36}
use Rattle.mp_fitting.specs.Fitting.{StateFits}
use Rattle.settled_sum.proofs.Sums.{settle}
use Rattle.settled_sum.proofs.laws.sums_settle.Goals as goal

pub zero_is_a_state-requires : goal.zero_is_a_state-requires
zero_is_a_state-requires c =
    subst (λ (p : Program). (at : Place) → E36 p at → ⊥) (sym c.program-program.ensures)
    (keeps_36 c.args.checked.now.program c.unbroken.ensures)

pub returns : goal.returns
returns c =
    let same = c.program-program.ensures in
    settle c.args.checked.now.program c.clocks_fit.ensures.fit c.clocks_fit.ensures.last
    (subst (λ (p : Program). IsState p (zero_state p)) same c.zero_is_a_state.ensures)
    (subst (λ (p : Program). StateFits p (zero_state p)) same c.zero_state_fits.ensures)
