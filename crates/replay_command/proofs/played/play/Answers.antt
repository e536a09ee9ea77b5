use Rattle.std.proofs.Common.{refl, sym, subst, ◌∙◌}
use Rattle.std.specs.Prelude.{Some}
use Rattle.outside.proofs.Told.{keeps_same}
use Rattle.outcome.specs.declared.halt.Halt.TheVariants.{NoMemory}
use Rattle.outcome.proofs.EndsLemmas.{leaves_halted}
use Rattle.outcome.proofs.Causes.{without_memory}
use Rattle.outcome.proofs.Silence.{quiet_same}
use Rattle.mask_net.specs.Masks.{IsNetOf}
use Rattle.compile_laws.specs.Laws.{IsSmallChipOf}
use Rattle.stages.specs.Stages.{second}
use Rattle.stages.proofs.Ending.{leaves_as}
use Rattle.replay_command.specs.Played.{Plays, PlaysChipOf}
use Rattle.replay_command.proofs.Replaying.{of_all, of_chip}
use Rattle.replay_command.proofs.played.play.Goals as goal

pub circuit_of-requires : goal.circuit_of-requires
circuit_of-requires g c = record {
  masks = subst (IsSmallChipOf c.args.made.now.checked.program) (sym c.deref.ensures.value) c.in_ok-chip.ensures.small;
  padded = c.requires.padded;
  few_inputs = c.requires.few_inputs;
  few_clocks = c.requires.few_clocks;
}

pub show-requires-clause-drawn : goal.show-requires-clause-drawn
show-requires-clause-drawn g c =
    subst (λ bytes. IsNetOf bytes c.in_ok-circuit.circuit.network)
    (c.deref.ensures.value ∙ sym c.deref-2.ensures.value) c.in_ok-circuit.ensures.drawn

pub returns-in_err-chip-clause-content : goal.returns-in_err-chip-clause-content
returns-in_err-chip-clause-content g c =
    let program = c.args.made.now.checked.program in
    let given = c.args.made.now.stimulus in
    let reads = g.D.Depot.read_faults c.args.depot.now in
    leaves_halted (second (Some c.args.cif.now) (PlaysChipOf program given)) NoMemory c.from_residual.result _ _ reads
    reads c.from_residual.ensures.1 (keeps_same (g.D.Depot.held c.args.depot.now)) refl refl

pub returns-in_err-circuit-clause-content : goal.returns-in_err-circuit-clause-content
returns-in_err-circuit-clause-content g c =
    let program = c.args.made.now.checked.program in
    let given = c.args.made.now.stimulus in
    let reads = g.D.Depot.read_faults c.args.depot.now in
    leaves_halted (second (Some c.args.cif.now) (PlaysChipOf program given)) NoMemory
    c.from_residual-in_err-circuit.result _ _ reads reads c.from_residual-in_err-circuit.ensures.1
    (keeps_same (g.D.Depot.held c.args.depot.now)) refl refl

pub returns-clause-content : goal.returns-clause-content
returns-clause-content g c =
    let program = c.args.made.now.checked.program in
    let given = c.args.made.now.stimulus in
    let chip = c.in_ok-chip.chip.items in
    let held = g.D.Depot.held c.args.depot.now in
    leaves_as (second (Some c.args.cif.now) (PlaysChipOf program given)) (Plays chip given) c.show.result _ _ _
    (keeps_same held) (record { writes = refl; prints = refl; text = refl })
    (of_all (tt, of_chip program given chip c.in_ok-chip.ensures) held)
    (rw (c.deref-2.ensures.value, c.in_ok-circuit.ensures.given) at c.show.ensures.content)

pub returns-in_err-chip-clause-causes : goal.returns-in_err-chip-clause-causes
returns-in_err-chip-clause-causes g c =
    without_memory c.from_residual.result _ _ _ c.from_residual.ensures.1 refl refl refl

pub returns-in_err-circuit-clause-causes : goal.returns-in_err-circuit-clause-causes
returns-in_err-circuit-clause-causes g c =
    without_memory c.from_residual-in_err-circuit.result _ _ _ c.from_residual-in_err-circuit.ensures.1 refl refl refl

pub returns-clause-causes : goal.returns-clause-causes
returns-clause-causes g c = c.show.ensures.causes

pub returns-in_err-chip-clause-silent : goal.returns-in_err-chip-clause-silent
returns-in_err-chip-clause-silent g c = quiet_same c.from_residual.result _

pub returns-in_err-circuit-clause-silent : goal.returns-in_err-circuit-clause-silent
returns-in_err-circuit-clause-silent g c = quiet_same c.from_residual-in_err-circuit.result _

pub returns-clause-silent : goal.returns-clause-silent
returns-clause-silent g c = c.show.ensures.silent
