use Rattle.std.proofs.Common.{refl, Err}
use Rattle.std.specs.Prelude.{Some}
use Rattle.outside.proofs.Told.{keeps_same}
use Rattle.outcome.specs.declared.halt.Halt.TheVariants.{WriteFault}
use Rattle.outcome.proofs.EndsLemmas.{leaves_done, leaves_cut, leaves_stored_in_part}
use Rattle.outcome.proofs.Causes.{store_failed, print_failed}
use Rattle.outcome.proofs.Silence.{quiet_cut}
use Rattle.stages.specs.Stages.{second}
use Rattle.replay_command.specs.Played.{Plays}
use Rattle.replay_command.proofs.Replaying.{a_replay, of_all}
use Rattle.replay_command.proofs.played.show.Goals as goal

pub returns-in-Err-clause-silent : goal.returns-in-Err-clause-silent
returns-in-Err-clause-silent g c = tt

pub returns-in_err-run-in-Ok-clause-silent : goal.returns-in_err-run-in-Ok-clause-silent
returns-in_err-run-in-Ok-clause-silent g c = quiet_cut c.from_residual.result _ _ c.from_residual.ensures.1

pub returns-in-Err-clause-causes : goal.returns-in-Err-clause-causes
returns-in-Err-clause-causes g c =
    store_failed (Err WriteFault) ⊥ _ _ refl c.in-Err.ensures.reads c.in-Err.ensures.cause.later
    c.in-Err.ensures.cause.failed refl refl

pub returns-in_err-run-in-Ok-clause-causes : goal.returns-in_err-run-in-Ok-clause-causes
returns-in_err-run-in-Ok-clause-causes g c =
    print_failed c.from_residual.result _ _ _ c.from_residual.ensures.1 c.in-Ok.ensures.reads c.in-Ok.ensures.cause.ok
    c.in_err-run-in-Ok.ensures.cause.later c.in_err-run-in-Ok.ensures.cause.failed

pub returns-in_ok-run-in-Ok-clause-causes : goal.returns-in_ok-run-in-Ok-clause-causes
returns-in_ok-run-in-Ok-clause-causes g c =
    (c.in-Ok.ensures.reads, c.in-Ok.ensures.cause.ok, c.in_ok-run-in-Ok.ensures.cause.ok)

pub returns-in-Err-clause-content : goal.returns-in-Err-clause-content
returns-in-Err-clause-content g c =
    let chip = c.args.chip.now in
    let given = c.args.circuit.given in
    let run = a_replay c.transcripts_exist.ensures.exist c.args.circuit.network given c.requires.has_pads in
    let held = g.D.Depot.held c.args.depot.now in
    leaves_stored_in_part (second (Some c.args.cif.now) (Plays chip given)) chip run.0 (Err WriteFault) _ _ held refl
    (record {
      later = c.in-Err.ensures.cause.later;
      failed = c.in-Err.ensures.cause.failed;
      prints = refl;
      text = refl;
    })
    (keeps_same held) (
      of_all tt held,
      of_all (record {
        same = refl;
        network = c.args.circuit.network;
        drawn = c.requires.drawn;
        replay = run.1;
      }) held,
    ) c.in-Err.ensures.cut

pub returns-in_err-run-in-Ok-clause-content : goal.returns-in_err-run-in-Ok-clause-content
returns-in_err-run-in-Ok-clause-content g c =
    let chip = c.args.chip.now in
    let given = c.args.circuit.given in
    let prints = c.in_err-run-in-Ok.ensures.printed in
    let held = g.D.Depot.held c.args.depot.now in
    leaves_cut (second (Some c.args.cif.now) (Plays chip given)) chip prints.text c.in_err-run-in-Ok.field-0.0
    c.from_residual.result _ _ held c.from_residual.ensures.1 (record {
      later = c.in_err-run-in-Ok.ensures.cause.later;
      failed = c.in_err-run-in-Ok.ensures.cause.failed;
      writes = c.in-Ok.ensures.cause.ok;
    }) (keeps_same held) (
      of_all tt held,
      of_all (record {
        same = refl;
        network = c.args.circuit.network;
        drawn = c.requires.drawn;
        replay = prints.replay;
      }) held,
    ) c.in-Ok.ensures.stored prints.taken

pub returns-in_ok-run-in-Ok-clause-content : goal.returns-in_ok-run-in-Ok-clause-content
returns-in_ok-run-in-Ok-clause-content g c =
    let chip = c.args.chip.now in
    let given = c.args.circuit.given in
    let prints = c.in_ok-run-in-Ok.ensures.printed in
    let held = g.D.Depot.held c.args.depot.now in
    leaves_done (second (Some c.args.cif.now) (Plays chip given)) chip prints.text c.in_ok-run-in-Ok.field-0
    c.in_ok-run-in-Ok.field-0 _ _ held (keeps_same held) (
      of_all tt held,
      of_all (record {
        same = refl;
        network = c.args.circuit.network;
        drawn = c.requires.drawn;
        replay = prints.replay;
      }) held,
    ) c.in-Ok.ensures.stored prints.taken
