use Rattle.compile_laws.proofs.Composed.{made}
use Rattle.mp_rules.proofs.Unbroken.{keeps_36}
use Rattle.compile_laws.proofs.Unbroken.{keeps_33, small_weight}
use Rattle.compile_laws.proofs.laws.chips_are_made.Goals as goal

pub one_trace-requires-clause-chains : goal.one_trace-requires-clause-chains
one_trace-requires-clause-chains c = keeps_33 c.args.program.now c.requires

pub one_trace-requires-clause-forms : goal.one_trace-requires-clause-forms
one_trace-requires-clause-forms c = keeps_36 c.args.program.now c.requires

pub returns : goal.returns
returns c =
    made c.written_is_read.ensures c.written_is_whole.ensures c.squares_tell_masks.ensures.sound
    c.circuits_run.ensures.exist
    c.masks_draw_networks.ensures c.extents_are_determined.ensures.squares c.args.program.now
    c.one_trace.ensures (small_weight c.args.program.now c.requires) c.sound.ensures.width.1
