use Rattle.std.proofs.Common.{◌<◌, length, rules, arith}
use Rattle.std.specs.Prelude.{slice_index}
use Rattle.mp_program.specs.Names.{is_input}
use Rattle.program_clock.proofs.KindValues.{has_inputs}
use Rattle.program_clock.proofs.Placing.{nth_of, written_more}
use Rattle.program_clock.proofs.settle.give_inputs.Goals as goal

pub bounds-env-target : goal.bounds-env-target
bounds-env-target c =
    let one = nth_of is_input c.args.program.now.defs c.args.links.now.inputs.items c.loop-pad.pad
    c.index-target.result.now c.requires.linked.inputs (omega arith) c.index-target.ensures in
    omega (arith, one.inside, c.loop-pad.invariant.size)

pub offset_bounds-env-target : goal.offset_bounds-env-target
offset_bounds-env-target c =
    let one = nth_of is_input c.args.program.now.defs c.args.links.now.inputs.items c.loop-pad.pad
    c.index-target.result.now c.requires.linked.inputs (omega arith) c.index-target.ensures in
    let inside : c.index-target.result.now < length c.loop-pad.env =
    omega (arith, one.inside, c.loop-pad.invariant.size) in
    search rules

pub loop-pad-preserved : goal.loop-pad-preserved
loop-pad-preserved c =
    written_more is_input c.args.program.now.defs c.args.env.now (slice_index c.args.inputs.now)
    c.args.links.now.inputs.items c.loop-pad.env c.loop-pad.pad c.index-target.result.now c.value_at.result
    c.requires.linked.inputs
    (omega arith) c.index-target.ensures c.value_at.ensures c.loop-pad.invariant

pub returns-clause-given : goal.returns-clause-given
returns-clause-given c =
    has_inputs c.args.program.now.defs c.args.links.now.inputs.items c.args.inputs.now c.args.env.now c.loop-pad.env
    c.loop-pad.pad c.requires.linked.inputs (omega arith) c.loop-pad.invariant
