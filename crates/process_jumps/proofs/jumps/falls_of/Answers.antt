use Rattle.std.proofs.Common.{◌∙◌, ap, arith}
use Rattle.mp_base.proofs.Entries.{entry}
use Rattle.process_plan.specs.declared.enable.Origin.TheVariants.{At}
use Rattle.process_jumps.specs.declared.moves.Group.TheVariants.{Inside}
use Rattle.process_jumps.specs.Moves.{picked}
use Rattle.process_jumps.proofs.Jumping.{falls_more, falls_all}
use Rattle.process_jumps.proofs.jumps.falls_of.Goals as goal

pub enabled_by-enable-requires : goal.enabled_by-enable-requires
enabled_by-enable-requires c =
    let k = c.args.process in
    let i = c.loop-place.place in
    let f = c.at-in-loop-place.result.now in
    let (a, has) = c.requires.rooted k i f (
      c.at.result.now,
      entry c.args.program.now.processes k c.requires.inside c.at.ensures,
      entry c.at.result.now.forms i (omega arith) c.at-in-loop-place.ensures,
    ) in
    (record { origin = At k i; expr = a }, has)

pub loop-place-preserved : goal.loop-place-preserved
loop-place-preserved c =
    let k = c.args.process in
    let n = c.loop-place.place in
    falls_more c.args.program.now c.args.enables.now k n c.at-in-loop-place.result.now c.enabled_by-enable.result
    c.in_ok-fall_of.field-0 c.at.result.now c.as_slice.result.now c.args.exprs.now c.loop-place.exprs
    c.fall_of.new.exprs c.loop-place.falls c.push.new.self
    (entry c.args.program.now.processes k c.requires.inside c.at.ensures)
    (entry c.at.result.now.forms n (omega arith) c.at-in-loop-place.ensures) c.enabled_by-enable.ensures
    (c.as_slice.ensures ∙ c.in_ok-inside.ensures ∙ ap (picked (Inside k n)) c.requires.moves) c.loop-place.invariant
    c.in_ok-fall_of.ensures c.in_ok-push.ensures.ok

pub returns : goal.returns
returns c =
    falls_all c.args.program.now c.args.enables.now c.args.process c.loop-place.place c.at.result.now c.args.exprs.now
    c.loop-place.exprs c.loop-place.falls
    (entry c.args.program.now.processes c.args.process c.requires.inside c.at.ensures) (omega arith)
    c.loop-place.invariant
