use Rattle.std.proofs.Common.{◌∙◌, ap}
use Rattle.process_jumps.specs.declared.moves.Group.TheVariants.{Calls, Returns}
use Rattle.process_jumps.specs.Moves.{picked}
use Rattle.process_jumps.proofs.Jumping.{jumps_made}
use Rattle.process_jumps.proofs.jumps.jumps_of.Goals as goal

pub returns : goal.returns
returns c =
    let k = c.args.process in
    jumps_made c.args.program.now c.args.enables.now k c.args.exprs.now c.union_of.new.exprs c.union_of-2.new.exprs
    c.falls_of.new.exprs c.in_ok-calls.calls c.in_ok-returns.returns c.in_ok-calls-2.calls c.in_ok-returns-2.returns
    c.in_ok-falls.falls (c.in_ok-calls.ensures ∙ ap (picked (Calls k)) c.requires.moves)
    (c.in_ok-returns.ensures ∙ ap (picked (Returns k)) c.requires.moves) c.in_ok-calls-2.ensures
    c.in_ok-returns-2.ensures c.in_ok-falls.ensures
