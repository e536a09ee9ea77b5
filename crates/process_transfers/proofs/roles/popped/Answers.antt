use Rattle.std.proofs.Common.{◌≡◌, ◌+◌, suc, subst, arith}
use Rattle.mp_base.proofs.Entries.{entry}
use Rattle.process_plan.specs.declared.role.Role.TheVariants.{Stacked}
use Rattle.process_transfers.specs.Wants.{IsFound, IsRead}
use Rattle.process_transfers.proofs.Serving.{popped_below}
use Rattle.process_transfers.proofs.roles.popped.Goals as goal

pub returns : goal.returns
returns c =
    let roles = c.args.layout.now.roles in
    let x = c.args.control.now in
    let next : c.args.level + 1 ≡ suc c.args.level = omega arith in
    popped_below c.args.program.now roles x c.args.process c.args.level c.args.place c.at.result.now c.reading.result
    (entry c.args.program.now.processes c.args.process c.requires.inside c.at.ensures) (λ e. omega (arith, e))
    (subst (λ n. IsFound (IsRead roles x (Stacked c.args.process n c.args.place)) c.reading.result) next
    c.reading.ensures)
