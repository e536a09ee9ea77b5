use Rattle.std.proofs.Common.{subst}
use Rattle.mp_base.specs.Entries.{IsAt}
use Rattle.mp_base.proofs.Entries.{entry}
use Rattle.process_transfers.proofs.Serving.{push_found, pop_found, back_found}
use Rattle.process_transfers.proofs.roles.role_transfer.Goals as goal

pub returns-in-Push : goal.returns-in-Push
returns-in-Push c = λ s at.
    let roles = c.args.layout.now.roles in
    let x = c.in-Stacked in
    push_found c.args.program.now roles c.args.control.now c.args.motion c.args.cell x.process x.level x.place s
    c.push.result c.in-Push.is
    (subst (IsAt roles c.args.cell) x.is (entry roles c.args.cell c.requires.inside c.at.ensures)) at c.push.ensures

pub returns-in-Pop : goal.returns-in-Pop
returns-in-Pop c = λ s at.
    let roles = c.args.layout.now.roles in
    let x = c.in-Stacked in
    pop_found c.args.program.now roles c.args.control.now c.args.motion c.args.cell x.process x.level x.place s
    c.pop.result c.in-Pop.is
    (subst (IsAt roles c.args.cell) x.is (entry roles c.args.cell c.requires.inside c.at.ensures)) at c.pop.ensures

pub returns-in-Back : goal.returns-in-Back
returns-in-Back c = λ s at.
    let roles = c.args.layout.now.roles in
    let x = c.in-Stacked in
    back_found c.args.program.now roles c.args.control.now c.args.motion c.args.cell x.process x.level x.place s
    c.back.result c.in-Back.is c.if-level-eq0.true
    (subst (IsAt roles c.args.cell) x.is (entry roles c.args.cell c.requires.inside c.at.ensures)) at c.back.ensures
