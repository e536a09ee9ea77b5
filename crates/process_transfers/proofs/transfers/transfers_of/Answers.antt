use Rattle.std.proofs.Common.{◌+◌, ◌≤◌, [], length, subst, ap, arith}
use Rattle.process_plan.specs.Bill.{forms_bill, transfers_cost}
use Rattle.process_transfers.specs.Control.{AreReadingsMade}
use Rattle.process_transfers.specs.Wants.{Serves, WantsAt, lands_in}
use Rattle.process_transfers.proofs.Whole.{rooted, control_is, transferring}
use Rattle.process_transfers.proofs.transfers.transfers_of.Goals as goal

pub all_jumps-requires-clause-rooted : goal.all_jumps-requires-clause-rooted
all_jumps-requires-clause-rooted c =
    rooted c.args.program.now c.args.layout.now.roles c.args.layout.now.cells c.args.enabling c.requires.enabled

pub motion_transfers-requires : goal.motion_transfers-requires
motion_transfers-requires c = record {
  control =
      let one = c.all_jumps.new.exprs in
      let two = c.readings_of.new.exprs in
      control_is c.args.program.now c.args.layout.now.roles c.args.layout.now.cells c.args.enabling c.requires.unbroken
      c.requires.cells c.requires.enabled one two c.in_ok-jumps.jumps c.in_ok-readings.readings c.in_ok-jumps.ensures
      (subst (λ rs. AreReadingsMade rs (length rs) one two c.in_ok-readings.readings) c.as_slice-3.ensures
      c.in_ok-readings.ensures);
}

pub motion_transfers-requires-2 : goal.motion_transfers-requires-2
motion_transfers-requires-2 c = record {
  control =
      let one = c.all_jumps.new.exprs in
      let two = c.readings_of.new.exprs in
      control_is c.args.program.now c.args.layout.now.roles c.args.layout.now.cells c.args.enabling c.requires.unbroken
      c.requires.cells c.requires.enabled one two c.in_ok-jumps.jumps c.in_ok-readings.readings c.in_ok-jumps.ensures
      (subst (λ rs. AreReadingsMade rs (length rs) one two c.in_ok-readings.readings) c.as_slice-3.ensures
      c.in_ok-readings.ensures);
}

pub motion_transfers-requires-3 : goal.motion_transfers-requires-3
motion_transfers-requires-3 c = record {
  control =
      let one = c.all_jumps.new.exprs in
      let two = c.readings_of.new.exprs in
      control_is c.args.program.now c.args.layout.now.roles c.args.layout.now.cells c.args.enabling c.requires.unbroken
      c.requires.cells c.requires.enabled one two c.in_ok-jumps.jumps c.in_ok-readings.readings c.in_ok-jumps.ensures
      (subst (λ rs. AreReadingsMade rs (length rs) one two c.in_ok-readings.readings) c.as_slice-3.ensures
      c.in_ok-readings.ensures);
}

pub motion_transfers-requires-4 : goal.motion_transfers-requires-4
motion_transfers-requires-4 c = record {
  control =
      let one = c.all_jumps.new.exprs in
      let two = c.readings_of.new.exprs in
      control_is c.args.program.now c.args.layout.now.roles c.args.layout.now.cells c.args.enabling c.requires.unbroken
      c.requires.cells c.requires.enabled one two c.in_ok-jumps.jumps c.in_ok-readings.readings c.in_ok-jumps.ensures
      (subst (λ rs. AreReadingsMade rs (length rs) one two c.in_ok-readings.readings) c.as_slice-3.ensures
      c.in_ok-readings.ensures);
}

pub returns : goal.returns
returns c =
    let p = c.args.program.now in
    let roles = c.args.layout.now.roles in
    let xs = c.args.layout.now.cells in
    let one = c.all_jumps.new.exprs in
    let two = c.readings_of.new.exprs in
    let a = c.form_transfers.new.transfers in
    let n = length p.forms in
    let start = ap (transfers_cost xs) c.new-transfers.ensures in
    let lands = ap (lands_in (length p.processes) p.forms) c.as_slice-4.ensures in
    let cost : transfers_cost xs a ≤ transfers_cost xs []
    + (forms_bill p.defs p.forms + lands_in (length p.processes) p.forms c.args.enabling.enables) =
    omega (arith, c.in_ok-form_transfers.ensures.cost, start, lands) in
    transferring p roles xs c.args.enabling c.requires.unbroken c.requires.cells c.requires.enabled one two
    c.in_ok-jumps.jumps c.in_ok-readings.readings c.in_ok-jumps.ensures
    (subst (λ rs. AreReadingsMade rs (length rs) one two c.in_ok-readings.readings) c.as_slice-3.ensures
    c.in_ok-readings.ensures)
    a c.motion_transfers.new.transfers c.motion_transfers-2.new.transfers c.motion_transfers-3.new.transfers
    c.motion_transfers-4.new.transfers
    (subst (λ ts. Serves (WantsAt p roles c.args.enabling.enables) n ts a) c.new-transfers.ensures
    (subst (λ es. Serves (WantsAt p roles es) n c.new-transfers.result a) c.as_slice-4.ensures
    c.in_ok-form_transfers.ensures.served))
    c.in_ok-motion_transfers.ensures.served c.in_ok-motion_transfers-2.ensures.served
    c.in_ok-motion_transfers-3.ensures.served c.in_ok-motion_transfers-4.ensures.served cost
    c.in_ok-motion_transfers.ensures.cost c.in_ok-motion_transfers-2.ensures.cost
    c.in_ok-motion_transfers-3.ensures.cost c.in_ok-motion_transfers-4.ensures.cost
