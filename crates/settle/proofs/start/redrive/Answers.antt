use Rattle.std.proofs.Common.{List, ◌∙◌, subst, sym}
use Rattle.mp_base.specs.declared.value.Trit.{Trit}
use Rattle.switch_net.specs.Values.{value_at, driver_at}
use Rattle.settle.specs.Start.{IsReady}
use Rattle.settle.proofs.Starting.{redrives_ready}
use Rattle.settle.proofs.start.redrive.Goals as goal

pub change_all-requires-clause-driven : goal.change_all-requires-clause-driven
change_all-requires-clause-driven c = c.requires.rest.solution.driven

pub returns : goal.returns
returns c =
    let b = c.args.board.now in
    let net = b.network.now in
    subst
    (λ (had : List Trit). IsReady
    (record { channels = net.channels; driver = driver_at b.drive.now; before = value_at had }) c.change_all.new.values
    c.change_all.new.waits)
    (sym c.requires.before)
    (redrives_ready net.channels net.nodes net.ends_in b.gated.now c.requires.moment.gated c.args.last.now b.drive.now
    c.requires.last c.requires.moment.drive_sized
    c.args.values.now c.change_all.new.values c.change_all.new.waits
    (c.change_all.auto.waits ∙ c.requires.waits) c.change_all.ensures c.ordered_settings_settle.ensures.redriven
    c.requires.rest.solution)
