use Rattle.std.proofs.Common.{◌∙◌, subst}
use Rattle.std.specs.List.{AllZip}
use Rattle.mp_base.specs.declared.pad.Pads.{Pads}
use Rattle.switch_net.specs.Values.{value_at}
use Rattle.switch_net.specs.Clock.{Shows}
use Rattle.stimulus.specs.Bits.{trits_of}
use Rattle.clock_run.proofs.Clocking.{six_settings}
use Rattle.clock_run.proofs.circuit.Circuit.clock.Goals as goal

pub returns-clause-clock : goal.returns-clause-clock
returns-clause-clock c =
    let words = c.args.inputs.now in
    let a = c.args.self.now in
    let b = c.set.new.self in
    let d = c.set-2.new.self in
    let shown : AllZip (Shows d.network (value_at d.values)) d.pads.outputs
    (trits_of a.pads.outputs c.show.new.outputs) =
    subst (λ (x : Pads). AllZip (Shows d.network (value_at d.values)) d.pads.outputs
    (trits_of x.outputs c.show.new.outputs))
    (c.set-2.ensures.pads ∙ c.set.ensures.pads) c.show.ensures.shown in
    six_settings words a b d c.set-3.new.self c.set-4.new.self c.set-5.new.self c.set-6.new.self
    (trits_of a.pads.outputs c.show.new.outputs)
    (record { network = c.set.ensures.network; pads = c.set.ensures.pads; settled = c.set.ensures.settled })
    (record { network = c.set-2.ensures.network; pads = c.set-2.ensures.pads; settled = c.set-2.ensures.settled })
    shown
    (record { network = c.set-3.ensures.network; pads = c.set-3.ensures.pads; settled = c.set-3.ensures.settled })
    (record { network = c.set-4.ensures.network; pads = c.set-4.ensures.pads; settled = c.set-4.ensures.settled })
    (record { network = c.set-5.ensures.network; pads = c.set-5.ensures.pads; settled = c.set-5.ensures.settled })
    (record { network = c.set-6.ensures.network; pads = c.set-6.ensures.pads; settled = c.set-6.ensures.settled })
