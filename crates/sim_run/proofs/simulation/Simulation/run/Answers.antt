use Rattle.std.proofs.Common.{◌≡◌, ◌∙◌, sym, subst}
use Rattle.switch_net.specs.declared.network.Network.{Network}
use Rattle.switch_net.specs.Breaks.{HasPads}
use Rattle.switch_net.specs.Values.{value_at}
use Rattle.transcript.specs.Running.{PrintsTranscript}
use Rattle.sim_run.specs.Simulation.{Simulating}
use Rattle.sim_run.specs.Transcript.{NetworkSteps}
use Rattle.sim_run.proofs.Transcripts.{network_kept, prints_transcript}
use Rattle.sim_run.proofs.simulation.Simulation.run.Goals as goal

pub invariant_of-self : goal.invariant_of-self
invariant_of-self g c =
    let s = c.self.inside.given.now in
    let runs = c.run.ensures.printed in
    let H : Network → Type 0 = λ net. HasPads net s.pads in
    record {
      pads = c.run.ensures.pads ∙ c.self.invariant.pads;
      has_pads =
          subst H (sym
          (network_kept c.self.inside.circuit c.run.new.device _ runs.shown runs.runs)) c.self.invariant.has_pads;
      has_room = c.run.ensures.room;
      few_inputs = c.self.invariant.few_inputs;
      few_clocks = c.self.invariant.few_clocks;
    }

pub returns-clause-network : goal.returns-clause-network
returns-clause-network g c =
    let runs = c.run.ensures.printed in
    let N : Simulating → Type 0 = λ m. c.run.new.device.network ≡ m.network in
    subst N c.self.view_is (network_kept c.self.inside.circuit c.run.new.device _ runs.shown runs.runs)

pub returns-clause-printed : goal.returns-clause-printed
returns-clause-printed g c =
    let s = c.self.inside.given.now in
    let old = g.O.Sink.held c.args.out.now in
    let new = g.O.Sink.held c.run.new.out in
    let P : Simulating → Type 0 =
    λ m. PrintsTranscript (NetworkSteps m.network (m.given).pads) m.given (value_at m.values)
    (value_at c.run.new.device.values) old new c.run.result in
    subst P c.self.view_is
    (prints_transcript s c.self.inside.circuit c.run.new.device old new c.run.result c.self.invariant.pads
    c.self.invariant.has_pads c.circuits_run.ensures.exist c.run.ensures.printed)
