use Rattle.std.proofs.Common.{sym, subst}
use Rattle.outside.specs.declared.calls.Failed.{Failed}
use Rattle.sim_run.specs.Simulation.{Simulating}
use Rattle.replay_run.specs.Replay.{IsReady, PrintsReplay}
use Rattle.replay_run.proofs.replay.Replay.run.Goals as goal

pub run_clocks-printed-requires : goal.run_clocks-printed-requires
run_clocks-printed-requires g c = record {
  ready = subst (IsReady c.self.inside.simulation) (sym c.deref.ensures.value) c.self.invariant;
}

pub returns-clause-printed : goal.returns-clause-printed
returns-clause-printed g c =
    let P : Simulating → Type 0 = λ m. PrintsReplay {T = Unit {0}} {E = Failed} m.network m.given
    (g.O.Sink.held c.args.out.now) (g.O.Sink.held c.run_clocks-printed.new.out) c.run_clocks-printed.result in
    subst P c.self.view_is c.run_clocks-printed.ensures.printed

pub returns-clause-cause : goal.returns-clause-cause
returns-clause-cause g c = c.run_clocks-printed.ensures.cause
