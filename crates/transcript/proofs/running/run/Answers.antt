use Rattle.std.proofs.Common.{◌∙◌, ℕ, refl, arith}
use Rattle.std.proofs.lemmas.Result.{err_from_is_err_and}
use Rattle.outside.specs.declared.calls.Failed.{Failed}
use Rattle.transcript.proofs.Transcripts.{printed_none, printed_more, printed_all, printed_cut}
use Rattle.transcript.proofs.running.run.Goals as goal

pub loop-clock-init : goal.loop-clock-init
loop-clock-init g c = record {
  pads = c.requires.pads;
  room = c.requires.room;
  printed = printed_none g.D.Device.steps c.args.given.now c.args.device.now (g.O.Sink.held c.args.out.now);
  faults = refl;
}

pub returns-in_err-step-clause-printed : goal.returns-in_err-step-clause-printed
returns-in_err-step-clause-printed g c =
    let q = err_from_is_err_and c.from_residual.result c.from_residual.ensures.1 in
    let k : ℕ = c.loop-clock.clock in
    rw (q.1) (printed_cut g.D.Device.steps c.args.given.now k c.args.device.now c.loop-clock.device c.step.new.device
    (g.O.Sink.held c.args.out.now) (g.O.Sink.held c.loop-clock.out)
    (g.O.Sink.held c.step.new.out) c.in_err-step.field-0.0 q.0
    (omega (arith, c.loop-clock-test.true, c.len-clock-end.ensures, c.requires.few_clocks))
    c.loop-clock.invariant.printed c.in_err-step.ensures.printed)

pub loop-clock-preserved : goal.loop-clock-preserved
loop-clock-preserved g c =
    let k : ℕ = c.loop-clock.clock in
    record {
      pads = c.in_ok-step.ensures.pads;
      room = c.in_ok-step.ensures.room;
      printed =
          printed_more g.D.Device.steps {E = Failed} c.args.given.now k c.args.device.now c.loop-clock.device
          c.step.new.device
          (g.O.Sink.held c.args.out.now) (g.O.Sink.held c.loop-clock.out)
          (g.O.Sink.held c.step.new.out) c.in_ok-step.field-0
          (omega (arith, c.loop-clock-test.true, c.len-clock-end.ensures, c.requires.few_clocks))
          c.loop-clock.invariant.printed c.in_ok-step.ensures.printed;
      faults = c.in_ok-step.ensures.cause.ok ∙ c.loop-clock.invariant.faults;
    }

pub returns-clause-printed : goal.returns-clause-printed
returns-clause-printed g c =
    printed_all g.D.Device.steps c.args.given.now c.loop-clock.clock c.args.device.now c.loop-clock.device
    (g.O.Sink.held c.args.out.now)
    (g.O.Sink.held c.loop-clock.out) tt
    (omega (arith, c.loop-clock-test.false, c.len-clock-end.ensures, c.requires.few_clocks))
    c.loop-clock.invariant.printed
