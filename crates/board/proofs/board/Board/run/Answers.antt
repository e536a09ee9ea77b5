use Rattle.std.proofs.Common.{◌∙◌, refl, sym, ap, arith}
use Rattle.std.proofs.lemmas.Result.{err_from_is_err_and}
use Rattle.board.specs.Loop.{Wired}
use Rattle.board.proofs.Faces.{parts_kept, same_length}
use Rattle.board.proofs.Loops.{looped_none, looped_more, loop_whole, loop_cut}
use Rattle.board.proofs.board.Board.run.Goals as goal

pub loop-clock-init : goal.loop-clock-init
loop-clock-init g c = record {
  wired = refl;
  done = omega arith;
  pads = refl;
  long = refl;
  names = refl;
  looped =
      looped_none g.D.Device.steps c.args.self.now.wired c.args.self.now.done c.args.device.now _
      (g.O.Sink.held c.args.out.now);
  faults = refl;
}

pub clock-requires-clause-pads : goal.clock-requires-clause-pads
clock-requires-clause-pads g c =
    c.loop-clock.invariant.pads ∙ c.requires.pads ∙ ap (λ (w : Wired). w.pads) (sym c.loop-clock.invariant.wired)

pub clock-requires-clause-parts : goal.clock-requires-clause-parts
clock-requires-clause-parts g c =
    parts_kept c.loop-clock.self.wired c.args.self.now.wired _ _ c.loop-clock.invariant.wired
    c.loop-clock.invariant.long
    c.requires.parts

pub loop-clock-preserved : goal.loop-clock-preserved
loop-clock-preserved g c =
    let h = c.loop-clock.invariant in
    let e = c.in_ok-clock.ensures in record {
      wired = e.wired ∙ h.wired;
      done = omega (arith, e.done, h.done);
      pads = e.pads ∙ h.pads;
      long = same_length _ c.clock.new.parts.items c.loop-clock.parts.items e.names ∙ h.long;
      names = e.names ∙ h.names;
      looped =
          looped_more g.D.Device.steps c.args.self.now.wired c.args.self.now.done c.args.device.now _
          (g.O.Sink.held c.args.out.now) c.loop-clock.self.wired c.loop-clock.self.done c.clock.new.self.done
          c.loop-clock.device c.clock.new.device _ _ (g.O.Sink.held c.loop-clock.out) (g.O.Sink.held c.clock.new.out)
          c.in_ok-clock.field-0 h.wired e.done h.looped e.printed;
      faults = e.cause.ok ∙ h.faults;
    }

pub returns-in_err-clock-clause-printed : goal.returns-in_err-clock-clause-printed
returns-in_err-clock-clause-printed g c =
    let h = c.loop-clock.invariant in
    let e = c.in_err-clock.ensures in
    let q = err_from_is_err_and c.from_residual.result c.from_residual.ensures.1 in
    rw (q.1) (loop_cut g.D.Device.steps c.args.self.now.wired c.args.self.now.done c.args.device.now _
    (g.O.Sink.held c.args.out.now) c.loop-clock.self.wired c.loop-clock.self.done c.clock.new.self.done c.args.clocks
    c.loop-clock._clock c.loop-clock.device c.clock.new.device _ _ (g.O.Sink.held c.loop-clock.out)
    (g.O.Sink.held c.clock.new.out) c.in_err-clock.field-0.0 q.0 h.wired e.kept h.done c.loop-clock-test.true h.looped
    e.printed)

pub returns-clause-printed : goal.returns-clause-printed
returns-clause-printed g c =
    let h = c.loop-clock.invariant in
    loop_whole g.D.Device.steps c.args.self.now.wired c.args.self.now.done c.args.device.now _
    (g.O.Sink.held c.args.out.now) c.loop-clock.self.done c.args.clocks c.loop-clock._clock c.loop-clock.device _
    (g.O.Sink.held c.loop-clock.out) tt h.done c.loop-clock-test.false (omega arith) h.looped
