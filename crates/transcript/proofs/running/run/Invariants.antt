use Rattle.std.proofs.Common.{◌≡◌}
use Rattle.transcript.specs.Running.{HasRoom}
use Rattle.transcript.proofs.Transcripts.{PrintedTo}
use Rattle.transcript.proofs.running.run.Given as goal

abbrev pub invariant-loop-clock : goal.invariant-loop-clock
invariant-loop-clock g l = record {
  pads : g.D.Device.pads_of l.device ≡ l.fn.given.pads;
  room : HasRoom l.fn.given.pads l.room;
  printed : PrintedTo g.D.Device.steps l.fn.given l.clock l.fn.device l.device (g.O.Sink.held l.fn.out)
      (g.O.Sink.held l.out);
  faults : g.O.Sink.faults l.out ≡ g.O.Sink.faults l.fn.out;
}
