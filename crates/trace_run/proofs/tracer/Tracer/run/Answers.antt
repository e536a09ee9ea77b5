use Rattle.std.proofs.Common.{◌≡◌, subst}
use Rattle.transcript.specs.Running.{PrintsTranscript}
use Rattle.trace_run.specs.Tracer.{Tracing}
use Rattle.trace_run.specs.Transcript.{ProgramSteps}
use Rattle.trace_run.specs.Laws.{StatesLast, TraceExists}
use Rattle.trace_run.proofs.Transcripts.{program_kept, prints_transcript}
use Rattle.trace_run.proofs.tracer.Tracer.run.Goals as goal

pub returns-clause-program : goal.returns-clause-program
returns-clause-program g c =
    let runs = c.run.ensures.printed in
    let P : Tracing → Type 0 = λ m. c.run.new.device.program ≡ m.program in
    subst P c.self.view_is (program_kept c.self.inside.source c.run.new.device _ runs.shown runs.runs)

pub returns-clause-printed : goal.returns-clause-printed
returns-clause-printed g c =
    let s = c.self.inside.given.now in
    let old = g.O.Sink.held c.args.out.now in
    let new = g.O.Sink.held c.run.new.out in
    let P : Tracing → Type 0 = λ m. PrintsTranscript (ProgramSteps m.program ((m.given).pads).outputs) m.given m.state
    c.run.new.device.state old new c.run.result in
    subst P c.self.view_is
    (prints_transcript s c.self.inside.source c.run.new.device old new c.run.result c.self.invariant.pads
    (subst StatesLast c.checked.ensures c.clocks_fit.ensures.last)
    (subst TraceExists c.checked-2.ensures c.traces_exist.ensures.exist)
    c.sound.ensures c.run.ensures.printed)
