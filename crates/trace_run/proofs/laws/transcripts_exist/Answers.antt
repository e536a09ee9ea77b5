use Rattle.std.proofs.Common.{◌∙◌, map, refl, sym, ap}
use Rattle.mp_base.specs.PadBits.{value_bits}
use Rattle.stimulus.specs.Inputs.{inputs_of}
use Rattle.stimulus.specs.Transcript.{lines_text}
use Rattle.trace_run.proofs.Transcripts.{trace_runs, run_traces}
use Rattle.trace_run.proofs.laws.transcripts_exist.Goals as goal

pub returns-clause-exist : goal.returns-clause-exist
returns-clause-exist c given before is =
    let p = c.args.checked.now.program in
    let pads = (given.pads).outputs in
    let run = c.traces_exist.ensures.exist before (inputs_of given) is in (
      run.1,
      lines_text 0 pads (map (value_bits pads) run.0),
      record {
        shown = map (value_bits pads) run.0;
        runs = trace_runs p pads before run.1 (inputs_of given) run.0 run.2;
        lines = refl;
      },
    )

pub returns-clause-once : goal.returns-clause-once
returns-clause-once c given before v w text other is a b =
    let p = c.args.checked.now.program in
    let pads = (given.pads).outputs in
    let x = run_traces p pads before v (inputs_of given) a.shown a.runs in
    let y = run_traces p pads before w (inputs_of given) b.shown b.runs in
    let same = c.traces_exist.ensures.once before v w (inputs_of given) x.0 y.0 is x.1 y.1 in
    (a.lines ∙ ap (lines_text 0 pads) (x.2 ∙ ap (map (value_bits pads)) same.0 ∙ sym y.2) ∙ sym b.lines, same.1)
