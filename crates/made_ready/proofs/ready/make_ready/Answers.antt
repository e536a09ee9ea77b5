use Rattle.std.proofs.Common.{◌∙◌, ◌≤◌, sym, subst, length, Some, None}
use Rattle.mp_program.specs.Pads.{ArePadsOf}
use Rattle.stimulus.specs.Reading.{IsStimulus}
use Rattle.mp_source.specs.Source.{IsSource, OfSource}
use Rattle.made_ready.proofs.Reading.{read_is_made, made_inputs, few_inputs}
use Rattle.made_ready.proofs.Clocks.{ready_for}
use Rattle.made_ready.proofs.ready.make_ready.Goals as goal

pub unbroken_source-requires : goal.unbroken_source-requires
unbroken_source-requires c =
    let text = sym (c.bytes.ensures ∙ c.in_ok-made.ensures.source) in
    let made = c.made_sources_are_sources.ensures c.args.seed in
    record {
      short = subst (λ t. length t ≤ 2000) text (c.made_sources_are_short.ensures c.args.seed);
      whole = subst (λ t. OfSource t None) text (made.0, made.1);
    }

pub unbroken_stimulus-requires : goal.unbroken_stimulus-requires
unbroken_stimulus-requires c =
    let p = c.in_ok-checked.checked.program in
    let pads = c.in_ok-checked.checked.pads in
    let source =
    subst (λ t. IsSource t p) (c.bytes.ensures ∙ c.in_ok-made.ensures.source) c.in_ok-checked.ensures in
    let m = read_is_made c.one_source.ensures c.made_sources_are_sources.ensures c.args.seed p source in
    let known = subst (ArePadsOf p) c.pads.ensures.same c.pads.ensures.padded in
    let inputs = made_inputs p pads m known in
    let made = c.made_stimuli_are_stimuli.ensures c.args.seed pads inputs in
    let text = sym (c.bytes-2.ensures ∙ c.in_ok-made.ensures.stimulus) in
    record {
      short = subst (λ t. length t ≤ 2000) text (c.made_stimuli_are_short.ensures c.args.seed);
      few = few_inputs pads inputs;
      whole = (made.0, subst (λ t. IsStimulus t (Some pads) made.0) text made.1);
    }

pub returns : goal.returns
returns c =
    let checked = c.in_ok-checked.checked in
    let given = c.in_ok-stimulus.stimulus in
    let source =
    subst (λ t. IsSource t checked.program) (c.bytes.ensures ∙ c.in_ok-made.ensures.source) c.in_ok-checked.ensures in
    let known = subst (ArePadsOf checked.program) c.pads.ensures.same c.pads.ensures.padded in
    let read =
    subst (λ t. IsStimulus t (Some checked.pads) given) (c.bytes-2.ensures ∙ c.in_ok-made.ensures.stimulus)
    c.in_ok-stimulus.ensures in
    let told =
    ready_for c.one_source.ensures c.made_sources_are_sources.ensures c.made_stimuli_are_stimuli.ensures
    c.one_stimulus.ensures.clocks c.args.seed checked.program checked.pads given source known read in
    record {
      source = source;
      stimulus = read;
      known = known;
      padded = told.padded;
      few_inputs = told.few_inputs;
      one_output = told.one_output;
      clocks = told.clocks;
      settled = told.settled;
    }
