use Rattle.rtl_form.specs.Step.{zero_state}
use Rattle.rtl_form.proofs.Traces.{one_trace_from}
use Rattle.rtl_form.proofs.laws.one_trace.Goals as goal

pub returns : goal.returns
returns c = λ inputs a b first second. one_trace_from c.args.rtl.now c.requires inputs
    (zero_state c.args.rtl.now) a b first second
