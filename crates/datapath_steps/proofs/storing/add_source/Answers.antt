use Rattle.std.proofs.Common.{◌∙◌}
use Rattle.datapath_steps.proofs.StoredWords.{source_made}
use Rattle.datapath_steps.proofs.storing.add_source.Goals as goal

pub returns : goal.returns
returns c =
    source_made c.args.terms c.args.slave c.args.clear c.args.making.now c.add_gate.new.making c.add_gate-2.new.making
    c.add_gate-3.new.making c.in_ok-hold.hold c.in_ok-off.off c.in_ok-source.source c.as_slice.result.now
    c.as_slice-2.result.now (c.as_slice.ensures ∙ c.in_ok-guards.ensures)
    (c.as_slice-2.ensures ∙ c.in_ok-push.ensures.ok) c.in_ok-hold.ensures c.in_ok-off.ensures c.in_ok-source.ensures
