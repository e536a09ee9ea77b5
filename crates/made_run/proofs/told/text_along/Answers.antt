use Rattle.std.proofs.Common.{◌∙◌, ◌++◌, ap, ap₂}
use Rattle.std.proofs.lemmas.Result.{IfOk-weaker}
use Rattle.switch_net.specs.Values.{value_at}
use Rattle.switch_net.specs.declared.network.Network.{Network}
use Rattle.mask_net.specs.SizeLine.{last_line}
use Rattle.made_run.specs.Summary.{summary_text}
use Rattle.made_run.proofs.told.text_along.Goals as goal

pub returns : goal.returns
returns c =
    let net = c.args.summing.now.circuit.network in
    let after = c.run_along.new.summing in
    let ran = c.in_ok-run_along.ensures in
    IfOk-weaker c.text_of.result _ _
    (λ text told. record {
      end = value_at after.circuit.values;
      sum = after.sum;
      run = ran.run;
      lines =
          told net c.requires.size (c.values.ensures.sized ∙ ap (λ (n : Network). n.nodes) ran.network)
          ∙ ap₂ (λ s v. summary_text c.args.weight s ++ last_line net (value_at v)) c.sum.ensures c.values.ensures.same;
    }) c.text_of.ensures
