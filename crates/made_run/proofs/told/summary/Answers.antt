use Rattle.std.proofs.Common.{◌∙◌, sym, ap, subst}
use Rattle.std.proofs.lemmas.Result.{IfOk-weaker}
use Rattle.switch_net.specs.declared.network.Network.{Network}
use Rattle.mask_net.specs.SizeLine.{size_text}
use Rattle.made_run.specs.Summary.{IsSummary}
use Rattle.made_run.proofs.told.summary.Goals as goal

pub text_along-text-requires-clause-fresh : goal.text_along-text-requires-clause-fresh
text_along-text-requires-clause-fresh c = c.in_ok-summing.ensures.fresh

pub text_along-text-requires-clause-size : goal.text_along-text-requires-clause-size
text_along-text-requires-clause-size c =
    c.deref.ensures.value ∙ c.in_ok-size.ensures ∙ ap size_text (sym c.in_ok-summing.ensures.network)

pub returns : goal.returns
returns c =
    IfOk-weaker c.text_along-text.result _ _
    (λ text told.
    subst (λ (net : Network). IsSummary c.args.weight net c.args.given.now text.items) c.in_ok-summing.ensures.network
    told) c.text_along-text.ensures
