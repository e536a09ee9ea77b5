use Rattle.std.proofs.Common.{Some, subst}
use Rattle.mp_base.specs.Refuses.{RefusesAt}
use Rattle.mp_base.specs.declared.refusal.Family.TheVariants.{S}
use Rattle.stimulus.specs.Reading.{IsFirst}
use Rattle.made_ready.proofs.Reading.{no_first}
use Rattle.made_ready.proofs.ready.unbroken_stimulus.Goals as goal

pub unreachable-requires : goal.unreachable-requires
unreachable-requires c =
    let text = c.args.text.now in
    let first = subst (λ why. RefusesAt S why (IsFirst text (Some c.args.checked.now.pads))) c.in-Err-Broken.field-0-is
    (rw c.pads.ensures.same at c.in-Err-Broken.ensures.judged) in
    no_first c.one_first_rule.ensures.whole text (Some c.args.checked.now.pads) c.requires.whole.0
    c.in-Err-Broken.field-0-0 c.requires.whole.1 first
