use Rattle.std.proofs.Common.{List, Option, subst}
use Rattle.std.proofs.lemmas.Result.{on_ok_weaker}
use Rattle.bit_gates.specs.declared.rails.Rails.{Rails}
use Rattle.bit_gates.specs.Rails.{Named}
use Rattle.control_nor.proofs.Begins.{all_next}
use Rattle.control_nor.proofs.lower.lower_next_values.Goals as goal

pub returns-in-Some : goal.returns-in-Some
returns-in-Some c =
    on_ok_weaker
    c.lower_all_next.result
    (all_next c.args.rtl.now c.args.bits.now c.in-Some.index c.named.result c.args.net.now c.lower_all_next.new.net
    c.in-Some.is
    (subst (λ (xs : List (Option Rails)). Named xs c.in-Some.index c.named.result) c.as_slice.ensures
    c.named.ensures))
    c.lower_all_next.ensures

pub returns-in-None : goal.returns-in-None
returns-in-None c =
    Rattle.control_nor.proofs.Begins.none_next c.args.rtl.now c.requires.sound c.args.bits.now c.args.net.now
    c.in-None.is
