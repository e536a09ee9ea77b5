use Rattle.std.proofs.Common.{sym, ◌∙◌, subst}
use Rattle.path_test.specs.Becoming.{GateBecomes}
use Rattle.path_test.proofs.Telling.{held_low}
use Rattle.path_test.proofs.gates.gate_becomes.Goals as goal

pub returns-then-all_stay : goal.returns-then-all_stay
returns-then-all_stay c = λ e.
    subst (GateBecomes c.args.table.now c.args.net.now c.args.inputs.now) (sym c.in-Low.is)
    (held_low c.args.table.now c.args.inputs.now (sym c.all_stay.ensures ∙ c.if-all_stay.true)
    (sym c.has_high.ensures ∙ e))
