use Rattle.std.proofs.Common.{sym, ◌∙◌}
use Rattle.path_test.proofs.Telling.{nets_become}
use Rattle.path_test.proofs.gates.become_nets.Goals as goal

pub returns-then-are_among : goal.returns-then-are_among
returns-then-are_among c = λ e. nets_become c.args.table.now c.args.inputs.now c.args.others.now
    (sym c.are_among.ensures ∙ c.if-are_among.true) (sym c.are_wanted.ensures ∙ e)
