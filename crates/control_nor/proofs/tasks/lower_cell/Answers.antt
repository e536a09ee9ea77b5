use Rattle.std.proofs.Common.{List, subst, sym, ap, ◌∙◌}
use Rattle.std.specs.Prelude.{All}
use Rattle.rtl_form.specs.declared.rtl.Transfer.{Transfer}
use Rattle.bit_gates.specs.Cells.{IsTransferNamed, transfers_to}
use Rattle.control_nor.proofs.tasks.lower_cell.Goals as goal

pub lower_driven-requires-clause-named : goal.lower_driven-requires-clause-named
lower_driven-requires-clause-named c =
    let named = c.requires.named c.if-cell.false in
    subst (All (IsTransferNamed c.args.exprs.now))
    (sym (c.as_slice-2.ensures ∙ (c.in_ok-transfers.ensures
    ∙ ap (λ (ts : List Transfer). transfers_to ts c.args.index) c.as_slice.ensures)))
    named
