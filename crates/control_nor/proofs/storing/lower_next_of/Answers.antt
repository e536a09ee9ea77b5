use Rattle.std.proofs.Common.{List, Option, subst, sym, ap, ◌∙◌}
use Rattle.std.specs.Prelude.{All}
use Rattle.rtl_form.specs.declared.rtl.Transfer.{Transfer}
use Rattle.bit_gates.specs.Cells.{IsTransferNamed, transfers_to}
use Rattle.bit_gates.specs.declared.rails.Rails.{Rails}
use Rattle.control_nor.proofs.storing.lower_next_of.Goals as goal

pub lower_next-requires-clause-named : goal.lower_next-requires-clause-named
lower_next-requires-clause-named c =
    let named = c.requires.named (sym c.is_stored.ensures ∙ c.if-is_stored.true) in
    subst (λ (es : List (Option Rails)). All (IsTransferNamed es) c.as_slice-then-is_stored-3.result.now)
    (sym c.as_slice-then-is_stored-2.ensures)
    (subst (All (IsTransferNamed c.args.bits.now.exprs))
    (sym (c.as_slice-then-is_stored-3.ensures ∙ (c.in_ok-transfers.ensures
    ∙ ap (λ (ts : List Transfer). transfers_to ts c.args.index) c.as_slice.ensures))) named)
