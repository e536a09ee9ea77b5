use Rattle.std.proofs.Common.{sym, subst}
use Rattle.mp_rules.specs.Breaking.{IsUnbroken}
use Rattle.compile_laws.specs.Laws.{MakesChips}
use Rattle.chip_text.proofs.Chips.{drawn_few, made}
use Rattle.chip_text.proofs.chip.chip_of.Goals as goal

pub chips_are_made-requires : goal.chips_are_made-requires
chips_are_made-requires c = subst IsUnbroken (sym c.program.ensures) c.unbroken.ensures

pub returns-clause-few : goal.returns-clause-few
returns-clause-few c =
    drawn_few c.args.checked.now.program c.in_ok-rtl.rtl c.in_ok-chip.field-0.chip c.in_ok-rtl.ensures
    c.in_ok-chip.ensures.planned

pub returns-clause-made : goal.returns-clause-made
returns-clause-made c =
    made c.args.checked.now.program c.in_ok-rtl.rtl c.in_ok-chip.field-0.chip
    (subst MakesChips c.program.ensures c.chips_are_made.ensures) c.in_ok-rtl.ensures c.in_ok-chip.ensures.planned
    c.in_ok-chip.ensures.bounded
