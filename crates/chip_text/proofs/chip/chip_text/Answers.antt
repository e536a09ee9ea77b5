use Rattle.chip_text.proofs.Chips.{in_text}
use Rattle.chip_text.proofs.chip.chip_text.Goals as goal

pub returns : goal.returns
returns c =
    in_text c.args.checked.now.program c.written_is_read.ensures c.reading_is_unique.ensures c.in_ok-chip.chip
    c.in_ok-chip.ensures.emittable.names c.in_ok-chip.ensures.few c.text_of.result c.text_of.ensures
    c.in_ok-chip.ensures.made
