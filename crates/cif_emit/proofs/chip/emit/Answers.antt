use Rattle.cif_emit.specs.Emittable.{chip_rects}
use Rattle.cif_emit.proofs.Cursors.{listed_drawn, listed_form}
use Rattle.cif_emit.proofs.Sliced.{are_bands, made_drawable, made_drawn, made_of_chip}
use Rattle.cif_emit.proofs.chip.emit.Goals as goal

pub symbols_for-requires-clause-bands : goal.symbols_for-requires-clause-bands
symbols_for-requires-clause-bands c = are_bands c.args.chip.now.fabric.rows c.bands_of.result c.bands_of.ensures

pub cif_of-requires : goal.cif_of-requires
cif_of-requires c =
    made_drawable c.args.chip.now c.requires c.bands_of.result c.bands_of.ensures c.in_ok-symbols.symbols
    c.as_slice.result.now c.as_slice.ensures c.in_ok-symbols.ensures c.as_slice-2.result.now c.as_slice-2.ensures

pub returns-clause-commands : goal.returns-clause-commands
returns-clause-commands c =
    listed_form c.cif_of.result c.args.chip.now c.as_slice.result.now c.as_slice-2.result.now c.as_slice-2.ensures
    c.cif_of.ensures (made_of_chip c.args.chip.now c.requires c.bands_of.result c.bands_of.ensures
    c.in_ok-symbols.symbols c.as_slice.result.now c.as_slice.ensures c.in_ok-symbols.ensures)

pub returns-clause-drawn : goal.returns-clause-drawn
returns-clause-drawn c =
    let chip = c.args.chip.now in
    let symbols = c.as_slice.result.now in
    listed_drawn c.cif_of.result (chip_rects chip) symbols c.as_slice-2.result.now chip.labels c.as_slice-2.ensures
    c.cif_of.ensures (c.commands_draw_the_chip.ensures (chip_rects chip) chip.labels symbols
    (made_drawn chip c.requires c.bands_of.result c.bands_of.ensures c.in_ok-symbols.symbols symbols
    c.as_slice.ensures c.in_ok-symbols.ensures))
