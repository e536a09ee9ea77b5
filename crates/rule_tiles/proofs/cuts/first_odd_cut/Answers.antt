-- The first tile that isn't a square cut.
use Rattle.rule_tiles.proofs.Flags.{first_odd}
use Rattle.rule_tiles.proofs.cuts.first_odd_cut.Goals as goal

pub first_flagged-requires : goal.first_flagged-requires
first_flagged-requires c = rw (c.as_slice.ensures, c.as_slice-2.ensures) c.in_ok-cuts.ensures.odd.long

pub returns : goal.returns
returns c =
    let told = c.in_ok-cuts.ensures in
    first_odd c.args.shapes.now c.in_ok-cuts.cuts.tiles told.tiles told.whole c.rectangles_are_joined.ensures
    c.in_ok-cuts.cuts.odd told.odd c.first_flagged.result
    (rw (c.as_slice.ensures, c.as_slice-2.ensures) at c.first_flagged.ensures)
