use Rattle.std.proofs.Common.{◌<◌, sym, subst, arith, length, All}
use Rattle.std.proofs.lemmas.Option.{slice_get_within}
use Rattle.mp_base.proofs.Entries.{contains_from_get}
use Rattle.mask_pieces.specs.Pieces.{AreNumbersOf}
use Rattle.mask_pieces.proofs.Assembling.{numbers_from}
use Rattle.mask_pieces.proofs.Covering.{numbers_inside}
use Rattle.mask_pieces.proofs.layered.layered.Goals as goal

pub tile_numbers-requires : goal.tile_numbers-requires
tile_numbers-requires c k p e l =
    let w = c.requires.of.each p (contains_from_get c.args.pieces.now k p e) l in
    let n = slice_get_within c.args.swept.now.tiles p.tile w.0 w.1 in
    let m = c.len.ensures in
    omega arith

pub pieces_over-requires-clause-pieces : goal.pieces_over-requires-clause-pieces
pieces_over-requires-clause-pieces c =
    let n = numbers_from c.args.layer c.args.swept.now.tiles c.args.pieces.now c.in_ok-numbers.numbers.items
    c.len.result c.len.ensures c.requires.of c.in_ok-numbers.ensures in
    subst (All (λ k. k < length c.args.pieces.now)) (sym c.as_slice-2.ensures.value)
    (numbers_inside c.args.layer c.args.swept.now.tiles c.args.pieces.now c.in_ok-numbers.numbers.items n)

pub returns-clause-numbers : goal.returns-clause-numbers
returns-clause-numbers c =
    subst (AreNumbersOf c.args.layer c.args.swept.now.tiles c.args.pieces.now) (sym c.from_vec.ensures)
    (numbers_from c.args.layer c.args.swept.now.tiles c.args.pieces.now c.in_ok-numbers.numbers.items c.len.result
    c.len.ensures c.requires.of c.in_ok-numbers.ensures)
