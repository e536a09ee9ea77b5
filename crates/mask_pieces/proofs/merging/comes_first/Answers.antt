use Rattle.std.proofs.Common.{arith}
use Rattle.std.proofs.lemmas.Option.{slice_get-get_or}
use Rattle.mask_pieces.specs.Pieces.{no_piece}
use Rattle.mask_pieces.proofs.Listing.{first_or_second}
use Rattle.mask_pieces.proofs.merging.comes_first.Goals as goal

pub returns-else-j-b : goal.returns-else-j-b
returns-else-j-b c =
    let a = c.args.a.now in
    let b = c.args.b.now in
    let r = c.requires in
    first_or_second a b c.args.i c.args.j _ _ c.is_before.result c.requires.apart
    (slice_get-get_or a c.args.i no_piece (omega arith))
    (slice_get-get_or b c.args.j no_piece (omega arith)) c.is_before.ensures
