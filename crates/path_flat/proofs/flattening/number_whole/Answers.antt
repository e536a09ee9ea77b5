use Rattle.std.proofs.Common.{sym, subst, ◌<◌, ◌≤◌, ◌+◌}
use Rattle.std.specs.Prelude.{All}
use Rattle.path_form.specs.declared.path.Piece.{Piece}
use Rattle.path_flat.proofs.PadNets.{pieces_short}
use Rattle.path_flat.proofs.flattening.number_whole.Goals as goal

pub places-requires : goal.places-requires
places-requires c =
    subst (All (λ (piece : Piece). piece.first ≤ piece.last → piece.last + 1 < 4294967296)) (sym c.as_slice.ensures)
    (pieces_short c.args.path.now)
