use Rattle.std.proofs.lemmas.Result.{err_from_is_err_and}
use Rattle.cif_emit.proofs.Pieces.{part_written}
use Rattle.cif_emit.proofs.stream.write_piece.Goals as goal

pub returns-in_err-write_all-clause-put_off : goal.returns-in_err-write_all-clause-put_off
returns-in_err-write_all-clause-put_off g c =
    let p = err_from_is_err_and c.from_residual.result c.from_residual.ensures.1 in
    part_written c.in_err-write_all.field-0.0 p.0 _ _ c.as_slice.result.now c.args.waiting.now.bytes.items
    c.args.waiting.now.bytes.items c.from_residual.result c.as_slice.ensures.value p.1 c.in_err-write_all.ensures.taken
