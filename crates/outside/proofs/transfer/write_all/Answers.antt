use Rattle.std.proofs.Common.{◌∙◌}
use Rattle.outside.proofs.FilesLemmas.{gains_piece, piece_fits}
use Rattle.outside.proofs.transfer.write_all.Goals as goal

pub loop-at-preserved : goal.loop-at-preserved
loop-at-preserved g c =
    let step = c.in_ok-at.ensures.taken in
    record {
      within = piece_fits c.args.text.now c.loop-at.at c.in_ok-at.field-0 c.loop-at.invariant.within step.0;
      taken = gains_piece c.args.text.now c.loop-at.at c.in_ok-at.field-0 _ _ _ c.loop-at.invariant.taken step.2;
      quiet = c.in_ok-at.ensures.cause.ok ∙ c.loop-at.invariant.quiet;
    }
