use Rattle.std.proofs.Common.{◌∙◌, arith, refl}
use Rattle.outside.proofs.FilesLemmas.{grows_piece, piece_fits, grows_nothing, held_grown}
use Rattle.outside.proofs.transfer.append_all.Goals as goal

pub loop-at-init : goal.loop-at-init
loop-at-init g c =
    record {
      within = omega arith;
      held = c.requires;
      taken = grows_nothing c.args.name.now _ c.requires;
      quiet = refl;
      reads = refl;
    }

pub loop-at-preserved : goal.loop-at-preserved
loop-at-preserved g c =
    let step = c.in_ok-at.ensures.taken in
    record {
      within = piece_fits c.args.bytes.now c.loop-at.at c.in_ok-at.field-0 c.loop-at.invariant.within step.0;
      held = held_grown c.args.name.now _ _ _ step.2;
      taken = grows_piece c.args.name.now c.args.bytes.now c.loop-at.at c.in_ok-at.field-0 _ _ _
          c.loop-at.invariant.taken step.2;
      quiet = c.in_ok-at.ensures.cause.ok ∙ c.loop-at.invariant.quiet;
      reads = c.in_ok-at.ensures.reads ∙ c.loop-at.invariant.reads;
    }
