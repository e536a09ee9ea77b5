use Rattle.std.proofs.Common.{subst, sym}
use Rattle.std.specs.Prelude.{None}
use Rattle.mask_files.specs.declared.limits.TheConstants.{MASK_LIMIT}
use Rattle.mask_net.specs.Masks.{OfMask}
use Rattle.outcome.specs.Order.{OfFile}
use Rattle.silicon.proofs.laws.compiled_files_are_read.Goals as goal

pub returns : goal.returns
returns c = λ lent source chip cif files made held.
    subst (λ content. OfFile MASK_LIMIT OfMask cif content None) (sym held)
    (made.short, c.chips_run.ensures.draws made.program chip made.masks)
