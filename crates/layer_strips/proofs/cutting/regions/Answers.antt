-- Strips of one layer share no square.
use Rattle.std.proofs.Common.{sym, subst}
use Rattle.layer_strips.specs.Sweep.{AreApart}
use Rattle.layer_strips.proofs.Bridging.{are_apart}
use Rattle.layer_strips.proofs.cutting.regions.Goals as goal

pub all_pairs-requires-clause-apart : goal.all_pairs-requires-clause-apart
all_pairs-requires-clause-apart c =
    subst AreApart (sym c.as_slice.ensures)
    (are_apart c.args.shapes.now c.in_ok-strips.strips c.in_ok-strips.ensures.each c.in_ok-strips.ensures.once)
