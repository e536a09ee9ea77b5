use Rattle.std.proofs.Common.{[]}
use Rattle.mask_sizes.proofs.measuring.classes_of.Given as goal

abbrev pub ghost-classify : goal.ghost-classify
ghost-classify g a = (g.drawn, [])
