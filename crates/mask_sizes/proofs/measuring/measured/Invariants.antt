use Rattle.mask_sizes.proofs.measuring.measured.Given as goal

abbrev pub ghost-classes_of : goal.ghost-classes_of
ghost-classes_of a = a.shapes.now
