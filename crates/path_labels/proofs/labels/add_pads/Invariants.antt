use Rattle.path_labels.proofs.Adding.{AddsFirst}
use Rattle.path_labels.proofs.labels.add_pads.Given as goal

abbrev pub invariant-loop-index : goal.invariant-loop-index
invariant-loop-index l = AddsFirst l.path l.fabric l.pads l.nets l.initial.corners l.index l.corners
