use Rattle.std.proofs.Common.{take, All}
use Rattle.cif_form.specs.Labels.{IsSpace}
use Rattle.cif_flat.proofs.label.space_count.Given as goal

abbrev pub invariant-loop-index : goal.invariant-loop-index
invariant-loop-index l = All IsSpace (take l.index l.text)
