use Rattle.std.proofs.Common.{ℕ, ◌<◌}
use Rattle.rtl_form.specs.declared.rtl.CellKind.TheVariants.{Output}
use Rattle.rtl_check.specs.Parts.{HasOne}
use Rattle.rtl_check.proofs.pads.have_outputs.Given as goal

abbrev pub invariant-loop-pad : goal.invariant-loop-pad
invariant-loop-pad l = (k : ℕ) → k < l.pad → HasOne l.cells (Output k)
