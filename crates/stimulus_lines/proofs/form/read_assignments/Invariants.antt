use Rattle.std.proofs.Common.{take}
use Rattle.stimulus_lines.specs.Forms.{AreAssignments}
use Rattle.stimulus_lines.proofs.form.read_assignments.Given as goal

abbrev pub invariant-loop-word : goal.invariant-loop-word
invariant-loop-word l = AreAssignments (take l.word-index l.words) l.all
