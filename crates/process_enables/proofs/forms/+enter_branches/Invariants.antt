use Rattle.std.proofs.Common.{length}
use Rattle.process_enables.proofs.forms.+enter_branches.Given as goal

abbrev pub decreases-enter_branches : goal.decreases-enter_branches
decreases-enter_branches l = length l.branches.now
