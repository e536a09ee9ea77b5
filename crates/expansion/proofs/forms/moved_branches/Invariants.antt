use Rattle.std.proofs.Common.{◌≡◌, map}
use Rattle.std.specs.Prelude.{slice_index}
use Rattle.mp_written.specs.Expansion.{moved_branch}
use Rattle.expansion.proofs.forms.moved_branches.Given as goal

abbrev pub invariant-loop-branch : goal.invariant-loop-branch
invariant-loop-branch l = l.list ≡ map (moved_branch (slice_index l.starts)) l.yielded
