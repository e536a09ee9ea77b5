use Rattle.std.proofs.Common.{◌≡◌, ◌++◌}
use Rattle.path_laying.proofs.laying.groups_of.Given as goal

abbrev pub invariant-loop-tracks : goal.invariant-loop-tracks
invariant-loop-tracks l = l.groups.items ≡ l.initial.groups.items ++ l.yielded
