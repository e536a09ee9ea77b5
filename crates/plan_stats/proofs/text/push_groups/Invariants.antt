use Rattle.std.proofs.Common.{◌≡◌, ◌++◌, take}
use Rattle.plan_stats.specs.Text.{group_lines}
use Rattle.plan_stats.proofs.text.push_groups.Given as goal

abbrev pub invariant-loop-index : goal.invariant-loop-index
invariant-loop-index l = l.text.items ≡ l.initial.text.items ++ group_lines 0 (take l.index l.groups)
