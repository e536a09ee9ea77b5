use Rattle.std.proofs.Common.{◌≡◌, map, take}
use Rattle.board_run.specs.Left.{link_left}
use Rattle.board_run.proofs.taking.links_left.Given as goal

abbrev pub invariant-loop-link : goal.invariant-loop-link
invariant-loop-link l = l.links ≡ map (link_left l.plan.swaps) (take l.link-index l.plan.links)
