use Rattle.std.proofs.Common.{◌≡◌, false, map, take}
use Rattle.std.specs.List.{list_any, list_all}
use Rattle.nor_net.specs.Passing.{at}
use Rattle.nor_net.specs.Settled.{is_one, is_zero}
use Rattle.nor_net.proofs.setting.nor_of.Given as goal

abbrev pub invariant-loop-id : goal.invariant-loop-id
invariant-loop-id l =
    (list_any is_one (map (at l.values) (take l.id-index l.inputs)) ≡ false)
    × (list_all is_zero (map (at l.values) (take l.id-index l.inputs)) ≡ l.all_zero)
