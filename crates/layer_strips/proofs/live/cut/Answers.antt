-- What `remove` says of the key.
use Rattle.std.proofs.Common.{◌≡◌, subst, None}
use Rattle.std.specs.BTreeMap.{get}
use Rattle.std.specs.Int.{w64}
use Rattle.std.specs.Ordering.{int_cmp}
use Rattle.std.proofs.lemmas.Int.{to_z-of_z}
use Rattle.layer_strips.proofs.live.cut.Goals as goal

pub returns-clause-here : goal.returns-clause-here
returns-clause-here c =
    subst (λ k. get int_cmp c.remove.new.self k ≡ None)
    (to_z-of_z w64 c.args.right c.ranges.right) c.remove.ensures.updates.1
