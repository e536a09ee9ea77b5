use Rattle.std.proofs.Common.{◌≡◌, ◌++◌}
use Rattle.std.specs.Prelude.{[], ◌∷◌, flat_map}
use Rattle.fabric.specs.declared.thing.Side.TheVariants.{L, R}
use Rattle.array_form.specs.Lists.{upright}
use Rattle.std.specs.List.{range_with_len}
use Rattle.slice_joints.proofs.joints.push_bit.Given as goal

abbrev pub invariant-loop-k : goal.invariant-loop-k
invariant-loop-k l = l.lines.items
    ≡ l.fn.lines.items ++ flat_map (λ b. upright l.column L b b ∷ upright l.column R b b ∷ []) (range_with_len 1 l.k)
