use Rattle.std.proofs.Common.{ℕ, [], ◌∷◌, ◌++◌, ◌≡◌, ◌∙◌, ap, append_assoc, arith}
use Rattle.std.specs.Prelude.{flat_map}
use Rattle.std.specs.List.{range_with_len}
use Rattle.fabric.specs.declared.thing.Side.TheVariants.{L, R}
use Rattle.array_form.specs.Lists.{upright}
use Rattle.slice_form.specs.Whole.{path_of, programmed_of}
use Rattle.slice_layout.proofs.Growth.{bands_grown}
use Rattle.slice_joints.proofs.Joined.{bit_joined}
use Rattle.slice_joints.proofs.joints.push_bit.Goals as goal

pub loop-k-preserved : goal.loop-k-preserved
loop-k-preserved c =
    let items = c.loop-k.lines.items in
    let column : ℕ = c.home_of-column.result in
    let a = c.line.ensures in
    let b = c.line-in-loop-k.ensures in
    bands_grown c.args.lines.now.items (λ b. upright column L b b ∷ upright column R b b ∷ []) c.loop-k.k _ _
    c.loop-k.invariant
    (c.in_ok-push-2.ensures.items
    ∙ (ap (λ l. l ++ c.line-in-loop-k.result ∷ []) c.in_ok-push.ensures.items
    ∙ (append_assoc items (c.line.result ∷ []) (c.line-in-loop-k.result ∷ []) ∙ (λ j. items ++ a j ∷ b j ∷ []))))

pub returns : goal.returns
returns c =
    let p = path_of c.args.path.now in
    let column : ℕ = c.home_of-column.result in
    let end : c.loop-k.k ≡ p.width = omega arith in
    bit_joined p c.args.i (programmed_of p.width c.program_at.result) c.program_at.ensures.is column
    c.home_of-column.ensures c.args.lines.now.items _
    (c.loop-k.invariant ∙ ap (λ n. c.args.lines.now.items ++ flat_map
    (λ b. upright column L b b ∷ upright column R b b ∷ []) (range_with_len 1 n)) end)
