use Rattle.std.proofs.Common.{◌≡◌, ◌∙◌, ◌++◌, ◌∷◌, [], ℕ, ap, length, rules, reverse, drop, take, ◌+◌}
use Rattle.std.specs.Option.{option_to_list}
use Rattle.mp_base.proofs.Lists.{empty_of}
use Rattle.expansion.proofs.Layouts.{popped_none, popped_some}
use Rattle.expansion.proofs.layout.take_operands.Goals.{in-Some+in_ok-push, in_default}
use Rattle.expansion.proofs.layout.take_operands.Goals as goal

pub loop-preserved : goal.loop-preserved
loop-preserved c =
    let all = reverse c.args.stack.now.items in
    let old = c.loop.stack.items in
    let new = c.pop.new.self.items in
    let j : ℕ = c.loop.counter in
    let both : (c.match-pop.operands ≡ take (j + 1) all × reverse new ≡ drop (j + 1) all) = elim c.match-pop.branch [
      | in-Some+in_ok-push v ↦
          (let popped : old ≡ new ++ v.in-Some.operand ∷ [] = c.pop.ensures.items ∙ ap
          (λ o. new ++ option_to_list o) v.in-Some.is in
          popped_some all old new c.loop.operands c.match-pop.operands j v.in-Some.operand popped c.loop.invariant.taken
          c.loop.invariant.left (v.operands-is ∙ v.in_ok-push.ensures.ok))
      | in_default v ↦
          (let empty : length old ≡ 0 = search rules in
          let still : length new ≡ 0 = search rules in
          popped_none all old new c.match-pop.operands j (empty_of old empty) (empty_of new still)
          (v.operands-is ∙ c.loop.invariant.taken) c.loop.invariant.left)
    ] in
    record { taken = both.0; left = both.1 }
