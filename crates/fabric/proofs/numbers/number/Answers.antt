use Rattle.std.proofs.Common.{arith, ◌+◌, ◌++◌, ◌∷◌, [], get_or, sym, ap, ◌∙◌, subst₂}
use Rattle.fabric.proofs.Classes.{ClassesSoFar, begins, goes_on, all_numbered}
use Rattle.fabric.proofs.numbers.number.Goals.{then-root-i+in_ok-push, else-root-i+in_ok-push-2}
use Rattle.fabric.proofs.numbers.number.Goals as goal

pub overflow_add-count : goal.overflow_add-count
overflow_add-count c = let f = c.loop-i.invariant.few in let g = c.requires.few in let t = c.loop-i-test.true in
    omega arith

pub loop-i-preserved : goal.loop-i-preserved
loop-i-preserved c = elim c.if-root-i.branch [
  | then-root-i+in_ok-push w ↦ subst₂ (λ n k. ClassesSoFar c.args.least.now n k (c.loop-i.i + 1)) (sym w.numbers-is)
      (sym w.count-is)
      (begins c.args.least.now c.loop-i.numbers c.loop-i.count c.loop-i.i c.loop-i.invariant
      (omega (arith, c.loop-i-test.true)) c.requires.below w.if-root-i.true w.push.new.self w.in_ok-push.ensures.ok)
  | else-root-i+in_ok-push-2 w ↦ subst₂ (λ n k. ClassesSoFar c.args.least.now n k (c.loop-i.i + 1)) (sym w.numbers-is)
      (sym w.count-is)
      (goes_on c.args.least.now c.loop-i.numbers c.loop-i.count c.loop-i.i c.loop-i.invariant
      (let b = c.requires.below c.loop-i.i (omega (arith, c.loop-i-test.true)) in omega (arith, w.if-root-i.false))
      (c.requires.roots c.loop-i.i (omega (arith, c.loop-i-test.true))) w.push-else-root-i.new.self
      (w.in_ok-push-2.ensures.ok ∙ ap (λ z. c.loop-i.numbers ++ get_or z (get_or c.args.least.now c.loop-i.i 0) 0
      ∷ []) w.as_slice.ensures))
]

pub returns : goal.returns
returns c = all_numbered c.args.least.now c.loop-i.numbers c.loop-i.count c.loop-i.i c.loop-i.invariant
    (omega (arith, c.loop-i-test.false))
