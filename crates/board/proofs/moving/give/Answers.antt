use Rattle.std.proofs.Common.{◌+◌, ℕ, List, length, arith, ap, ◌∙◌, take}
use Rattle.std.proofs.lemmas.List.{length-set}
use Rattle.board.proofs.Given.{give_more, given_all}
use Rattle.board.proofs.moving.give.Goals as goal

pub loop-input-preserved : goal.loop-input-preserved
loop-input-preserved g c =
    let k : ℕ = c.loop-input.input in record {
      long = ap (λ (xs : List ℕ). length xs) c.set.ensures ∙ length-set c.loop-input.inputs k c.given.result
          ∙ c.loop-input.invariant.long;
      given = ap (λ xs. take (k + 1) xs) c.set.ensures
          ∙ give_more c.args.links.now _ c.args.clock c.args.pads.now k c.given.result c.index-pads-input.result
          c.loop-input.inputs c.loop-input-test.true c.loop-input.invariant.long c.index-pads-input.is c.given.ensures
          c.loop-input.invariant.given;
    }

pub returns : goal.returns
returns g c =
    given_all c.args.links.now _ c.args.clock c.args.pads.now c.loop-input.input c.loop-input.inputs
    (omega (arith, c.loop-input-test.false, c.requires.few)) c.loop-input.invariant.long c.loop-input.invariant.given
