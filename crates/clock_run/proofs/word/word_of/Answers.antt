use Rattle.std.proofs.Common.{◌≡◌, ◌∙◌, ◌<◌, ◌^◌, length, subst, refl, arith}
use Rattle.switch_net.specs.Values.{value_at}
use Rattle.clock_run.proofs.Trits.{word_more, word_all}
use Rattle.clock_run.proofs.word.word_of.Goals as goal

pub loop-k-init : goal.loop-k-init
loop-k-init c = record { masked = refl; narrow = omega arith; each = λ j lt. absurd (omega (arith, lt)) }

pub loop-k-preserved : goal.loop-k-preserved
loop-k-preserved c =
    let w = c.with_bit-word in
    word_more
    (value_at c.args.values.now) c.args.nodes.now c.loop-k.k c.loop-k.word.0 c.loop-k.word.1.0 w.result
    c.loop-k.invariant
    w.ensures.narrow w.ensures.below (w.ensures.bit ∙ c.value_at.ensures)

pub invariant_of-word : goal.invariant_of-word
invariant_of-word c = record { masked = c.loop-k.invariant.masked }

pub with_bit-word-requires-clause-narrow : goal.with_bit-word-requires-clause-narrow
with_bit-word-requires-clause-narrow c = c.loop-k.invariant.narrow

pub invariant_of-word-2 : goal.invariant_of-word-2
invariant_of-word-2 c = record { masked = c.loop-k.invariant.masked }

pub returns-clause-narrow : goal.returns-clause-narrow
returns-clause-narrow c =
    let e : c.loop-k.k ≡ length c.args.nodes.now = omega arith in
    subst (λ n. c.loop-k.word.0 < 2 ^ n) e c.loop-k.invariant.narrow

pub returns-clause-bits : goal.returns-clause-bits
returns-clause-bits c =
    word_all (value_at c.args.values.now) c.args.nodes.now c.loop-k.k _ c.loop-k.invariant c.loop-k-test.false
