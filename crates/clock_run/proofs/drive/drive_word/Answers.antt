use Rattle.std.proofs.Common.{◌∙◌, ◌<◌, get_or, length, sym, arith}
use Rattle.std.proofs.lemmas.List.{get_or_default}
use Rattle.mp_base.specs.PadBits.{low_bits}
use Rattle.switch_net.proofs.Labels.{low_bit}
use Rattle.clock_run.proofs.Driven.{set_more}
use Rattle.clock_run.proofs.drive.drive_word.Goals as goal

pub loop-k-preserved : goal.loop-k-preserved
loop-k-preserved c = λ driver z.
    let nodes = c.args.nodes.now in
    let k = c.loop-k.k in
    let n = get_or nodes k 0 in
    let lt : k < length nodes = c.loop-k-test.true in
    let inside : n < length c.args.drive.now = c.requires.inside k 0 lt in
    set_more driver nodes (low_bits (length nodes) c.args.word) k n c.bit.result c.args.drive.now c.loop-k.drive lt
    (get_or_default nodes k 0 n lt)
    (c.bit.ensures ∙ sym (low_bit (length nodes) c.args.word k c.bit.result lt))
    (omega (arith, inside, c.loop-k.auto.drive)) z
    (c.loop-k.invariant driver z)
