use Rattle.std.proofs.Common.{refl, subst, sym, take, ◌+◌}
use Rattle.std.specs.List.{AllZip}
use Rattle.bit_gates.specs.Rails.{BitOf}
use Rattle.bit_gates.proofs.Zipping.{zip_more}
use Rattle.bit_gates.proofs.rails.bits_of.Goals as goal

pub named-requires : goal.named-requires
named-requires c = c.requires c.loop-index.index-index 0 c.loop-index-test.true

pub loop-index-preserved : goal.loop-index-preserved
loop-index-preserved c =
    subst (AllZip (BitOf c.args.entries.now) (take (c.loop-index.index-index + 1) c.args.indices.now))
    (sym c.in_ok-push.ensures.ok)
    (zip_more (BitOf c.args.entries.now) c.args.indices.now c.loop-index.ids c.loop-index.index-index 0
    c.named.result.bit
    c.loop-index-test.true c.loop-index.invariant (c.named.result, c.named.ensures, refl))
