use Rattle.std.proofs.Common.{arith}
use Rattle.nor_net.specs.declared.net.Part.TheVariants.{Input}
use Rattle.path_form.specs.Sizes.{reads}
use Rattle.path_reducing.proofs.Any.{any_at}
use Rattle.path_reducing.proofs.reading.is_read.Goals as goal

pub returns-then-reads : goal.returns-then-reads
returns-then-reads c = λ e.
    any_at (reads (c.args.id).0) c.args.net.now c.loop-part.part Input c.reads.result
    (let n = c.len-part-end.ensures.len in omega (arith, n)) c.reads.ensures c.if-reads.true
