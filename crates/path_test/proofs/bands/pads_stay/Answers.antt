use Rattle.std.proofs.Common.{arith}
use borrow.Author.Count.{below_more}
use Rattle.std.proofs.lemmas.Option.{slice_get_within}
use Rattle.path_test.specs.Testing.{PadStays}
use Rattle.path_test.proofs.bands.pads_stay.Goals as goal

pub loop-index-preserved : goal.loop-index-preserved
loop-index-preserved c =
    below_more (PadStays c.args.images.now c.args.pads.now c.args.ids.now c.args.others.now) c.loop-index.index
    c.loop-index.invariant (c.pad_stays.ensures c.if-not-pad_stays.false)

pub returns : goal.returns
returns c = λ _ i pad id other pad_at id_at other_at.
    let within = slice_get_within c.args.pads.now i pad pad_at in
    c.loop-index.invariant i (omega (arith, within)) pad id other pad_at id_at other_at
