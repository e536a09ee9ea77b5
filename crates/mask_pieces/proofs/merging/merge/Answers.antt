use Rattle.std.proofs.Common.{sym, subst}
use Rattle.std.proofs.lemmas.Option.{slice_get-get_or}
use Rattle.mask_pieces.specs.Pieces.{no_piece}
use Rattle.mask_pieces.proofs.Listing.{IsMerged, merged_more, merged_turned, merged_all}
use Rattle.mask_pieces.proofs.merging.merge.Goals as goal

pub loop-i-preserved-then-comes_first : goal.loop-i-preserved-then-comes_first
loop-i-preserved-then-comes_first c =
    let a = c.args.a.now in
    let b = c.args.b.now in
    let k = c.if-comes_first.ensures in
    subst (IsMerged a b _ _) (sym c.in_ok-push.ensures.ok)
    (merged_more a b c.loop-i.i c.loop-i.j c.loop-i.merged _ c.requires.first c.requires.second c.loop-i.invariant k
    (slice_get-get_or a c.loop-i.i no_piece k.there))

pub loop-i-preserved : goal.loop-i-preserved
loop-i-preserved c =
    let a = c.args.a.now in
    let b = c.args.b.now in
    let k = c.if-comes_first.ensures in
    subst (IsMerged a b _ _) (sym c.in_ok-push-2.ensures.ok)
    (merged_turned b a _ _ _
    (merged_more b a c.loop-i.j c.loop-i.i c.loop-i.merged _ c.requires.second c.requires.first
    (merged_turned a b _ _ _ c.loop-i.invariant) k (slice_get-get_or b c.loop-i.j no_piece k.there)))

pub returns-clause-all : goal.returns-clause-all
returns-clause-all c =
    merged_all c.args.a.now c.args.b.now c.loop-i.i c.loop-i.j c.loop-i.merged c.loop-i.invariant c.if-i-a.false
    c.if-j-b.false
