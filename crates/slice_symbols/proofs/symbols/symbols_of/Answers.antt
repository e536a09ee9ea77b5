use Rattle.std.proofs.Common.{sym, subst}
use Rattle.std.specs.Prelude.{All}
use Rattle.std.specs.List.Sorted.{IsStrictlySortedBy}
use Rattle.slice_symbols.specs.Drawn.{symbols_of_both}
use Rattle.slice_symbols.specs.Standing.{AreParted, IsOfBand, standing_cmp}
use Rattle.slice_symbols.proofs.Drawn.{drawn_by_both, made_of_both}
use Rattle.slice_symbols.proofs.Sharing.{are_shared, shared_out, stood_in_order}
use Rattle.slice_symbols.proofs.symbols.symbols_of.Goals as goal

pub share-requires-clause-of_bands : goal.share-requires-clause-of_bands
share-requires-clause-of_bands c =
    subst (All (IsOfBand c.args.bands)) (sym c.as_slice.ensures)
    (stood_in_order c.args.rects.now c.args.bands c.in_ok-standing.standing c.in_order-standing.result
    c.in_ok-standing.rest c.in_order-standing.ensures c.in_ok-standing.ensures).of_bands

pub share-requires-clause-ascending : goal.share-requires-clause-ascending
share-requires-clause-ascending c =
    subst (IsStrictlySortedBy standing_cmp) (sym c.as_slice.ensures) c.in_order-standing.ensures.ascending

pub returns : goal.returns
returns c =
    let rects = c.args.rects.now in
    let bands = c.args.bands in
    let standing = c.in_order-standing.result in
    let before = c.in_ok-standing.rest in
    let common = c.in_ok-common.common in
    let rest = c.share.new.rest in
    let some = c.requires.some in
    let stood = stood_in_order rects bands c.in_ok-standing.standing standing before c.in_order-standing.ensures
    c.in_ok-standing.ensures in
    let parted : AreParted bands standing before common rest =
    subst (λ ss. AreParted bands ss before common rest) c.as_slice.ensures c.in_ok-common.ensures in
    let ordered = c.each_once.result in
    made_of_both rects bands (symbols_of_both bands common ordered) c.both.result
    (drawn_by_both rects bands common ordered some c.requires.usable.few
    (shared_out rects bands some standing before stood common rest parted ordered c.each_once.ensures)
    (are_shared rects bands some standing before stood common rest parted ordered c.each_once.ensures))
    c.both.ensures
