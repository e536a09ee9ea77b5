use Rattle.std.proofs.Common.{◌<◌, length, subst, sym, ap, arith}
use Rattle.std.specs.Prelude.{All}
use Rattle.std.proofs.lemmas.Slice.Zip.{AllZip-long}
use Rattle.nor_net.specs.declared.net.NetId.{NetId}
use Rattle.bit_gates.specs.Cells.{IsTerm}
use Rattle.bit_gates.proofs.Terms.{terms_below}
use Rattle.bit_gates.proofs.cells.lower_driven.Goals as goal

pub add_pair-requires-clause-inputs_room : goal.add_pair-requires-clause-inputs_room
add_pair-requires-clause-inputs_room c =
    let n = AllZip-long (IsTerm c.args.exprs.now (length c.args.net.now) c.add_terms.new.net) c.args.transfers.now
    c.in_ok-terms.terms c.in_ok-terms.ensures.each in
    let s = ap length c.as_slice.ensures in
    let i = c.in_ok-terms.ensures.counted.input_count in
    let r = c.requires.room.inputs_room in
    omega (arith, n, s, i, r)

pub add_pair-requires-clause-inputs : goal.add_pair-requires-clause-inputs
add_pair-requires-clause-inputs c =
    subst (All (λ (j : NetId). j.0 < length c.add_terms.new.net)) (sym c.as_slice.ensures)
    (terms_below c.args.exprs.now c.args.transfers.now c.args.net.now c.add_terms.new.net c.in_ok-terms.terms
    c.in_ok-terms.ensures)
