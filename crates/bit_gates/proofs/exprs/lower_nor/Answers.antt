use Rattle.std.proofs.Common.{◌<◌, length, subst, sym, ap, arith}
use Rattle.std.specs.Prelude.{All}
use Rattle.std.proofs.lemmas.Slice.Zip.{AllZip-long}
use Rattle.nor_net.specs.declared.net.NetId.{NetId}
use Rattle.bit_gates.specs.Rails.{BitOf}
use Rattle.bit_gates.proofs.Naming.{bits_below}
use Rattle.bit_gates.proofs.exprs.lower_nor.Goals as goal

pub add_pair-requires-clause-inputs_room : goal.add_pair-requires-clause-inputs_room
add_pair-requires-clause-inputs_room c =
    let n = AllZip-long (BitOf c.args.exprs.now) c.args.args.now c.in_ok-inputs.inputs c.in_ok-inputs.ensures in
    let s = ap length c.as_slice.ensures in
    let r = c.requires.room.inputs_room in
    omega (arith, n, s, r)

pub add_pair-requires-clause-inputs : goal.add_pair-requires-clause-inputs
add_pair-requires-clause-inputs c =
    subst (All (λ (j : NetId). j.0 < length c.args.net.now)) (sym c.as_slice.ensures)
    (bits_below (length c.args.net.now) c.args.exprs.now c.requires.below c.args.args.now c.in_ok-inputs.inputs
    c.in_ok-inputs.ensures)
