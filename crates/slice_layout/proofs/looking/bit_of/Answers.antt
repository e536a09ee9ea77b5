use Rattle.std.proofs.Common.{◌==◌, ◌∙◌, Some, sym, ap}
use Rattle.std.proofs.lemmas.Nat.Bits.{shr_and_one}
use Rattle.slice_layout.proofs.Found.{bit_is}
use Rattle.slice_layout.proofs.looking.bit_of.Goals as goal

pub returns : goal.returns
returns c =
    bit_is c.args.program.bits c.args.path.now.width c.args.k c.requires
    ∙ ap (λ z. Some (z == 1)) (sym (shr_and_one c.args.program.bits c.args.k))
