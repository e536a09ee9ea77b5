use Rattle.std.proofs.lemmas.Result.{IfOk-weaker}
use Rattle.path_flat.specs.Numbers.{number_of}
use Rattle.path_flat.specs.Rows.{AreBits, IsWholeWith}
use Rattle.path_flat.proofs.flattening.number_pads.Goals as goal

pub returns : goal.returns
returns c =
    let p = c.args.path.now in
    let number = number_of c.in_ok-numbers.numbers in
    IfOk-weaker c.pad_rows.result (λ rows. AreBits p number rows.0 rows.1)
    (λ rows. IsWholeWith p c.number_whole.new.net rows.0 rows.1)
    (λ rows bits. record { of = number; whole = c.in_ok-numbers.ensures; bits = bits }) c.pad_rows.ensures
