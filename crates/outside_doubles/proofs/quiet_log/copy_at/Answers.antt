use Rattle.std.proofs.Common.{◌∙◌, ap, take, length, ◌++◌, ◌≡◌, arith}
use Rattle.std.proofs.lemmas.List.{length-take-le}
use Rattle.outside_doubles.proofs.QuietReadings.{front_of}
use Rattle.outside_doubles.proofs.quiet_log.copy_at.Goals as goal

pub returns : goal.returns
returns c =
    let size : length c.copy_from_slice.new.self ≡ length c.args.bytes.now = ap length
    c.copy_from_slice.ensures.after in
    front_of (take c.args.place c.args.buf.now) c.copy_from_slice.new.self _ c.args.place (length c.args.bytes.now)
    (length-take-le c.args.place c.args.buf.now (omega arith)) size
    ∙ ap (λ t. take c.args.place c.args.buf.now ++ t) c.copy_from_slice.ensures.after
