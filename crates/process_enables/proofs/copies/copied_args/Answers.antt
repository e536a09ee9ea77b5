use Rattle.std.proofs.Common.{◌<◌, ℕ, length, get_or}
use Rattle.std.proofs.lemmas.List.{get_or_default}
use Rattle.process_enables.proofs.copies.copied_args.Goals as goal

pub copy_of-requires : goal.copy_of-requires
copy_of-requires c =
    let i : ℕ = c.loop-arg.arg-index in
    let a : ℕ = get_or c.args.args.now i 0 in
    let lt : i < length c.args.args.now = c.loop-arg-test.true in
    c.requires a (i, lt, get_or_default c.args.args.now i a 0 lt)
