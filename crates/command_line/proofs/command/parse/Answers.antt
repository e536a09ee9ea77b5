use Rattle.std.proofs.Common.{arith, map, string_bytes}
use Rattle.std.proofs.lemmas.List.{length-map}
use Rattle.command_line.proofs.Parsed.{parsed}
use Rattle.command_line.proofs.command.parse.Goals as goal

pub returns : goal.returns
returns c =
    let called = c.try_get_matches_from.ensures in
    rw c.answered.ensures
    (parsed _ (map string_bytes c.args.words.now) c.try_get_matches_from.result c.in_ok-app.ensures called.kinds
    called.matches c.requires (rw length-map (omega arith)))
