use Rattle.std.proofs.Common.{◌≡◌, ◌∙◌, rules, sym, false, string_bytes}
use Rattle.std.specs.List.{list_any}
use Rattle.clap.proofs.WalkLemmas.{list_any-map}
use Rattle.command_line.specs.Command.{begins_with_dash}
use Rattle.command_line.proofs.command.command_of.Goals as goal

pub found_command-requires : goal.found_command-requires
found_command-requires c =
    let plain : list_any (λ word. begins_with_dash (string_bytes word)) c.args.words.now ≡ false = search rules in
    sym (list_any-map begins_with_dash string_bytes c.args.words.now) ∙ plain
