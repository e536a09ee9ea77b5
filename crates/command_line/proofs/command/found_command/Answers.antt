use Rattle.std.proofs.Common.{◌≡◌, ◌∙◌, ap, drop, map, string_bytes, sym}
use Rattle.std.proofs.lemmas.List.{drop-map}
use Rattle.clap.specs.Words.{subcommand_rows_of}
use Rattle.command_line.specs.Command.{form_of}
use Rattle.command_line.specs.Read.{read_met}
use Rattle.command_line.proofs.command.found_command.Goals as goal

pub returns-in-Some : goal.returns-in-Some
returns-in-Some c =
    let formed : read_met (drop 4 (map string_bytes c.args.words.now)) (subcommand_rows_of c.in-Some.matches)
    ≡ form_of (map string_bytes c.args.words.now) = rw c.in-Some.is at c.in_ok-matches.ensures in
    c.command_met.ensures
    ∙ (ap (λ links. read_met links (subcommand_rows_of c.in-Some.matches))
    (ap (map string_bytes) c.links.ensures ∙ sym (drop-map string_bytes 4 c.args.words.now)) ∙ formed)
