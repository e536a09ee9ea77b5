use Rattle.std.proofs.Common.{◌≤◌, length, sym, subst, arith}
use Rattle.cif_form.specs.Scans.TextRule.{C2}
use Rattle.cif_reader.proofs.Scanned.{Reached, reached_start, reached_next, reached_break, refused_at, short}
use Rattle.cif_reader.proofs.read.add_commands.Goals as goal

pub commands-init : goal.commands-init
commands-init c = reached_start c.args.bytes.now c.args.cif.now c.requires.empty c.requires.early

pub returns-then-start-bytes-clause-first : goal.returns-then-start-bytes-clause-first
returns-then-start-bytes-clause-first c =
    let bytes = c.args.bytes.now in
    let start = c.skip-start.result in
    let end : length bytes ≤ start = omega arith in
    reached_break bytes c.commands.cif c.commands.inside c.commands.at start c.broken.result
    c.commands.invariant c.skip-start.ensures.skipped
    (refused_at bytes start c.commands.inside C2 start c.broken.result
    c.broken.ensures (short bytes start c.commands.inside end))

pub commands-preserved : goal.commands-preserved
commands-preserved c =
    let bytes = c.args.bytes.now in
    let next = c.in_ok-next.next in
    subst (λ items. Reached bytes items next.inside next.end) (sym c.in_ok-push.ensures.ok)
    (reached_next bytes c.commands.cif c.commands.inside next.inside c.commands.at c.skip-start.result next.end
    next.command c.commands.invariant c.skip-start.ensures.skipped
    c.in_ok-next.ensures.ok)
