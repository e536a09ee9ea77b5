use Rattle.std.proofs.Common.{◌≡◌, ◌∙◌, rules}
use Rattle.fabric_cases.proofs.Copied.{refilled}
use Rattle.fabric_cases.proofs.build.copy.Goals as goal

pub add-requires-clause-met : goal.add-requires-clause-met
add-requires-clause-met c =
    let rows : c.in_ok-rows.rows.items ≡ c.rows.result.now = search rules in
    refilled c.args.fabric.now c.in_ok-copy.copy c.columns.result c.from_vec.result c.segments.result.now
    c.lines.result.now c.marks.result.now c.conditions.ensures.met c.in_ok-copy.ensures c.columns.ensures
    (c.from_vec.ensures ∙ rows ∙ c.rows.ensures) c.segments.ensures c.lines.ensures c.marks.ensures
