use Rattle.std.proofs.Common.{ap, ◌∙◌, ◌++◌, ◌∷◌, []}
use Rattle.fabric_cases.proofs.Fabrics.{one_band}
use Rattle.fabric_cases.proofs.chip.fabric.Goals as goal

pub returns : goal.returns
returns c =
    let rows = c.in_ok-push.ensures.ok ∙ ap (λ rs. rs ++ c.args.rows ∷ []) c.new-bands.ensures in
    let small = one_band c.in_ok-fabric.fabric c.args.columns c.args.rows c.push.new.self c.in_ok-fabric.ensures rows
    c.requires.columns.1 c.requires.rows.1 in
    c.fabrics_are_on_grid.ensures c.in_ok-fabric.fabric c.conditions.ensures.met small.0 small.1
