use Rattle.std.proofs.Common.{◌<◌, ◌∙◌, length, arith}
use Rattle.kept_runs.specs.Kept.{width_of}
use Rattle.kept_runs.proofs.Colours.{to_border}
use Rattle.kept_runs.proofs.runs.KeptRuns.colour_at.Goals as goal

-- src/runs.rt
pub noted_at-requires : goal.noted_at-requires
unfolding width_of
noted_at-requires c = let h : c.args.cell < length c.args.self.now.colours.items = c.requires in
    let o = c.border_to.ensures.order in omega arith

-- src/runs.rt
pub returns : goal.returns
unfolding width_of
returns c = c.noted_at.ensures
    ∙ to_border c.args.self.now c.args.self.now.kept c.args.cell c.border_to.result c.requires c.border_to.ensures
