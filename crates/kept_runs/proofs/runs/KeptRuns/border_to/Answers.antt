use Rattle.std.proofs.Common.{◌<◌, length, arith}
use Rattle.std.proofs.lemmas.Bool.{both_ways}
use Rattle.kept_runs.specs.Kept.{width_of}
use Rattle.kept_runs.proofs.runs.KeptRuns.border_to.Goals as goal

-- src/runs.rt
pub overflow_add-cell : goal.overflow_add-cell
unfolding width_of
overflow_add-cell c =
    let s = c.args.self.now.kept.small in
    let h : c.args.cell < length c.args.self.now.colours.items = c.requires in
    omega arith

-- src/runs.rt
pub last_before-requires : goal.last_before-requires
unfolding width_of
last_before-requires c = let r = c.args.self.now.kept.room in
    let h : c.args.cell < length c.args.self.now.colours.items = c.requires in omega arith

-- src/runs.rt
pub returns-in-Some : goal.returns-in-Some
returns-in-Some c =
    let s = c.in-Some.ensures.some in
    let o = s.order in
    record { order = omega arith; own = s.own; none = λ d h l. s.none d h (omega arith) }

-- src/runs.rt
pub returns-in-None : goal.returns-in-None
returns-in-None c = absurd (both_ways _ (c.in-None.ensures.none 0 (omega arith)) c.args.self.now.kept.first)
