use Rattle.std.proofs.Common.{◌<◌, length, inl, inr, arith}
use Rattle.kept_runs.specs.Kept.{width_of}
use Rattle.kept_runs.proofs.runs.KeptRuns.border_after.Goals as goal

-- src/runs.rt
pub overflow_add-cell : goal.overflow_add-cell
unfolding width_of
overflow_add-cell c =
    let s = c.args.self.now.kept.small in
    let h : c.args.cell < length c.args.self.now.colours.items = c.requires in
    omega arith

-- src/runs.rt
pub first_from-requires : goal.first_from-requires
unfolding width_of
first_from-requires c = let r = c.args.self.now.kept.room in
    let h : c.args.cell < length c.args.self.now.colours.items = c.requires in omega arith

-- src/runs.rt
pub returns-in-Some : goal.returns-in-Some
unfolding width_of
returns-in-Some c =
    let s = c.in-Some.ensures.some in
    let o = s.order in
    let w = c.args.self.now.kept.within c.in-Some.border s.own in
    record { order = omega arith; within = omega arith; none = λ d h l. s.none d (omega arith) l; own = inr s.own }

-- src/runs.rt
pub returns-in-None : goal.returns-in-None
returns-in-None c =
    let e = c.cells.ensures in
    record {
      order = omega arith;
      within = omega arith;
      none = λ d h l. c.in-None.ensures.none d (omega arith);
      own = inl e;
    }
